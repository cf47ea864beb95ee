-- `seats::seat_fits` meets its contract: by the variant that the match found, and the tests on its fields.
use mathlib.Core.Path.{sym, ◌∙◌, ap}
use borrow.Author.Tests.{lt-leb, le-leb}
use Rattle.regions.specs.Desk.{state_fits}
use Rattle.seats.proofs.seat_fits.Goals as goal

pub returns-then-o-gt-LAST_ACCOUNT : goal.returns-then-o-gt-LAST_ACCOUNT
unfolding state_fits
returns-then-o-gt-LAST_ACCOUNT c = sym (ap state_fits c.in-Open.is ∙ simp (lt-leb _ _ c.if-o-gt-LAST_ACCOUNT.true))

pub returns-then-o-lt1 : goal.returns-then-o-lt1
unfolding state_fits
returns-then-o-lt1 c = sym (ap state_fits c.in-Open.is ∙ simp (le-leb _ _ c.if-o-gt-LAST_ACCOUNT.false, lt-leb _ _ c.if-o-lt1.true))

pub returns-then-o-gt-MOST_A_ROUND : goal.returns-then-o-gt-MOST_A_ROUND
unfolding state_fits
returns-then-o-gt-MOST_A_ROUND c = sym (ap state_fits c.in-Open.is ∙ simp (le-leb _ _ c.if-o-gt-LAST_ACCOUNT.false, le-leb _ _ c.if-o-lt1.false, lt-leb _ _ c.if-o-gt-MOST_A_ROUND.true))

pub returns-in-Closed : goal.returns-in-Closed
unfolding state_fits
returns-in-Closed c = sym (ap state_fits c.in-Closed.is)

pub returns-else-o-gt-MOST_A_ROUND : goal.returns-else-o-gt-MOST_A_ROUND
unfolding state_fits
returns-else-o-gt-MOST_A_ROUND c = c.mark_fits.ensures ∙ sym (ap state_fits c.in-Open.is ∙ simp (le-leb _ _ c.if-o-gt-LAST_ACCOUNT.false, le-leb _ _ c.if-o-lt1.false, le-leb _ _ c.if-o-gt-MOST_A_ROUND.false))
