-- `seats::mark_fits` meets its contract: by the variant that the match found, and the tests of the two accounts.
use mathlib.Core.Path.{sym, ◌∙◌, ap}
use borrow.Author.Tests.{eq-eqb, ne_eqb}
use Rattle.regions.specs.Desk.{mark_fits}
use Rattle.seats.proofs.mark_fits.Goals as goal

pub returns-in-Fresh : goal.returns-in-Fresh
unfolding mark_fits
returns-in-Fresh c = sym (ap (mark_fits c.args.account) c.in-Fresh.is)

pub returns-then-account_of-account : goal.returns-then-account_of-account
unfolding mark_fits
returns-then-account_of-account c = let k = c.args.account in sym (ap (mark_fits k) c.in-Last.is ∙ simp (← c.account_of.ensures, eq-eqb _ _ c.if-account_of-account.true, ← c.account_of-then-account_of-account.ensures))

pub returns-else-account_of-account : goal.returns-else-account_of-account
unfolding mark_fits
returns-else-account_of-account c = let k = c.args.account in sym (ap (mark_fits k) c.in-Last.is ∙ simp (← c.account_of.ensures, ne_eqb _ _ c.if-account_of-account.false))
