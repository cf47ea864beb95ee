-- `seats::opens` meets its contract: by the variant that the match found, and the tests.
use mathlib.Core.Path.{refl, sym, ◌∙◌, ap}
use borrow.Author.Tests.{lt-ltb, le-ltb}
use Rattle.words.specs.Lists.{first_no}
use Rattle.regions.specs.Desk.{state_open, open_at}
use Rattle.regions.specs.declared.Mark.TheVariants.{Fresh}
use Prim.Native.Nat.{ℕ}
use Rattle.regions.specs.declared.State.{State}
use Rattle.seats.specs.Steps.{opens_no}
use Rattle.seats.proofs.opens.Goals as goal

pub returns-then-account-gt-LAST_ACCOUNT : goal.returns-then-account-gt-LAST_ACCOUNT
unfolding first_no state_open
returns-then-account-gt-LAST_ACCOUNT c = record { number_is = sym (ap (λ (x : State). opens_no x c.args.account c.args.limit) c.in-Closed.is ∙ simp (lt-ltb _ _ c.if-account-gt-LAST_ACCOUNT.true)); seat_is = refl }

pub returns-then-limit-gt-MOST_A_ROUND : goal.returns-then-limit-gt-MOST_A_ROUND
unfolding first_no state_open
returns-then-limit-gt-MOST_A_ROUND c = record { number_is = sym (ap (λ (x : State). opens_no x c.args.account c.args.limit) c.in-Closed.is ∙ simp (le-ltb _ _ c.if-account-gt-LAST_ACCOUNT.false, lt-ltb _ _ c.if-limit-gt-MOST_A_ROUND.true)); seat_is = refl }

pub returns-in-Open : goal.returns-in-Open
unfolding first_no state_open
returns-in-Open c = record { number_is = sym (ap (λ (x : State). opens_no x c.args.account c.args.limit) c.in-Open.is); seat_is = refl }

pub returns-else-limit-gt-MOST_A_ROUND : goal.returns-else-limit-gt-MOST_A_ROUND
unfolding first_no state_open
returns-else-limit-gt-MOST_A_ROUND c = record { number_is = sym (ap (λ (x : State). opens_no x c.args.account c.args.limit) c.in-Closed.is ∙ simp (le-ltb _ _ c.if-account-gt-LAST_ACCOUNT.false, le-ltb _ _ c.if-limit-gt-MOST_A_ROUND.false)); seat_is = ap (λ (n : ℕ). open_at (record { account = c.args.account; kind = c.args.kind; limit = n; mark = Fresh })) c.limit_asked.ensures }
