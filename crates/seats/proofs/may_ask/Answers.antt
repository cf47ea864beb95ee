-- `seats::may_ask` meets its contract: by the variant that the match found, and the test of the limit.
use mathlib.Core.Path.{sym, ◌∙◌, ap}
use borrow.Author.Tests.{lt-ltb, le-ltb}
use Rattle.words.specs.Lists.{first_no}
use Rattle.regions.specs.Desk.{state_open, state_limit}
use Rattle.seats.specs.Steps.{asked_no}
use Rattle.regions.specs.declared.State.{State}
use Rattle.seats.proofs.may_ask.Goals as goal

pub returns-then-o-count : goal.returns-then-o-count
unfolding first_no state_open state_limit
returns-then-o-count c = sym (ap (λ (x : State). asked_no x c.args.count) c.in-Open.is ∙ simp (lt-ltb _ _ c.if-o-count.true))

pub returns-in-Closed : goal.returns-in-Closed
unfolding first_no state_open state_limit
returns-in-Closed c = sym (ap (λ (x : State). asked_no x c.args.count) c.in-Closed.is)

pub returns-else-o-count : goal.returns-else-o-count
unfolding first_no state_open state_limit
returns-else-o-count c = sym (ap (λ (x : State). asked_no x c.args.count) c.in-Open.is ∙ simp (le-ltb _ _ c.if-o-count.false))
