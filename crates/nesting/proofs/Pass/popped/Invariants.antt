-- `nesting::Pass::popped` meets its contract: what is closed and what is left of the stack are together what stood on it.
use mathlib.Core.Path.{◌≡◌}
use Rattle.nesting.specs.Pass.{pop, stack_of}
use Rattle.nesting.proofs.Pass.popped.Given as goal

abbrev pub invariant-loop-t : goal.invariant-loop-t
invariant-loop-t l = pop l.s (stack_of l.self.ends l.self.levels l.t) ≡ pop l.s (stack_of l.self.ends l.self.levels l.self.top)
