-- `nesting::Pass::new` meets its contract: no place of the stack is taken.
use mathlib.Core.Path.{refl}
use Rattle.nesting.specs.Pass.{stack_of}
use Rattle.nesting.specs.State.{state_of}
use Rattle.nesting.proofs.Pass.new.Goals as goal

pub returns : goal.returns
unfolding state_of stack_of
returns c = refl
