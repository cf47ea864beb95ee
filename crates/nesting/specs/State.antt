-- What the code holds, as a state of the pass.
-- Assumes nothing.
use Rattle.std.specs.Prelude.{Option, Some, None}
use Rattle.nesting.specs.Pass.{Passed, going, stack_of}
use Rattle.nesting.specs.declared.Pass.{Pass}

unfoldable pub state_of : Pass → Passed
state_of p = going (stack_of p.ends p.levels p.top) p.left

-- and where the pass was refused, none
abbrev pub told : {A : Type 0} → Option A → Pass → Option Passed
told None p = None
told (Some _) p = Some (state_of p)
