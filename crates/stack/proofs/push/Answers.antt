-- `stack::push` meets its contract: it has ended, or it is written on top.
use native.Mathlib.Omega.{arith}
use Rattle.stack.proofs.Stacked.{pushed_not, pushed_one}
use Rattle.stack.proofs.push.Goals as goal

pub returns-then-a-p : goal.returns-then-a-p
returns-then-a-p c = pushed_not _ _ _ _ c.if-a-p.true

pub returns : goal.returns
returns c = pushed_one _ _ _ _ _ (omega arith) c.if-a-p.false c.put_region.ensures
