use mathlib.Core.Path.{refl}
use Rattle.stack.proofs.Stacked.{popped_all, popped_one, popped_stop, fall_less}
use Rattle.stack.proofs.pop_ended.Goals as goal

pub loop-i-init : goal.loop-i-init
loop-i-init c = (c.requires.falling, refl)

pub returns-then-p-held : goal.returns-then-p-held
returns-then-p-held c = popped_stop _ _ _ _ c.loop-i.invariant.1 _ c.loop-i-test.true refl c.loop-i.invariant.0 c.if-p-held.true

pub loop-i-preserved : goal.loop-i-preserved
loop-i-preserved c = (fall_less _ _ c.loop-i-test.true c.loop-i.invariant.0, popped_one _ _ _ _ c.loop-i.invariant.1 _ c.loop-i-test.true refl c.if-p-held.false)

pub returns : goal.returns
returns c = popped_all _ _ _ _ c.loop-i.invariant.1 c.loop-i-test.false
