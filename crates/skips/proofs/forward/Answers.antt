use mathlib.Core.Path.{sym, ◌∙◌}
use Rattle.image.proofs.Sound.{set_rises}
use Rattle.leaves.proofs.Faces.{faces_few, faces_less}
use Rattle.skips.proofs.Ways.{not_held, may_hold, forward_end, forward_there, forward_on}
use Rattle.skips.proofs.forward.Goals as goal

pub loop-choice-init : goal.loop-choice-init
loop-choice-init c = c.requires.before

pub start-requires : goal.start-requires
start-requires c = faces_few _ c.loop-choice.invariant.faces

pub step-requires : goal.step-requires
step-requires c = faces_few _ c.loop-choice.invariant.faces

pub returns-in_default : goal.returns-in_default
returns-in_default c = forward_end c.loop-choice.invariant (set_rises _ c.requires.img_valid) (sym c.step.ensures ∙ c.in_default.is)

pub returns-then-is_far : goal.returns-then-is_far
returns-then-is_far c = c.seek_held.ensures

pub loop-choice-smaller : goal.loop-choice-smaller
loop-choice-smaller c = faces_less _ _ _ _ _ c.loop-choice.invariant.faces (sym c.step.ensures ∙ c.in-Some.is)

pub loop-choice-preserved : goal.loop-choice-preserved
loop-choice-preserved c = forward_on c.loop-choice.invariant (set_rises _ c.requires.img_valid) _ _ (sym c.step.ensures ∙ c.in-Some.is) (not_held _ _ _ _ _ c.start.ensures c.in_time.ensures (c.loop-choice-test.true))

pub returns-after-loop-choice : goal.returns-after-loop-choice
returns-after-loop-choice c = forward_there c.loop-choice.invariant (set_rises _ c.requires.img_valid) (may_hold _ _ _ _ _ c.start.ensures c.in_time.ensures (c.loop-choice-test.false))
