use mathlib.Core.Path.{sym, ◌∙◌}
use native.Mathlib.Omega.{arith}
use Rattle.regions.proofs.Means.{late_near}
use Rattle.image.proofs.Sound.{set_rises, valid_sound}
use Rattle.leaves.proofs.Faces.{faces_few, faces_less}
use Rattle.follow.proofs.Moves.{in_time, too_late_lem, coming_end, coming_there, coming_room, coming_on}
use Rattle.follow.proofs.catch_up.Goals as goal

pub loop-choice-init : goal.loop-choice-init
loop-choice-init c = c.requires.coming

pub start-requires : goal.start-requires
start-requires c = faces_few _ c.loop-choice.invariant.faces

pub step-requires : goal.step-requires
step-requires c = faces_few _ c.loop-choice.invariant.faces

pub shape_of-held-in_default : goal.shape_of-held-in_default
shape_of-held-in_default c = c.loop-choice.invariant.long ∙ sym c.requires.coming.long

pub returns-in_default : goal.returns-in_default
returns-in_default c = coming_end c.loop-choice.invariant (set_rises _ c.requires.outer_valid) (sym c.step.ensures ∙ c.in_default.is)

pub refill-requires : goal.refill-requires
refill-requires c = record { outer_valid = c.requires.outer_valid; held_len = c.loop-choice.invariant.long }

pub shape_of-held-then-is_over : goal.shape_of-held-then-is_over
shape_of-held-then-is_over c = c.refill.ensures.long ∙ sym c.requires.coming.long

pub returns-then-is_over : goal.returns-then-is_over
returns-then-is_over c = c.refill.ensures

pub push-n-requires : goal.push-n-requires
push-n-requires c = record { n_lt_most_around = coming_room c.loop-choice.invariant (set_rises _ c.requires.outer_valid) _ _ (sym c.step.ensures ∙ c.in-Some.is) (valid_sound _ (λ i. omega (arith, c.shared_slice_known-1.given i)) c.requires.outer_valid) (in_time _ _ _ _ _ c.start.ensures c.in_time.ensures c.loop-choice-test.true) (late_near _ _).1; held_len = c.loop-choice.invariant.long }

pub loop-choice-smaller : goal.loop-choice-smaller
loop-choice-smaller c = faces_less _ _ _ _ _ c.loop-choice.invariant.faces (sym c.step.ensures ∙ c.in-Some.is)

pub loop-choice-preserved : goal.loop-choice-preserved
loop-choice-preserved c = coming_on c.loop-choice.invariant (set_rises _ c.requires.outer_valid) _ _ (sym c.step.ensures ∙ c.in-Some.is) _ _ (in_time _ _ _ _ _ c.start.ensures c.in_time.ensures c.loop-choice-test.true) c.push-n.auto.held c.push-n.ensures

pub shape_of-held-after-loop-choice : goal.shape_of-held-after-loop-choice
shape_of-held-after-loop-choice c = c.loop-choice.invariant.long ∙ sym c.requires.coming.long

pub returns-after-loop-choice : goal.returns-after-loop-choice
returns-after-loop-choice c = coming_there c.loop-choice.invariant (set_rises _ c.requires.outer_valid) (too_late_lem _ _ _ _ _ c.start.ensures c.in_time.ensures c.loop-choice-test.false)
