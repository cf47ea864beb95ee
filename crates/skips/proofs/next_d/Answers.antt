-- `skips::next_d` meets its contract: on, or to the first that the next outer start may hold.
use Rattle.image.proofs.Sound.{set_rises}
use Rattle.leaves.proofs.Faces.{faces_few}
use Rattle.skips.proofs.Ways.{late_inside, clear_next, moved_on_lem, moved_before, moved_past}
use Rattle.skips.proofs.next_d.Goals as goal

pub returns-then-s-gt0 : goal.returns-then-s-gt0
returns-then-s-gt0 c = moved_on_lem _ _ _ _ _ _ c.if-s-gt0.true

pub start-requires : goal.start-requires
start-requires c = faces_few _ c.requires.faces

pub forward-requires : goal.forward-requires
forward-requires c = record { img_valid = c.requires.inner_valid; before = moved_before _ _ _ _ _ (clear_next _ _ _ _ (late_inside _ _ c.requires.p_bound) (set_rises _ c.requires.outer_valid) c.requires.faces c.start.ensures) c.requires.faces_2 }

pub returns : goal.returns
returns c = moved_past _ _ _ _ _ _ _ _ c.if-s-gt0.false (clear_next _ _ _ _ (late_inside _ _ c.requires.p_bound) (set_rises _ c.requires.outer_valid) c.requires.faces c.start.ensures) c.forward.ensures
