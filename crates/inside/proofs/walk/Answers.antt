use mathlib.Core.Path.{sym, ◌∙◌}
use native.Mathlib.Omega.{arith}
use Rattle.leaves.proofs.Faces.{faces_few, faces_less}
use Rattle.inside.proofs.Walks.{walk_start, walk_end, walk_stop, walk_more, walk_on}
use Rattle.inside.proofs.walk.Goals as goal

pub loop-entry-init : goal.loop-entry-init
loop-entry-init c = (omega arith, walk_start _ _ _ _ _ _ c.requires c.seek-cursor.ensures)

pub step-requires : goal.step-requires
step-requires c = faces_few _ c.loop-entry.invariant.1.faces

pub returns-in_default : goal.returns-in_default
returns-in_default c = walk_end c.loop-entry.invariant.1 (sym c.step.ensures ∙ c.in_default.is) c.loop-entry.invariant.0

pub returns-then-end-entry : goal.returns-then-end-entry
returns-then-end-entry c = walk_stop c.loop-entry.invariant.1 _ _ (sym c.step.ensures ∙ c.in-Some.is) c.if-end-entry.true c.loop-entry.invariant.0

pub take-count-requires : goal.take-count-requires
take-count-requires c = omega (arith, c.loop-entry.invariant.1.long)

pub returns-then-room-count : goal.returns-then-room-count
returns-then-room-count c = walk_more (walk_on c.loop-entry.invariant.1 _ _ _ _ (sym c.step.ensures ∙ c.in-Some.is) c.if-end-entry.false c.take-count.ensures) c.if-room-count.true

pub loop-entry-smaller : goal.loop-entry-smaller
loop-entry-smaller c = faces_less _ _ _ _ _ c.loop-entry.invariant.1.faces (sym c.step.ensures ∙ c.in-Some.is)

pub loop-entry-preserved : goal.loop-entry-preserved
loop-entry-preserved c = (omega arith, walk_on c.loop-entry.invariant.1 _ _ _ _ (sym c.step.ensures ∙ c.in-Some.is) c.if-end-entry.false c.take-count.ensures)
