use mathlib.Core.Path.{refl}
use native.Mathlib.Omega.{arith}
use Rattle.shape.specs.Run.{used_to}
use Rattle.shape.proofs.Turns.{used_none, used_one, used_next}
use Rattle.shape.proofs.used_pages.Goals as goal
use Rattle.shape.proofs.used_pages.Goals.{then-mark-ne0, else-mark-ne0}

pub loop-p-init : goal.loop-p-init
unfolding used_to
loop-p-init c = (omega arith, refl)

pub loop-p-preserved : goal.loop-p-preserved
loop-p-preserved c =
    let e = c.mark.ensures in
    let i = c.loop-p.invariant in
    let b = c.loop-p.auto in
    elim c.if-mark-ne0.branch [
      | then-mark-ne0 w ↦ rw w.n-is (omega arith, used_next _ _ _ (used_one _ _ _ _ (omega (arith, i.0)) e w.if-mark-ne0.true i.1))
      | else-mark-ne0 w ↦ rw w.n-is (omega arith, used_next _ _ _ (used_none _ _ _ _ (omega (arith, i.0)) e w.if-mark-ne0.false i.1))
    ]
