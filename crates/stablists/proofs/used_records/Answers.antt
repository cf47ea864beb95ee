-- The count goes on by one at a used place and stays at a free one.
use mathlib.Core.Path.{◌≡◌, refl, ◌∙◌}
use native.Mathlib.Omega.{arith}
use Rattle.stablists.specs.Pass.{used_to}
use Rattle.stablists.proofs.Turns.{used_yes, used_no}
use Rattle.stablists.proofs.used_records.Goals.{then-record_end-ne0, else-record_end-ne0}
use Rattle.stablists.proofs.used_records.Goals as goal

pub loop-q-init : goal.loop-q-init
unfolding used_to
loop-q-init c = (omega arith, refl)

pub loop-q-preserved : goal.loop-q-preserved
loop-q-preserved c =
    elim c.if-record_end-ne0.branch [
      | then-record_end-ne0 w ↦ (omega (arith, w.n-is), w.n-is ∙ used_yes _ _ _ _ c.loop-q.auto.q c.record_end.ensures w.if-record_end-ne0.true c.loop-q.invariant.1)
      | else-record_end-ne0 w ↦ (omega (arith, w.n-is), w.n-is ∙ used_no _ _ _ _ c.loop-q.auto.q c.record_end.ensures w.if-record_end-ne0.false c.loop-q.invariant.1)
    ]

pub returns : goal.returns
returns c =
    let z : c.loop-q.q ≡ 501 = omega arith in
    rw z at c.loop-q.invariant.1
