use Prim.Native.Nat.{◌-◌, ◌+◌, ◌*◌}
use mathlib.Core.Path.{refl, sym, subst}
use native.Mathlib.Omega.{arith}
use lib.ListN.{get_or, length-set}
use Rattle.regions.specs.Limits.{item_width}
use Rattle.regions.specs.Items.{item}
use Rattle.index.specs.Batches.{Single}
use Rattle.index.proofs.Batched.{answers_none, answers_more, answers_all}
use Rattle.index.proofs.apply_all.Goals as goal

pub loop-i-init : goal.loop-i-init
loop-i-init c = (c.requires.counted.0, c.requires.counted.1, answers_none _ _ _, refl, refl)

pub item_region-r-requires : goal.item_region-r-requires
item_region-r-requires c = omega (arith, c.loop-i-test.true)

pub apply-answer-requires : goal.apply-answer-requires
apply-answer-requires c = (c.loop-i.invariant.0, c.loop-i.invariant.1)

pub loop-i-preserved : goal.loop-i-preserved
loop-i-preserved c =
    let at = c.loop-i in
    let done = c.apply-answer.ensures in (
      done.1,
      done.2,
      answers_more _ c.args.items.now _ at.i at.img at.places _ _ _ at.invariant.2 c.item_region-r.ensures (subst (λ n. Single at.img (item (get_or c.args.items.now (item_width * at.i) 0) (get_or c.args.items.now (item_width * at.i + 1) 0) c.item_region-r.result) n c.apply-answer.new.img) (sym c.number_told.ensures) done.0),
      omega (arith, at.invariant.3),
      simp length-set at.invariant.4,
    )

pub returns : goal.returns
returns c = answers_all _ c.args.items.now _ c.loop-i.i _ _ (omega (arith, c.loop-i.auto.i-end)) (omega (arith, c.loop-i-test.false)) c.loop-i.invariant.2
