-- `census::leaf_regions`: the fill allows each entry to be read, and a turn passes one region.
use mathlib.Core.Path.{refl}
use native.Mathlib.Omega.{arith}
use Rattle.std.specs.Prelude.{Some, None}
use Rattle.census.proofs.Walk.{leaf_next, leaf_done, leaf_all, fills_here}
use Rattle.census.proofs.leaf_regions.Goals as goal

pub loop-i-init : goal.loop-i-init
loop-i-init c = leaf_all _ _ _ _ refl

pub entry_region-requires : goal.entry_region-requires
entry_region-requires c = omega (arith, fills_here 0 _ _ c.requires)

pub returns-in_err-enter : goal.returns-in_err-enter
returns-in_err-enter c =
    rw c.from_residual.ensures (leaf_next _ _ _ _ _ None _ c.entry_region.ensures c.in_err-enter.ensures c.loop-i.invariant (omega arith))

pub loop-i-preserved : goal.loop-i-preserved
loop-i-preserved c = leaf_next _ _ _ _ _ (Some _) _ c.entry_region.ensures c.in_ok-enter.ensures c.loop-i.invariant (omega arith)

pub returns : goal.returns
returns c = leaf_done _ _ _ _ _ c.loop-i.invariant (omega arith)
