-- `census::tree_regions`: the fills allow each child to be read, and a turn passes the regions below one child.
use Rattle.std.proofs.Common.{refl, arith, Some, None}
use Rattle.census.proofs.Walk.{kids_next, kids_done, kids_all, fills_here, fills_below}
use Rattle.census.proofs.+tree_regions.Goals as goal

pub loop-i-init : goal.loop-i-init
loop-i-init t c = kids_all _ _ _ _ _ _ (omega arith) refl

pub child-requires : goal.child-requires
child-requires t c = omega (arith, fills_here _ _ _ c.requires)

pub tree_regions-requires : goal.tree_regions-requires
tree_regions-requires t c = (omega arith, fills_below _ _ _ _ _ _ (omega arith) (omega arith) c.child.ensures c.requires)

pub returns-in_err-tree_regions : goal.returns-in_err-tree_regions
returns-in_err-tree_regions t c =
    rw c.from_residual.ensures (kids_next _ _ _ _ _ _ _ None _ c.child.ensures c.in_err-tree_regions.ensures c.loop-i.invariant (omega arith))

pub loop-i-preserved : goal.loop-i-preserved
loop-i-preserved t c = kids_next _ _ _ _ _ _ _ (Some _) _ c.child.ensures c.in_ok-tree_regions.ensures c.loop-i.invariant (omega arith)

pub returns-in_ok-tree_regions : goal.returns-in_ok-tree_regions
returns-in_ok-tree_regions t c =
    kids_done _ _ _ _ _ _ _ (kids_next _ _ _ _ _ _ _ (Some _) _ c.child.ensures c.in_ok-tree_regions.ensures c.loop-i.invariant (omega arith)) (omega arith)
