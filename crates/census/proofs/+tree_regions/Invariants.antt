-- `census::tree_regions` meets its contract, by the depth. The pass over the children that are left, from where it stands, is the pass over all of them.
use Rattle.std.proofs.Common.{◌≡◌, ◌+◌, ◌-◌}
use Rattle.pages.specs.Layout.{page_of, fill_of}
use Rattle.nesting.specs.State.{state_of}
use Rattle.census.specs.Pass.{pass, regions_at}
use Rattle.census.proofs.Walk.{kid_regions}
use Rattle.census.proofs.+tree_regions.Given as goal

abbrev pub decreases-tree_regions : goal.decreases-tree_regions
decreases-tree_regions l = l.depth

abbrev pub invariant-loop-i : goal.invariant-loop-i
invariant-loop-i l =
    pass (kid_regions l.img (l.depth - 1) (page_of l.img l.p) l.i (fill_of (page_of l.img l.p) + 1 - l.i)) (state_of l.so_far) ≡ pass (regions_at l.img l.depth l.p) (state_of l.fn.so_far)
