-- `census::leaf_regions` meets its contract. The pass over the entries that are left, from where it stands, is the pass over all of them.
use Prim.Native.Nat.{◌-◌}
use mathlib.Core.Path.{◌≡◌}
use Rattle.pages.specs.Layout.{page_of, fill_of}
use Rattle.nesting.specs.State.{state_of}
use Rattle.census.specs.Pass.{pass, regions_at}
use Rattle.census.proofs.Walk.{leaf_regions}
use Rattle.census.proofs.leaf_regions.Given as goal

abbrev pub invariant-loop-i : goal.invariant-loop-i
invariant-loop-i l =
    pass (leaf_regions (page_of l.img l.p) l.i (fill_of (page_of l.img l.p) - l.i)) (state_of l.so_far) ≡ pass (regions_at l.img 0 l.p) (state_of l.fn.so_far)
