-- `trail::meet_tree` meets its contract. The loop's invariant: what is left of the children, followed from here, comes to the whole. The measure is the depth.
use Rattle.std.proofs.Common.{◌+◌, ◌-◌, ◌≡◌}
use Rattle.pages.specs.Layout.{page_of, fill_of}
use Rattle.trail.specs.Pass.{follow, regions_at}
use Rattle.trail.proofs.Loops.{kids_regions}
use Rattle.trail.proofs.+meet_tree.Given as goal

abbrev pub decreases-meet_tree : goal.decreases-meet_tree
decreases-meet_tree l = l.depth

abbrev pub invariant-loop-i : goal.invariant-loop-i
invariant-loop-i l =
    (l.n ≡ fill_of (page_of l.img l.p)) ×
    (follow l.img l.home (kids_regions l.img (l.depth - 1) (page_of l.img l.p) l.i (l.n + 1 - l.i)) l.s ≡ follow l.img l.home (regions_at l.img l.depth l.p) l.initial.s)
