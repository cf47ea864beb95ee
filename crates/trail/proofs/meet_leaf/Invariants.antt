-- `trail::meet_leaf` meets its contract. The loop's invariant: what is left of the entries, followed from here, comes to the whole.
use Prim.Native.Nat.{◌-◌}
use mathlib.Core.Path.{◌≡◌}
use Rattle.pages.specs.Layout.{page_of, fill_of}
use Rattle.trail.specs.Pass.{follow, regions_at}
use Rattle.trail.proofs.Loops.{entry_regions}
use Rattle.trail.proofs.meet_leaf.Given as goal

abbrev pub invariant-loop-i : goal.invariant-loop-i
invariant-loop-i l =
    (l.n ≡ fill_of (page_of l.img l.p)) × (follow l.img l.home (entry_regions (page_of l.img l.p) l.i (l.n - l.i)) l.s ≡ follow l.img l.home (regions_at l.img 0 l.p) l.initial.s)
