-- `stablists::lists` meets its contract. The loop's invariant: what is left of the keys and children, gone through from here, comes to the whole. The measure is the depth.
use Rattle.std.proofs.Common.{◌-◌, ◌≡◌}
use Rattle.pages.specs.Layout.{page_of, fill_of}
use Rattle.stablists.specs.Pass.{pass_keys, pass_at}
use Rattle.stablists.proofs.+lists.Given as goal

abbrev pub decreases-lists : goal.decreases-lists
decreases-lists l = l.depth

abbrev pub invariant-loop-i : goal.invariant-loop-i
invariant-loop-i l =
    (l.n ≡ fill_of (page_of l.img l.p)) ×
    (pass_keys (pass_at l.img (l.depth - 1)) l.img (l.depth - 1) (page_of l.img l.p) l.i (l.n - l.i) l.from l.high l.s ≡ pass_at l.img l.depth l.p l.low l.high l.initial.s)
