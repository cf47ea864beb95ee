-- `shape::pass_tree` meets its contract: the page's test, then a leaf's entries or children and keys in turn; what is still to come, from where
-- the pass stands, comes on every turn to what the tree's events come to. The recursion falls with the level.
use Rattle.std.proofs.Common.{◌-◌, ◌≡◌, ◌≤◌}
use Rattle.pages.specs.Layout.{page_of}
use Rattle.shape.specs.Run.{run, inner_events, events_at}
use Rattle.shape.proofs.+pass_tree.Given as goal

abbrev pub decreases-pass_tree : goal.decreases-pass_tree
decreases-pass_tree l = l.level

abbrev pub invariant-loop-i : goal.invariant-loop-i
invariant-loop-i l =
    (l.n ≤ 8) ×
    (run (inner_events (events_at l.img (l.level - 1) 4) (page_of l.img l.place) l.i (l.n - l.i)) l.t ≡ run (events_at l.img l.level l.least l.place) l.fn.s)
