-- `shape::pass_starts` meets its contract: the starts still to come, from where the pass stands, come to the same on every turn.
use Prim.Native.Nat.{◌-◌}
use mathlib.Core.Path.{◌≡◌}
use Rattle.pages.specs.Layout.{page_of}
use Rattle.shape.specs.Run.{run, start_events}
use Rattle.shape.proofs.pass_starts.Given as goal

abbrev pub invariant-loop-i : goal.invariant-loop-i
invariant-loop-i l = run (start_events (page_of l.img l.place) l.i (l.n - l.i)) l.t ≡ run (start_events (page_of l.img l.place) 0 l.n) l.initial.t
