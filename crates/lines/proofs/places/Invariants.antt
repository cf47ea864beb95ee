-- `lines::places` meets its contract. The loop's invariant: k digits were counted, and the rest is the number without them. The measure is how far the power may still grow.
use Prim.Native.Nat.{◌≤◌, ◌-◌}
use Rattle.lines.proofs.Putting.{Placed}
use Rattle.lines.proofs.places.Given as goal

abbrev pub invariant-loop-power : goal.invariant-loop-power
invariant-loop-power l = (l.power ≤ 42949672950) × Placed l.n l.k l.power

abbrev pub decreases-loop-power : goal.decreases-loop-power
decreases-loop-power l = 42949672950 - l.power
