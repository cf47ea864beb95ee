-- `lines::read_number` meets its contract. The loop's invariant: the digits before i make v, which is no larger than a number may be.
-- The measure is what is left of the text. Assumes nothing.
use Prim.Native.Nat.{◌≤◌, ◌-◌}
use mathlib.Core.Path.{◌≡◌}
use lib.ListN.{length, get_or}
use Rattle.lines.proofs.Runs.{Counted}
use Rattle.lines.proofs.read_number.Given as goal

abbrev pub invariant-loop-v : goal.invariant-loop-v
invariant-loop-v l = (l.b ≡ get_or l.text l.i 0) × (l.v ≤ 4294967295) × Counted l.text l.at l.v l.i

abbrev pub decreases-loop-v : goal.decreases-loop-v
decreases-loop-v l = length l.text - l.i
