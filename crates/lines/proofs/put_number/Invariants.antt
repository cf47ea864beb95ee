-- `lines::put_number` meets its contract. The loop's invariant: with the digits that are left to put, the buffer is as it should be.
use Prim.Native.Nat.{◌+◌, ◌≤◌, ◌-◌}
use mathlib.Core.Path.{◌≡◌}
use lib.ListN.{length}
use lib.Seq.{sets}
use Rattle.lines.specs.Text.{decimal}
use Rattle.lines.proofs.Putting.{last_digits}
use Rattle.lines.proofs.put_number.Given as goal

abbrev pub invariant-loop-i : goal.invariant-loop-i
invariant-loop-i l = (l.at ≤ l.i) × (l.i ≤ l.at + 10) × (length l.out ≡ length l.initial.out) × (sets l.out l.at (last_digits (l.i - l.at) l.rest) ≡ sets l.initial.out l.at (decimal l.n))
