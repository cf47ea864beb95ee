-- `lines::read_line` meets its contract. The loop's invariant: i numbers were read, and what is left of the line decides.
use mathlib.Core.Path.{◌≡◌}
use lib.ListN.{length}
use Rattle.lines.proofs.Lined.{Reading}
use Rattle.lines.proofs.read_line.Given as goal

abbrev pub invariant-loop-i : goal.invariant-loop-i
invariant-loop-i l = (length l.numbers ≡ 4) × Reading l.text l.at l.k l.i l.next l.numbers
