-- `lines::put_line` meets its contract. The loop's invariant: with the numbers that are left to put, the buffer is as it should be.
use Rattle.lines.proofs.Putting.{Putting}
use Rattle.lines.proofs.put_line.Given as goal

abbrev pub invariant-loop-i : goal.invariant-loop-i
invariant-loop-i l = Putting l.initial.out l.at l.k l.numbers l.out l.place l.i
