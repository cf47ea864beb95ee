-- `turns::serve` meets its contract. The invariant: what stands after the turns made.
use Rattle.turns.proofs.ByTurns.{Stands}
use Rattle.turns.proofs.serve.Given as goal

abbrev pub invariant-loop-i : goal.invariant-loop-i
invariant-loop-i l = Stands l.outer l.inner l.initial.desk l.initial.buffer l.i l.desk l.counts l.buffer
