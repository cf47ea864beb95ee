-- `printout::put_pairs` meets its contract. The invariant: the text of the pairs before i stands in the buffer, and `at` is behind it.
use Rattle.printout.specs.Printed.{PutsPairs}
use Rattle.printout.proofs.put_pairs.Given as goal

abbrev pub invariant-loop-i : goal.invariant-loop-i
invariant-loop-i l = PutsPairs l.words l.i l.initial.out l.at l.out
