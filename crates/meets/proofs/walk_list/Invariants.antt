-- `meets::walk_list` meets its contract. The invariant: what is still to be met, from the next record on, leads to the whole.
use Rattle.meets.proofs.Loops.{Walking}
use Rattle.meets.proofs.walk_list.Given as goal

abbrev pub invariant-loop : goal.invariant-loop
invariant-loop l = Walking l.task l.initial.out l.initial.t l.img l.choice l.p l.head l.out l.t l.q l.counter
