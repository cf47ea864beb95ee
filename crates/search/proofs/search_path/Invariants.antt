-- `search::search_path` meets its contract. The invariant: what is still to be met, from the next page on, leads to the whole.
use Rattle.search.proofs.Down.{Going}
use Rattle.search.proofs.search_path.Given as goal

abbrev pub invariant-loop-i : goal.invariant-loop-i
invariant-loop-i l = Going l.task l.initial.out l.img l.choice l.p l.out l.t l.i
