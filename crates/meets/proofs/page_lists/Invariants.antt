-- `meets::page_lists` meets its contract. The invariant: what is still to be met, from the next key on, leads to the whole.
use Prim.Native.Nat.{◌≤◌}
use Rattle.meets.proofs.Loops.{Paging}
use Rattle.meets.proofs.page_lists.Given as goal

abbrev pub invariant-loop-i : goal.invariant-loop-i
invariant-loop-i l = (l.n ≤ 8) × Paging l.task l.initial.out l.initial.t l.img l.page l.choice l.p l.out l.t l.n l.i
