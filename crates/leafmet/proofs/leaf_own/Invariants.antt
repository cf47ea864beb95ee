-- `leafmet::leaf_own` meets its contract. The invariant: what is still to be met, from the next entry on, leads to the whole.
use Prim.Native.Nat.{◌≤◌}
use Rattle.leafmet.proofs.Loops.{Owning}
use Rattle.leafmet.proofs.leaf_own.Given as goal

abbrev pub invariant-loop-i : goal.invariant-loop-i
invariant-loop-i l = (l.n ≤ 8) × Owning l.task l.initial.out l.initial.t l.img l.page l.choice l.p l.out l.t l.n l.i
