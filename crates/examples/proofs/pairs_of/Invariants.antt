-- `examples::pairs_of` is safe: no more pairs are counted than were looked at.
use Prim.Native.Nat.{◌≤◌}
use Rattle.examples.proofs.pairs_of.Given as goal

abbrev pub invariant-loop-i : goal.invariant-loop-i
invariant-loop-i l = l.n ≤ l.i
