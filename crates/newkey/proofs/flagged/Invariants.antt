-- `newkey::flagged` meets its contract: before entry j the flags are set.
use Prim.Native.Nat.{◌≤◌}
use Rattle.newkey.specs.Moves.{Flagged}
use Prim.Native.Nat.{◌≤◌}
use Rattle.newkey.proofs.flagged.Given as goal

abbrev pub invariant-loop-j : goal.invariant-loop-j
invariant-loop-j l = (l.j ≤ l.n) × Flagged l.leaf l.j l.k l.ws
