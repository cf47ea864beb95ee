-- `newkey::gather` meets its contract: behind entry j all that k stabs and that is in no list is in k's list.
use Prim.Native.Nat.{◌-◌, ◌≤◌}
use Rattle.image.specs.Read.{entries_from}
use Rattle.newkey.specs.Moves.{Gathered}
use Rattle.newkey.proofs.gather.Given as goal

abbrev pub invariant-loop-j : goal.invariant-loop-j
invariant-loop-j l = (l.j ≤ l.n) × Gathered l.initial.img l.img l.k (entries_from l.leaf l.j (l.n - l.j)) l.key
