-- `path::descend` writes the path. The invariant: what is written and the path from the next page on are the whole; behind it stand zeros.
use Prim.Native.Nat.{◌-◌}
use Rattle.path.proofs.Ways.{Writing}
use Rattle.path.proofs.descend.Given as goal

abbrev pub invariant-loop-i : goal.invariant-loop-i
invariant-loop-i l = Writing l.img l.x l.path l.at (l.depth - l.i) l.i
