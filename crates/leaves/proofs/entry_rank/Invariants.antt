-- `leaves::entry_rank` counts as `entry_rank` does. The invariant: the entries passed and those of the others that are counted make the whole.
use Rattle.regions.specs.Positions.{too_late}
use Rattle.leaves.proofs.Turns.{Passing}
use Rattle.leaves.proofs.entry_rank.Given as goal

abbrev pub invariant-loop-i : goal.invariant-loop-i
invariant-loop-i l = Passing l.img l.leaf (too_late l.choice l.x) l.n l.i
