-- `skips::forward` meets its contract. The invariant: the cursor is at a place that is not behind the first that may be held. The measure: how many entries are left.
use lib.ListN.{length}
use Rattle.leaves.specs.Cursors.{left}
use Rattle.skips.specs.Joins.{Before, first_held}
use Rattle.skips.proofs.forward.Given as goal

abbrev pub invariant-loop-choice : goal.invariant-loop-choice
invariant-loop-choice l = Before l.img (first_held l.choice l.x) l.cur

abbrev pub decreases-loop-choice : goal.decreases-loop-choice
decreases-loop-choice l = length (left l.img l.cur)
