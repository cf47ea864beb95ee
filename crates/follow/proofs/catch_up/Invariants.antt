-- `follow::catch_up` meets its contract. The invariant: of those before the cursor the stack has all that hold p. The measure: how many entries are left.
use lib.ListN.{length}
use Rattle.regions.specs.Positions.{too_late}
use Rattle.leaves.specs.Cursors.{left}
use Rattle.follow.specs.Places.{Coming}
use Rattle.follow.proofs.catch_up.Given as goal

abbrev pub invariant-loop-choice : goal.invariant-loop-choice
invariant-loop-choice l = Coming l.outer (too_late l.choice l.p) l.p l.held l.s

abbrev pub decreases-loop-choice : goal.decreases-loop-choice
decreases-loop-choice l = length (left l.outer l.s.cur)
