-- `owners::owner` finds as `owner_along` does. The invariant: the owner along what is left of the path is the owner along all of it.
use Rattle.owners.proofs.Loops.{Seeking}
use Rattle.owners.proofs.owner.Given as goal

abbrev pub invariant-loop-p : goal.invariant-loop-p
invariant-loop-p l = Seeking l.img l.p-items l.start l.end l.p-index
