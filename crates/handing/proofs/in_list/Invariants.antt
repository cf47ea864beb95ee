-- `in_list` walks a list for a region with a given start. What is left of the walk gives the whole walk's answer; the measure is the length of what is left.
use lib.ListN.{length}
use Rattle.image.specs.Read.{list_places}
use Rattle.handing.proofs.Clearing.{ListInv}
use Rattle.handing.proofs.in_list.Given as goal

abbrev pub invariant-loop-q : goal.invariant-loop-q
invariant-loop-q l = ListInv l.img l.head l.start l.q

abbrev pub decreases-loop-q : goal.decreases-loop-q
decreases-loop-q l = length (list_places l.img l.q)
