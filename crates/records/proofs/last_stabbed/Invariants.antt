-- `last_stabbed` walks a list as far as the key stabs. What is left of the walk gives the whole walk's answer; the measure is the length of what is left.
use lib.ListN.{length}
use Rattle.image.specs.Read.{list_places}
use Rattle.records.proofs.Spots.{SpotInv}
use Rattle.regions.specs.Positions.{stabs}
use Rattle.records.proofs.last_stabbed.Given as goal

abbrev pub invariant-loop-q : goal.invariant-loop-q
invariant-loop-q l = SpotInv (stabs l.x) l.img l.head l.last l.q

abbrev pub decreases-loop-q : goal.decreases-loop-q
decreases-loop-q l = length (list_places l.img l.q)
