-- `drop_list` gives all records of a list back. What is left to give back gives the whole; the measure is the length of what is left.
use lib.ListN.{length}
use Rattle.image.specs.Read.{list_places}
use Rattle.records.proofs.Going.{DropInv}
use Rattle.records.proofs.drop_list.Given as goal

abbrev pub invariant-loop-q : goal.invariant-loop-q
invariant-loop-q l = DropInv l.initial.img l.head l.img l.q

abbrev pub decreases-loop-q : goal.decreases-loop-q
decreases-loop-q l = length (list_places l.img l.q)
