-- `flat::flat_desk` makes seat after seat: those before i are made.
use Rattle.regions.specs.Desk.{closed}
use Rattle.flat.specs.Seats.{flat_seat}
use Rattle.flat.proofs.Flat.{Made}
use Rattle.flat.proofs.flat_desk.Given as goal

abbrev pub invariant-loop-i : goal.invariant-loop-i
invariant-loop-i l = Made flat_seat closed l.seats l.flat 8 l.i
