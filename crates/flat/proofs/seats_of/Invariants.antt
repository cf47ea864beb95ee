-- `flat::seats_of` makes seat after seat: those before i are made.
use Rattle.regions.specs.Desk.{closed}
use Rattle.flat.specs.Seats.{seat_of, flat_seat}
use Rattle.flat.proofs.Flat.{Made}
use Rattle.flat.proofs.seats_of.Given as goal

abbrev pub invariant-loop-i : goal.invariant-loop-i
invariant-loop-i l = Made seat_of (flat_seat closed) l.f l.seats 8 l.i
