-- `flat::seat_of_numbers` meets its contract: the kind and the mark stand in the open seat as their numbers mean them.
use borrow.Author.Tests.{eq-eqb, ne_eqb}
use Rattle.flat.specs.Numbers.{seat_of_numbers}
use Rattle.flat.proofs.seat_of_numbers.Goals as goal

pub returns-then-opened-eq0 : goal.returns-then-opened-eq0
unfolding seat_of_numbers
returns-then-opened-eq0 c = rw (c.closed_seat.ensures, eq-eqb _ _ c.if-opened-eq0.true)

pub returns : goal.returns
unfolding seat_of_numbers
returns c = rw (c.kind_of.ensures, c.mark_of.ensures, ne_eqb _ _ c.if-opened-eq0.false)
