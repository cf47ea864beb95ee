-- `flat::seats_of` meets its contract: behind the loop all eight are made.
use native.Mathlib.Omega.{arith}
use borrow.Author.Rules.{rules}
use Rattle.regions.specs.Desk.{closed}
use Rattle.flat.specs.Seats.{seat_of, flat_seat}
use Rattle.flat.proofs.Flat.{all_made}
use Rattle.flat.proofs.seats_of.Goals as goal

pub returns : goal.returns
returns c = all_made seat_of (flat_seat closed) c.args.f _ 8 c.loop-i.i (search rules) c.loop-i.invariant (omega (arith, c.loop-i-test.false))
