-- `flat::flat_desk` meets its contract: behind the loop all eight are made.
use native.Mathlib.Omega.{arith}
use borrow.Author.Rules.{rules}
use Rattle.regions.specs.Desk.{closed}
use Rattle.flat.specs.Seats.{flat_seat}
use Rattle.flat.proofs.Flat.{all_made}
use Rattle.flat.proofs.flat_desk.Goals as goal

pub returns : goal.returns
returns c = all_made flat_seat closed c.args.seats _ 8 c.loop-i.i (search rules) c.loop-i.invariant (omega (arith, c.loop-i-test.false))
