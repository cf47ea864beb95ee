-- `seats::closes` meets its contract: by the variant that the match found.
use mathlib.Core.Path.{refl, sym, ap}
use Rattle.words.specs.Lists.{first_no}
use Rattle.regions.specs.Desk.{state_open}
use Rattle.seats.specs.Steps.{closes_no}
use Rattle.seats.proofs.closes.Goals as goal

pub returns-in-Closed : goal.returns-in-Closed
unfolding first_no state_open
returns-in-Closed c = record { number_is = sym (ap closes_no c.in-Closed.is); seat_is = refl }

pub returns-in-Open : goal.returns-in-Open
unfolding first_no state_open
returns-in-Open c = record { number_is = sym (ap closes_no c.in-Open.is); seat_is = c.closed_seat.ensures }
