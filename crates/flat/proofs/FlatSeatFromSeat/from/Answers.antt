-- a seat told in numbers meets its contract.
use mathlib.Core.Path.{sym, ap, ◌∙◌}
use Rattle.flat.specs.Seats.{flat_state}
use Rattle.flat.proofs.FlatSeatFromSeat.from.Goals as goal

pub returns-in-Closed : goal.returns-in-Closed
unfolding flat_state
returns-in-Closed c = sym (ap flat_state c.in-Closed.is)

pub returns-in-Open : goal.returns-in-Open
unfolding flat_state
returns-in-Open c = c.flat_open.ensures ∙ sym (ap flat_state c.in-Open.is)
