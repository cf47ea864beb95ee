-- `capi::sasnuvarth_close_seat` meets its contract.
use Rattle.capi.proofs.Calls.{closes_seat_lem}
use Rattle.capi.proofs.sasnuvarth_close_seat.Goals as goal

pub returns : goal.returns
returns c = closes_seat_lem _ _ c.seats_of-seats.ensures _ _ _ _ _ c.number_told-number.ensures c.close_seat.ensures c.desk_left.ensures
