-- `capi::sasnuvarth_open_seat` meets its contract.
use Rattle.capi.proofs.Calls.{opens_seat_lem}
use Rattle.capi.proofs.sasnuvarth_open_seat.Goals as goal

pub returns : goal.returns
returns c = opens_seat_lem _ _ c.seats_of-seats.ensures _ _ _ _ _ _ _ _ c.kind_of-k.ensures _ c.number_told-number.ensures c.open_seat.ensures c.desk_left.ensures
