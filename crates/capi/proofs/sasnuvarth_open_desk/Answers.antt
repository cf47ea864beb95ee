-- `capi::sasnuvarth_open_desk` meets its contract.
use Rattle.capi.proofs.Calls.{opens_desk}
use Rattle.capi.proofs.sasnuvarth_open_desk.Goals as goal

pub returns : goal.returns
returns c = opens_desk _ _ c.closed_seat.ensures c.flat_desk.ensures
