-- `capi::sasnuvarth_part` meets its contract.
use Rattle.regions.proofs.Refused.{refused_some}
use Rattle.capi.proofs.Calls.{part_there, part_refused}
use Rattle.capi.proofs.sasnuvarth_part.Goals as goal

pub returns-in-Ok : goal.returns-in-Ok
returns-in-Ok c = part_there _ _ c.seats_of-seats.ensures _ _ _ c.in-Ok.ensures

pub returns-in-Err : goal.returns-in-Err
returns-in-Err c = rw c.from.ensures (part_refused _ _ c.seats_of-seats.ensures _ _ _ _ c.in-Err.ensures (refused_some _))
