-- `flat::flat_open` meets its contract.
use Rattle.flat.specs.Seats.{flat_marked}
use Rattle.flat.proofs.Flat.{flat_at}
use Rattle.flat.proofs.flat_open.Goals as goal

pub returns-in-Fresh : goal.returns-in-Fresh
unfolding flat_marked
returns-in-Fresh c = flat_at c.args.o _ _ c.kind_number-kind.ensures c.in-Fresh.is

pub returns-in-Last : goal.returns-in-Last
unfolding flat_marked
returns-in-Last c = flat_at c.args.o _ _ c.kind_number-kind.ensures c.in-Last.is
