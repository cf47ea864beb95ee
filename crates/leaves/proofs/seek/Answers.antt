-- `leaves::seek` meets its contract: down, and in the leaf reached.
use Rattle.regions.specs.Positions.{too_late}
use Rattle.path.proofs.Ways.{descend_asks}
use Rattle.leaves.proofs.seek.Goals as goal

pub descend-requires : goal.descend-requires
descend-requires c = let asked = descend_asks _ c.requires in record { bound = asked.0; fills = asked.1 }

pub returns : goal.returns
unfolding too_late
returns c = c.seek_along.ensures
