-- `search::ancestors` meets its contract: the search along the path that was gone down.
use Rattle.path.proofs.Ways.{descend_asks}
use Rattle.search.proofs.ancestors.Goals as goal

pub descend-requires : goal.descend-requires
descend-requires c = let asked = descend_asks _ c.requires in record { bound = asked.0; fills = asked.1 }
