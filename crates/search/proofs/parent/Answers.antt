-- `search::parent` meets its contract: level 0 has none; else the last one taken is the only one.
use Rattle.image.specs.Read.{set_of}
use Rattle.path.proofs.Ways.{descend_asks}
use Rattle.search.proofs.Tops.{parent_found_lem, parent_none}
use Rattle.search.proofs.parent.Goals as goal

pub returns-then-level-eq0 : goal.returns-then-level-eq0
returns-then-level-eq0 c = parent_none _ _ (set_of c.args.img.now) c.if-level-eq0.true

pub descend-requires : goal.descend-requires
descend-requires c = let asked = descend_asks _ c.requires in record { bound = asked.0; fills = asked.1 }

pub returns : goal.returns
returns c = parent_found_lem c.args.img.now _ _ c.requires c.search-t.ensures
