-- `index::item_region` meets its contract.
use Rattle.regions.proofs.Items.{region_at_lem}
use Rattle.index.proofs.item_region.Goals as goal

pub returns : goal.returns
returns c = region_at_lem c.args.items.now c.args.at
