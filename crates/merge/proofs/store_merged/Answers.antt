-- `store_merged` stores two pages and gives one back.
use Rattle.merge.proofs.Pairs.{stores_are}
use Rattle.merge.proofs.store_merged.Goals as goal

pub returns : goal.returns
returns c = stores_are _ _ _ _ _ _ _ _ _ c.store_page.ensures c.store_page-2.ensures c.free_page.ensures
