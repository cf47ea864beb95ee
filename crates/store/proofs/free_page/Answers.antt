-- `store::free_page` meets its contract: one word is written, at the place by its definition.
use Rattle.store.specs.Store.{free_page}
use Rattle.store.proofs.free_page.Goals as goal

pub returns : goal.returns
unfolding free_page
returns c = rw c.page_at.ensures
