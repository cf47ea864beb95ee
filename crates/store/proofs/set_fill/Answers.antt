-- `store::set_fill` meets its contract: one word is written, at the place by its definition.
use Rattle.store.specs.Store.{set_fill}
use Rattle.store.proofs.set_fill.Goals as goal

pub returns : goal.returns
unfolding set_fill
returns c = rw c.page_at.ensures
