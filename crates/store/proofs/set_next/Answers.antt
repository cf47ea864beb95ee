-- `store::set_next` meets its contract: one word is written, at the place by its definition.
use Rattle.store.specs.Store.{set_next}
use Rattle.store.proofs.set_next.Goals as goal

pub returns : goal.returns
unfolding set_next
returns c = rw c.record_at.ensures
