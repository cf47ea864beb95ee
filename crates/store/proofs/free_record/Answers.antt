-- `store::free_record` meets its contract: one word is written, at the place by its definition.
use Rattle.store.specs.Store.{free_record}
use Rattle.store.proofs.free_record.Goals as goal

pub returns : goal.returns
unfolding free_record
returns c = rw c.record_at.ensures
