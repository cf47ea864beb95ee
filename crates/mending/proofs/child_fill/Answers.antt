-- `child_fill` reads what the child says it has.
use Rattle.mending.proofs.Seen.{child_read}
use Rattle.mending.proofs.child_fill.Goals as goal

pub returns : goal.returns
returns c = child_read _ _ _ _ _ c.child.ensures c.fill.ensures
