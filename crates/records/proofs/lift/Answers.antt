-- `lift` moves the beginning of a list that a key stabs in front of another key's list.
use Rattle.records.proofs.Lifting.{lifted_law}
use Rattle.records.proofs.lift.Goals as goal

pub returns : goal.returns
returns c = let a = c.requires in lifted_law _ _ _ _ _ _ _ _ _ _ a.0 c.last_stabbed-p.ensures c.record_behind-rest.ensures c.link-head.ensures.0 c.link-head.ensures.1 c.renewed-gave.ensures c.renewed-took.ensures
