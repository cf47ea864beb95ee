-- `record_behind` answers what stands behind a place: the head where the place is 0.
use Rattle.records.proofs.Small.{behind_none, behind_some}
use Rattle.records.proofs.record_behind.Goals as goal

pub returns-then-p-eq0 : goal.returns-then-p-eq0
returns-then-p-eq0 c = behind_none _ _ _ c.if-p-eq0.true

pub returns : goal.returns
returns c = behind_some _ _ _ _ c.if-p-eq0.false c.record_next.ensures
