-- `renewed` answers a key with the stored pair of its list.
use Rattle.records.proofs.Small.{renewed_none, renewed_some}
use Rattle.records.proofs.renewed.Goals as goal

pub returns-then-head-eq0 : goal.returns-then-head-eq0
returns-then-head-eq0 c = renewed_none _ _ _ c.if-head-eq0.true

pub returns : goal.returns
returns c = renewed_some _ _ _ _ c.if-head-eq0.false c.record_region-r.ensures
