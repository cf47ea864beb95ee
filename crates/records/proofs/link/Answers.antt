-- `link` lets a list go on behind a place, and answers its head.
use Rattle.records.proofs.Small.{link_none, link_some}
use Rattle.records.proofs.link.Goals as goal

pub returns-then-p-eq0 : goal.returns-then-p-eq0
returns-then-p-eq0 c = link_none _ _ _ _ c.if-p-eq0.true

pub returns : goal.returns
returns c = link_some _ _ _ _ _ c.if-p-eq0.false c.set_next.ensures
