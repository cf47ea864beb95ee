-- `leaves::Cursor::start` meets its contract: at the end, or at an entry.
use Rattle.leaves.proofs.Faces.{faced_end, faced_next}
use Rattle.leaves.proofs.Cursor.start.Goals as goal

pub returns-then-self-eq0 : goal.returns-then-self-eq0
returns-then-self-eq0 c = faced_end _ _ c.if-self-eq0.true

pub returns : goal.returns
returns c = faced_next _ _ _ c.if-self-eq0.false c.entry_start.ensures
