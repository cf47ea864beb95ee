-- `leaves::Cursor::step` answers `step_from`: the end, or the entry and the cursor moved on.
use Rattle.leaves.proofs.Walks.{step_end, step_next}
use Rattle.leaves.proofs.Cursor.step.Goals as goal

pub returns-then-self-eq0 : goal.returns-then-self-eq0
returns-then-self-eq0 c = step_end _ _ c.if-self-eq0.true

pub returns : goal.returns
returns c = step_next _ _ _ _ _ c.if-self-eq0.false c.entry_region-region.ensures c.entry_flag-flag.ensures c.cursor_at-on.ensures
