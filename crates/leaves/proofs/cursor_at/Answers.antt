-- `leaves::cursor_at` answers `cursor_at`, by its test.
use Rattle.leaves.proofs.Walks.{cursor_in, cursor_next}
use Rattle.leaves.proofs.cursor_at.Goals as goal

pub returns-then-at-fill : goal.returns-then-at-fill
returns-then-at-fill c = cursor_in _ _ _ _ c.fill.ensures c.if-at-fill.true

pub returns-else-at-fill : goal.returns-else-at-fill
returns-else-at-fill c = cursor_next _ _ _ _ _ c.fill.ensures c.if-at-fill.false c.next_leaf.ensures
