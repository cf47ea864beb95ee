-- `shape::pass_entries` meets its contract: the head of the leaf, then its starts.
use mathlib.Core.Path.{◌∙◌}
use Rattle.shape.proofs.Turns.{leaf_run, leaf_stop}
use Rattle.shape.proofs.pass_entries.Goals as goal

pub returns-in_err-t : goal.returns-in_err-t
returns-in_err-t c = c.from_residual.ensures ∙ leaf_stop _ _ _ _ c.next_leaf.ensures c.in_err-t.ensures

pub returns : goal.returns
returns c = leaf_run _ _ _ _ _ _ _ c.fill.ensures c.next_leaf.ensures c.in_ok-t.ensures c.pass_starts.ensures
