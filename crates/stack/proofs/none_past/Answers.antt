-- `stack::none_past` meets its contract: there is none, or the top tells.
use mathlib.Core.Path.{sym, ◌∙◌}
use Rattle.words.proofs.Tests.{not_true}
use Rattle.stack.proofs.Pairs.{past_empty, past_none}
use Rattle.stack.proofs.none_past.Goals as goal

pub returns-then-n-eq0 : goal.returns-then-n-eq0
returns-then-n-eq0 c = λ h. past_empty _ _ _ c.if-n-eq0.true

pub returns-else-n-eq0 : goal.returns-else-n-eq0
returns-else-n-eq0 c = λ h. past_none _ _ _ _ _ c.if-n-eq0.false c.requires.rising c.region_at.ensures (sym c.is_past.ensures ∙ not_true c.is_past.result h)
