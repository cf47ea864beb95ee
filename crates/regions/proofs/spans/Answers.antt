-- `regions::spans` meets its contract: an end behind p leaves the start to decide, which it does by either choice.
use mathlib.Core.Path.{◌∙◌}
use Rattle.regions.proofs.Small.{spans_open}
use Rattle.regions.proofs.spans.Goals as goal

pub returns-then-p-end : goal.returns-then-p-end
returns-then-p-end c = c.in_time.ensures ∙ spans_open _ _ _ _ c.if-p-end.true
