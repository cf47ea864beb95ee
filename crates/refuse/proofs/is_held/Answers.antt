-- `refuse::is_held` meets its contract.
use mathlib.Core.Path.{ap, ◌∙◌}
use Rattle.words.specs.Lists.{some}
use Rattle.clashes.proofs.Reaching.{some_told}
use Rattle.refuse.proofs.is_held.Goals as goal

pub returns : goal.returns
returns c = c.is_some.ensures ∙ some_told _ ∙ ap some c.region_at.ensures
