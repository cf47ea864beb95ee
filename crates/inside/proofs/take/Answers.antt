-- `inside::take` meets its contract: passed by, or written and counted.
use mathlib.Core.Path.{sym, ◌∙◌}
use Rattle.inside.proofs.Walks.{took_not, took_one}
use Rattle.inside.proofs.take.Goals as goal

pub returns-then-not-is_wanted : goal.returns-then-not-is_wanted
returns-then-not-is_wanted c = took_not _ _ _ _ (sym c.is_wanted.ensures ∙ c.if-not-is_wanted.true)

pub returns : goal.returns
returns c = took_one _ _ _ _ _ (sym c.is_wanted.ensures ∙ c.if-not-is_wanted.false) c.put_region.ensures
