-- `inside::is_wanted` meets its contract, kind by kind.
use mathlib.Core.Path.{◌∙◌}
use Rattle.inside.proofs.Walks.{wants_all, wants_below, wants_up_to}
use Rattle.inside.proofs.is_wanted.Goals as goal

pub returns-in-All : goal.returns-in-All
returns-in-All c = wants_all _ _ c.in-All.is

pub returns-in-Below : goal.returns-in-Below
returns-in-Below c = c.is_below.ensures ∙ wants_below _ _ _ c.in-Below.is

pub returns-in-UpTo : goal.returns-in-UpTo
returns-in-UpTo c = wants_up_to _ _ _ c.in-UpTo.is
