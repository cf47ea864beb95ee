-- `clashes::region_at` meets its contract: the first entry that does not start before y is the held region with that start, or there is none.
use mathlib.Core.Path.{◌∙◌}
use Rattle.leaves.proofs.Faces.{faces_few}
use Rattle.clashes.proofs.Starts.{step_finds, none_left, first_left}
use Rattle.clashes.proofs.region_at.Goals as goal

pub step-requires : goal.step-requires
step-requires c = faces_few _ c.seek_from.ensures

pub returns-in_err-entry : goal.returns-in_err-entry
returns-in_err-entry c = none_left _ _ _ c.in_err-entry.was c.from_residual.ensures ∙ step_finds _ _ _ _ c.requires c.seek_from.ensures c.step.ensures

pub returns : goal.returns
returns c = first_left _ _ _ _ _ c.in_ok-entry.was c.then_some.ensures ∙ step_finds _ _ _ _ c.requires c.seek_from.ensures c.step.ensures
