-- `regions::level_fits` meets its contract, kind by kind.
use mathlib.Core.Path.{◌∙◌}
use Rattle.regions.specs.Calls.{level_fits}
use Rattle.regions.proofs.level_fits.Goals as goal

pub returns-in-Ancestor : goal.returns-in-Ancestor
unfolding level_fits
returns-in-Ancestor c = rw c.in-Ancestor.is

pub returns-in-Parent : goal.returns-in-Parent
unfolding level_fits
returns-in-Parent c = c.is_above.ensures ∙ rw c.in-Parent.is

pub returns-in-AncestorOrSelf : goal.returns-in-AncestorOrSelf
unfolding level_fits
returns-in-AncestorOrSelf c = rw c.in-AncestorOrSelf.is
