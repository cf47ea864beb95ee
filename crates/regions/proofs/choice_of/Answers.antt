-- `regions::choice_of` meets its contract, kind by kind.
use mathlib.Core.Path.{sym, ap}
use Rattle.regions.specs.Calls.{choice_of}
use Rattle.regions.proofs.choice_of.Goals as goal

pub returns-in-Ancestor : goal.returns-in-Ancestor
unfolding choice_of
returns-in-Ancestor c = sym (ap choice_of c.in-Ancestor.is)

pub returns-in-Parent : goal.returns-in-Parent
unfolding choice_of
returns-in-Parent c = sym (ap choice_of c.in-Parent.is)

pub returns-in-AncestorOrSelf : goal.returns-in-AncestorOrSelf
unfolding choice_of
returns-in-AncestorOrSelf c = sym (ap choice_of c.in-AncestorOrSelf.is)
