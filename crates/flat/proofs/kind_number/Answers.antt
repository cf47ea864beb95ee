-- `flat::kind_number` meets its contract.
use mathlib.Core.Path.{sym, ap}
use Rattle.flat.specs.Numbers.{kind_number}
use Rattle.flat.proofs.kind_number.Goals as goal

pub returns-in-Ancestor : goal.returns-in-Ancestor
unfolding kind_number
returns-in-Ancestor c = sym (ap kind_number c.in-Ancestor.is)

pub returns-in-Parent : goal.returns-in-Parent
unfolding kind_number
returns-in-Parent c = sym (ap kind_number c.in-Parent.is)

pub returns-in-AncestorOrSelf : goal.returns-in-AncestorOrSelf
unfolding kind_number
returns-in-AncestorOrSelf c = sym (ap kind_number c.in-AncestorOrSelf.is)
