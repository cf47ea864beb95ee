-- `flat::desk_left` meets its contract.
use mathlib.Core.Path.{◌∙◌}
use borrow.Author.Tests.{eq-eqb, ne_eqb}
use Rattle.flat.proofs.desk_left.Goals as goal

pub returns-then-number-eq0 : goal.returns-then-number-eq0
returns-then-number-eq0 c = c.flat_desk.ensures ∙ simp (eq-eqb _ _ c.if-number-eq0.true)

pub returns : goal.returns
returns c = simp (ne_eqb _ _ c.if-number-eq0.false)
