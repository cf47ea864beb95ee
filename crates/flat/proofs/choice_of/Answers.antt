-- `flat::choice_of` meets its contract.
use borrow.Author.Tests.{eq-eqb, ne_eqb}
use Rattle.flat.specs.Numbers.{choice_of_number}
use Rattle.flat.proofs.choice_of.Goals as goal

pub returns-then-number-eq0 : goal.returns-then-number-eq0
unfolding choice_of_number
returns-then-number-eq0 c = simp (eq-eqb _ _ c.if-number-eq0.true)

pub returns : goal.returns
unfolding choice_of_number
returns c = simp (ne_eqb _ _ c.if-number-eq0.false)
