-- `flat::mark_of` meets its contract.
use borrow.Author.Tests.{eq-eqb, ne_eqb}
use Rattle.flat.specs.Numbers.{mark_of}
use Rattle.flat.proofs.mark_of.Goals as goal

pub returns-then-marked-eq0 : goal.returns-then-marked-eq0
unfolding mark_of
returns-then-marked-eq0 c = simp (eq-eqb _ _ c.if-marked-eq0.true)

pub returns : goal.returns
unfolding mark_of
returns c = simp (ne_eqb _ _ c.if-marked-eq0.false)
