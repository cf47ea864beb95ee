-- `flat::kind_of` meets its contract.
use borrow.Author.Tests.{eq-eqb, ne_eqb}
use Rattle.flat.specs.Numbers.{kind_of}
use Rattle.flat.proofs.kind_of.Goals as goal

pub returns-then-number-eq0 : goal.returns-then-number-eq0
unfolding kind_of
returns-then-number-eq0 c = simp (eq-eqb _ _ c.if-number-eq0.true)

pub returns-then-number-eq2 : goal.returns-then-number-eq2
unfolding kind_of
returns-then-number-eq2 c = simp (ne_eqb _ _ c.if-number-eq0.false, eq-eqb _ _ c.if-number-eq2.true)

pub returns : goal.returns
unfolding kind_of
returns c = simp (ne_eqb _ _ c.if-number-eq0.false, ne_eqb _ _ c.if-number-eq2.false)
