-- `seats::mark_behind` meets its contract: by the test.
use borrow.Author.Tests.{eq-eqb, ne_eqb}
use Rattle.seats.specs.Steps.{mark_read}
use Rattle.seats.proofs.mark_behind.Goals as goal

pub returns-then-n-eq0 : goal.returns-then-n-eq0
unfolding mark_read
returns-then-n-eq0 c = simp (eq-eqb _ _ c.if-n-eq0.true)

pub returns : goal.returns
unfolding mark_read
returns c = simp (ne_eqb _ _ c.if-n-eq0.false)
