use mathlib.Core.Path.{◌∙◌}
use native.Mathlib.Omega.{arith}
use Rattle.nesting.proofs.Stack.{pop_stop, pop_down, pop_none}
use Rattle.nesting.proofs.Pass.popped.Goals as goal

pub returns-then-s-self : goal.returns-then-s-self
returns-then-s-self c = (omega (arith, c.loop-t.auto.t), pop_stop _ _ _ _ c.loop-t-test.true c.if-s-self.true ∙ c.loop-t.invariant)

pub loop-t-preserved : goal.loop-t-preserved
loop-t-preserved c = pop_down _ _ _ _ c.loop-t-test.true c.if-s-self.false ∙ c.loop-t.invariant

pub returns : goal.returns
returns c = (omega arith, pop_none _ _ _ _ c.loop-t-test.false ∙ c.loop-t.invariant)
