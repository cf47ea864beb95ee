-- `insert::settle` splits a child that holds nine, a leaf or an inner page.
use native.Mathlib.Omega.{arith}
use mathlib.Core.Path.{sym, ◌∙◌}
use Rattle.insert.proofs.Settles.{settle_kept, leaf_asks, leaf_settled, inner_asks, inner_settled}
use Rattle.insert.proofs.settle.Goals as goal

pub returns-then-fill-ne9 : goal.returns-then-fill-ne9
returns-then-fill-ne9 c = settle_kept _ _ _ _ _ (λ e. c.if-fill-ne9.true (c.fill.ensures ∙ e))

pub leaf-requires : goal.leaf-requires
leaf-requires c = (omega (arith, c.requires.0), leaf_asks _ _ _ _ _ (sym c.fill.ensures ∙ c.if-fill-ne9.false) c.if-low-eq0.true _ c.requires.1.1)

pub returns-then-low-eq0 : goal.returns-then-low-eq0
returns-then-low-eq0 c = leaf_settled _ _ _ _ _ _ (sym c.fill.ensures ∙ c.if-fill-ne9.false) c.if-low-eq0.true c.leaf.ensures

pub inner-requires : goal.inner-requires
inner-requires c = (omega (arith, c.requires.0), inner_asks _ _ _ _ _ (sym c.fill.ensures ∙ c.if-fill-ne9.false) c.if-low-eq0.false _ c.requires.1.1)

pub returns : goal.returns
returns c = inner_settled _ _ _ _ _ _ (sym c.fill.ensures ∙ c.if-fill-ne9.false) c.if-low-eq0.false c.inner.ensures
