-- `split_page` splits a leaf or an inner page, as the tier says.
use mathlib.Core.Path.{ap}
use native.Mathlib.Omega.{arith}
use Rattle.mending.specs.Mends.{keys_down}
use Rattle.mending.proofs.Levels.{ask_leaf, ask_inner, leaf_split, inner_split}
use Rattle.mending.proofs.split_page.Goals as goal

pub leaf-requires : goal.leaf-requires
leaf-requires c = (c.requires.0, ask_leaf _ _ _ _ _ c.requires.1 (ap keys_down c.in-Leaves.is))

pub inner-requires : goal.inner-requires
inner-requires c = (c.requires.0, ask_inner _ _ _ _ _ c.requires.1 (λ z. omega (arith, ap keys_down c.in-Inners.is)))

pub returns-in-Leaves : goal.returns-in-Leaves
returns-in-Leaves c = leaf_split _ _ _ _ _ _ (ap keys_down c.in-Leaves.is) c.leaf.ensures

pub returns-in-Inners : goal.returns-in-Inners
returns-in-Inners c = inner_split _ _ _ _ _ _ (λ z. omega (arith, ap keys_down c.in-Inners.is)) c.inner.ensures
