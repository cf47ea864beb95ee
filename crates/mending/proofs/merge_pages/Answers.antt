-- `merge_pages` merges leaves or inner pages, as the tier says.
use mathlib.Core.Path.{ap}
use native.Mathlib.Omega.{arith}
use Rattle.mending.specs.Mends.{keys_down}
use Rattle.mending.proofs.Levels.{ask_leaves, ask_inners, leaves_merged, inners_merged}
use Rattle.mending.proofs.merge_pages.Goals as goal

pub leaves-requires : goal.leaves-requires
leaves-requires c = (c.requires.0, ask_leaves _ _ _ _ c.requires.1 (ap keys_down c.in-Leaves.is))

pub inners-requires : goal.inners-requires
inners-requires c = (c.requires.0, ask_inners _ _ _ _ c.requires.1 (λ z. omega (arith, ap keys_down c.in-Inners.is)))

pub returns-in-Leaves : goal.returns-in-Leaves
returns-in-Leaves c = leaves_merged _ _ _ _ _ (ap keys_down c.in-Leaves.is) c.leaves.ensures

pub returns-in-Inners : goal.returns-in-Inners
returns-in-Inners c = inners_merged _ _ _ _ _ (λ z. omega (arith, ap keys_down c.in-Inners.is)) c.inners.ensures
