-- The three tests together are validity.
-- Assumes nothing.
use Prim.Native.Nat.{ℕ}
use mathlib.Core.Path.{◌≡◌, refl}
use mathlib.Core.Bool.{Bool, true, false, ◌&&◌}
use mathlib.Core.List.{List}
use Rattle.words.proofs.Tests.{and_false}
use Rattle.pages.specs.Layout.{page_count, record_count, page_used, record_used}
use Rattle.xrtree.specs.Tree.{page_places, record_places}
use Rattle.xrtree.specs.Rules.{rule1, rule2, rule3, rule4, rule5, rule6, placed}
use Rattle.image.specs.Read.{depth_of, tree_of, set_of}
use Rattle.image.specs.Valid.{sized, rule7, tree_rules, valid}
use Rattle.image.specs.Shape.{shapely, regions_right, lists_right}

regroup : (s a b c d e f p q : Bool) → (s && ((a && (b && (c && (d && e)))) && (f && (p && q)))) ≡ ((s && (a && (b && p))) && (f && (c && (d && (e && q)))))
regroup false a b c d e f p q = refl
regroup true false b c d e f p q = refl
regroup true true false c d e f p q = refl
regroup true true true false d e f false q = refl
regroup true true true false d e f true q = rw (and_false f)
regroup true true true true false e f false q = refl
regroup true true true true false e f true q = rw (and_false f)
regroup true true true true true false f false q = refl
regroup true true true true true false f true q = rw (and_false f)
regroup true true true true true true f false q = rw (and_false f)
regroup true true true true true true f true q = refl

pub valid_parts : (w : List ℕ) → valid w ≡ (shapely w && (regions_right w && lists_right w))
unfolding valid tree_rules rule7 shapely lists_right
valid_parts w =
    regroup (sized w) (rule1 (depth_of w) (tree_of w)) (rule2 (depth_of w) (tree_of w)) (rule3 (depth_of w) (tree_of w)) (rule4 (depth_of w) (tree_of w))
    (rule5 (depth_of w) (tree_of w)) (rule6 (set_of w)) (placed (page_used w) page_count (page_places (depth_of w) (tree_of w)))
    (placed (record_used w) record_count (record_places (depth_of w) (tree_of w)))
