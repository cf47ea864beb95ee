-- What the shape of an image gives: its length and height, fills of at most eight on the way down, ascending starts; and starts of 32 bits where every word has them.
-- Assumes nothing.
use Prim.Native.Nat.{ℕ, zero, suc, ◌+◌, ◌*◌, ◌<◌, ◌≤◌}
use mathlib.Core.Path.{◌≡◌, refl}
use mathlib.Core.Bool.{◌&&◌}
use mathlib.Core.List.{List, [], ◌∷◌}
use lib.Dec.{T, leb, eqb, leb→le, eqb→eq}
use lib.ListN.{length, get_or, take, drop}
use lib.Seq.{get_or-drop}
use native.Mathlib.Omega.{arith}
use Rattle.words.specs.Lists.{All}
use Rattle.words.proofs.Tests.{and_left, and_right}
use Rattle.words.proofs.Listed.{all_append}
use Rattle.words.proofs.Says.{pairs_say, lt_says}
use Rattle.regions.specs.Sound.{Rising}
use Rattle.xrtree.specs.Tree.{regions, leaves, page_places}
use Rattle.xrtree.specs.Rules.{within, filled, linked, starts_first, rule1, rule2, placed}
use Rattle.pages.specs.Layout.{image_words, root_of, height_of, shares_of, page_of, fill_of, child_in, entry_word, page_count, page_used}
use Rattle.image.specs.Read.{entries_from, depth_of, tree_of, set_of}
use Rattle.image.specs.Valid.{sized}
use Rattle.image.specs.Fills.{root_least}
use Rattle.image.specs.Shape.{shapely}
use Rattle.image.proofs.Fills.{shapely_fills}
use Rattle.census.specs.Pass.{Fills, regions_at}
use Rattle.census.proofs.Decides.{Small}
use Rattle.census.proofs.Walk.{fills_any, leaf_regions, leaf_listed, kid_regions, inner_listed}

-- THE SHAPE
module _ (w : List ℕ) (t : T (shapely w)) where
  is_sized : T (sized w)
  unfolding shapely
  is_sized = and_left (sized w) _ t

  is_ruled : T (rule1 (depth_of w) (tree_of w))
  unfolding shapely
  is_ruled = and_left (rule1 (depth_of w) (tree_of w)) (rule2 (depth_of w) (tree_of w) && placed (page_used w) page_count (page_places (depth_of w) (tree_of w))) (and_right (sized w) _ t)

  pub shape_long : length w ≡ 12288
  unfolding sized
  shape_long = eqb→eq (length w) image_words (and_left (eqb (length w) image_words) (within 1 4 (height_of w)) is_sized)

  pub shape_high : (1 ≤ height_of w) × (height_of w ≤ 4)
  unfolding sized
  shape_high =
      let h = and_right (eqb (length w) image_words) (within 1 4 (height_of w)) is_sized in
      (leb→le 1 (height_of w) (and_left (leb 1 (height_of w)) (leb (height_of w) 4) h), leb→le (height_of w) 4 (and_right (leb 1 (height_of w)) (leb (height_of w) 4) h))

  pub shape_fills : Fills (depth_of w) w (root_of w)
  shape_fills = fills_any (root_least (depth_of w)) (depth_of w) w (root_of w) (shapely_fills w t)

  pub shape_ascends : Rising (set_of w).regions
  unfolding rule1 set_of starts_first
  shape_ascends =
      (pairs_say (λ x y. lt_says x.start y.start) (regions (depth_of w) (tree_of w))).yes_so
      (and_right (linked (leaves (depth_of w) (tree_of w))) _ (and_right (filled (depth_of w) (tree_of w)) _ is_ruled))

-- the set's shares and regions
pub set_shares : (w : List ℕ) → (set_of w).shares ≡ shares_of w
unfolding set_of
set_shares w = refl

pub set_regions : (w : List ℕ) → (set_of w).regions ≡ regions_at w (depth_of w) (root_of w)
unfolding set_of regions_at
set_regions w = refl

-- STARTS OF 32 BITS
abbrev pub SmallWords : List ℕ → Type 0
SmallWords w = (i : ℕ) → get_or w i 0 < 4294967296

small_take : (n : ℕ) (w : List ℕ) → SmallWords w → SmallWords (take n w)
small_take zero w s i = omega arith
small_take (suc n) [] s i = omega arith
small_take (suc n) (x ∷ xs) s zero = s 0
small_take (suc n) (x ∷ xs) s (suc i) = small_take n xs (λ j. s (suc j)) i

small_page : (w : List ℕ) (p : ℕ) → SmallWords w → SmallWords (page_of w p)
unfolding page_of
small_page w p s = small_take 57 (drop (57 * p) w) (λ i. rw (get_or-drop (57 * p) w i 0) (s (57 * p + i)))

small_leaf : (ws : List ℕ) → SmallWords ws → (i m : ℕ) → All Small (leaf_regions ws i m)
unfolding leaf_regions entries_from
small_leaf ws s i zero = tt
small_leaf ws s i (suc m) = (s (entry_word i), small_leaf ws s (suc i) m)

small_kids : (w : List ℕ) (h : ℕ) → ((p : ℕ) → All Small (regions_at w h p)) → (ws : List ℕ) (i m : ℕ) → All Small (kid_regions w h ws i m)
unfolding kid_regions
small_kids w h s ws i zero = tt
small_kids w h s ws i (suc m) = all_append Small (regions_at w h (child_in ws i)) (kid_regions w h ws (suc i) m) (s (child_in ws i)) (small_kids w h s ws (suc i) m)

small_at : (w : List ℕ) → SmallWords w → (h p : ℕ) → All Small (regions_at w h p)
small_at w s zero p = rw (leaf_listed w p) at (small_leaf (page_of w p) (small_page w p s) 0 (fill_of (page_of w p)))
small_at w s (suc h) p = rw (inner_listed w h p) at (small_kids w h (small_at w s h) (page_of w p) 0 (suc (fill_of (page_of w p))))

pub set_small : (w : List ℕ) → SmallWords w → All Small (set_of w).regions
set_small w s = rw (set_regions w) (small_at w s (depth_of w) (root_of w))
