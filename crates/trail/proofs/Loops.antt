-- A turn of each loop along a list, in the form of its invariant: what is left to do from here on comes to the same.
-- Assumes nothing.
use Prim.Native.Nat.{ℕ, zero, suc, ◌+◌, ◌-◌, ◌<◌, ◌≤◌}
use mathlib.Core.Path.{◌≡◌, refl, sym, ap, ◌∙◌}
use mathlib.Core.List.{List, [], ◌∷◌, ◌++◌, map, append-nil}
use Rattle.std.proofs.Common.{Option, None, Some, option_and_then}
use native.Mathlib.Omega.{arith}
use Rattle.regions.specs.declared.Region.{Region}
use Rattle.xrtree.specs.Tree.{region_of, list_regions}
use Rattle.pages.specs.Layout.{page_of, fill_of, child_in, entry_word, region_in}
use Rattle.image.specs.Read.{entries_from}
use Rattle.image.proofs.Listings.{listed_at, listed_from, from_last, from_more, listed_leaf, listed_inner}
use Rattle.trail.specs.declared.Trail.{Trail}
use Rattle.trail.specs.declared.Home.{Home}
use Rattle.trail.specs.Pass.{meet, follow, regions_at, Fills}

-- FOLLOWING A LIST over two lists of regions, one after the other
then_two : {A : Type 0} (f g h : A → Option A) (o : Option A) → ((t : A) → f t ≡ option_and_then g (h t)) → option_and_then f o ≡ option_and_then g (option_and_then h o)
then_two f g h None e = refl
then_two f g h (Some t) e = e t

pub follow_append : (w : List ℕ) (h : Home) (rs ss : List Region) (t : Trail) → follow w h (rs ++ ss) t ≡ option_and_then (follow w h ss) (follow w h rs t)
unfolding follow
follow_append w h [] ss t = refl
follow_append w h (r ∷ rs) ss t = then_two (follow w h (rs ++ ss)) (follow w h ss) (follow w h rs) (meet w h r t) (λ u. follow_append w h rs ss u)

-- the regions of m entries, and of m children, from number i on
abbrev pub entry_regions : List ℕ → ℕ → ℕ → List Region
entry_regions ws i m = map region_of (entries_from ws i m)

unfoldable pub kids_regions : List ℕ → ℕ → List ℕ → ℕ → ℕ → List Region
kids_regions w h ws i zero = []
kids_regions w h ws i (suc m) = regions_at w h (child_in ws i) ++ kids_regions w h ws (suc i) m

pub regions_leaf : (w : List ℕ) (p : ℕ) → regions_at w 0 p ≡ entry_regions (page_of w p) 0 (fill_of (page_of w p))
unfolding regions_at
regions_leaf w p = listed_leaf list_regions w p

pub kids_from_lem : (w : List ℕ) (h : ℕ) (ws : List ℕ) (i m : ℕ) → kids_regions w h ws i (suc m) ≡ listed_from list_regions w h ws i m
unfolding kids_regions regions_at
kids_from_lem w h ws i zero = append-nil (listed_at list_regions w h (child_in ws i)) ∙ sym (from_last list_regions w h ws i)
kids_from_lem w h ws i (suc m) = ap (λ (l : List Region). listed_at list_regions w h (child_in ws i) ++ l) (kids_from_lem w h ws (suc i) m) ∙ sym (from_more list_regions w h ws i m)

pub regions_inner : (w : List ℕ) (h p : ℕ) → regions_at w (suc h) p ≡ kids_regions w h (page_of w p) 0 (suc (fill_of (page_of w p)))
unfolding regions_at
regions_inner w h p = listed_inner list_regions w h p ∙ sym (kids_from_lem w h (page_of w p) 0 (fill_of (page_of w p)))

module _ (w : List ℕ) (h : Home) where
  -- over a leaf's entries
  pub leaf_begin : (p n : ℕ) (t : Trail) → n ≡ fill_of (page_of w p) → follow w h (entry_regions (page_of w p) 0 (n - 0)) t ≡ follow w h (regions_at w 0 p) t
  leaf_begin p n t e =
      let v : n - 0 ≡ fill_of (page_of w p) = omega arith in
      rw (v, regions_leaf)

  -- the turn at entry i, and how it goes on or ends there
  leaf_turn : (ws : List ℕ) (i n : ℕ) (x : Region) (t : Trail) (u r : Option Trail) → i < n → x ≡ region_in ws (entry_word i) → u ≡ meet w h x t
      → follow w h (entry_regions ws i (n - i)) t ≡ r → option_and_then (follow w h (entry_regions ws (i + 1) (n - (i + 1)))) u ≡ r
  unfolding follow entries_from
  leaf_turn ws i n x t u r l e s k =
      let a : i + 1 ≡ suc i = omega arith in
      let v : n - i ≡ suc (n - suc i) = omega arith in
      rw (a, s, e) (rw v at k)

  pub leaf_more : (ws : List ℕ) (i n : ℕ) (x : Region) (t v : Trail) (u r : Option Trail) → i < n → x ≡ region_in ws (entry_word i) → u ≡ meet w h x t → u ≡ Some v
      → follow w h (entry_regions ws i (n - i)) t ≡ r → follow w h (entry_regions ws (i + 1) (n - (i + 1))) v ≡ r
  leaf_more ws i n x t v u r l e s g k = rw g at (leaf_turn ws i n x t u r l e s k)

  pub leaf_stop : (ws : List ℕ) (i n : ℕ) (x : Region) (t : Trail) (u r : Option Trail) → i < n → x ≡ region_in ws (entry_word i) → u ≡ meet w h x t → u ≡ None
      → follow w h (entry_regions ws i (n - i)) t ≡ r → None ≡ r
  leaf_stop ws i n x t u r l e s g k = rw g at (leaf_turn ws i n x t u r l e s k)

  pub leaf_done : (ws : List ℕ) (i n : ℕ) (t : Trail) (r : Option Trail) → n ≤ i → follow w h (entry_regions ws i (n - i)) t ≡ r → Some t ≡ r
  unfolding follow entries_from
  leaf_done ws i n t r l k = let v : n - i ≡ 0 = omega arith in rw v at k

  -- over a page's children
  pub tree_begin : (d l p n : ℕ) (t : Trail) → l ≡ suc d → n ≡ fill_of (page_of w p) → follow w h (kids_regions w d (page_of w p) 0 (n + 1 - 0)) t ≡ follow w h (regions_at w l p) t
  tree_begin d l p n t q e =
      let v : n + 1 - 0 ≡ suc (fill_of (page_of w p)) = omega arith in
      rw (q, v, regions_inner)

  pub kids_suc : (d : ℕ) (ws : List ℕ) (i m : ℕ) (t : Trail) → follow w h (kids_regions w d ws i (suc m)) t ≡ option_and_then (follow w h (kids_regions w d ws (suc i) m)) (follow w h (regions_at w d (child_in ws i)) t)
  unfolding kids_regions
  kids_suc d ws i m t = follow_append w h (regions_at w d (child_in ws i)) (kids_regions w d ws (suc i) m) t

  tree_turn : (d : ℕ) (ws : List ℕ) (i n y : ℕ) (t : Trail) (u r : Option Trail) → i ≤ n → y ≡ child_in ws i → u ≡ follow w h (regions_at w d y) t
      → follow w h (kids_regions w d ws i (n + 1 - i)) t ≡ r → option_and_then (follow w h (kids_regions w d ws (i + 1) (n + 1 - (i + 1)))) u ≡ r
  tree_turn d ws i n y t u r l e s k =
      let a : i + 1 ≡ suc i = omega arith in
      let v : n + 1 - i ≡ suc (n + 1 - suc i) = omega arith in
      rw (a, s, e) (sym (kids_suc d ws i (n + 1 - suc i) t) ∙ rw v at k)

  pub tree_more : (d : ℕ) (ws : List ℕ) (i n y : ℕ) (t v : Trail) (u r : Option Trail) → i ≤ n → y ≡ child_in ws i → u ≡ follow w h (regions_at w d y) t → u ≡ Some v
      → follow w h (kids_regions w d ws i (n + 1 - i)) t ≡ r → follow w h (kids_regions w d ws (i + 1) (n + 1 - (i + 1))) v ≡ r
  tree_more d ws i n y t v u r l e s g k = rw g at (tree_turn d ws i n y t u r l e s k)

  pub tree_stop : (d : ℕ) (ws : List ℕ) (i n y : ℕ) (t : Trail) (u r : Option Trail) → i ≤ n → y ≡ child_in ws i → u ≡ follow w h (regions_at w d y) t → u ≡ None
      → follow w h (kids_regions w d ws i (n + 1 - i)) t ≡ r → None ≡ r
  tree_stop d ws i n y t u r l e s g k = rw g at (tree_turn d ws i n y t u r l e s k)

  pub tree_done : (d : ℕ) (ws : List ℕ) (i n : ℕ) (t : Trail) (r : Option Trail) → n + 1 ≤ i → follow w h (kids_regions w d ws i (n + 1 - i)) t ≡ r → Some t ≡ r
  unfolding follow kids_regions
  tree_done d ws i n t r l k = let v : n + 1 - i ≡ 0 = omega arith in rw v at k

pub fills_child : (w : List ℕ) (d l p i n y : ℕ) → l ≡ suc d → Fills l w p → n ≡ fill_of (page_of w p) → i ≤ n → y ≡ child_in (page_of w p) i → Fills d w y
fills_child w d l p i n y q f e h g = rw g (down (rw q at f))
  where
    down : Fills (suc d) w p → Fills d w (child_in (page_of w p) i)
    down z = z.1 i (omega arith)
