-- The pass over the regions of a leaf and of the children of an inner page, in the form of the loops' invariants; and the fills on the way down.
-- Assumes nothing.
use Prim.Native.Nat.{ℕ, zero, suc, ◌+◌, ◌-◌, ◌<◌, ◌≤◌, zero-le}
use mathlib.Core.Path.{◌≡◌, refl, sym, ap, ◌∙◌}
use mathlib.Core.List.{List, [], ◌∷◌, ◌++◌, map}
use native.Mathlib.Omega.{arith}
use Rattle.std.specs.Prelude.{Option, Some, None, option_and_then}
use Rattle.regions.specs.declared.Region.{Region}
use Rattle.xrtree.specs.Tree.{region_of, list_regions}
use Rattle.pages.specs.Layout.{page_of, fill_of, region_in, entry_word, child_in}
use Rattle.image.specs.Read.{entries_from}
use Rattle.image.specs.Fills.{FillsFrom}
use Rattle.image.proofs.Listings.{listed_at, listed_from, from_last, from_more, listed_leaf, listed_inner}
use Rattle.nesting.specs.Pass.{Passed, enter}
use Rattle.census.specs.Pass.{pass, regions_at, Fills}

then_append : (xs ys : List Region) (o : Option Passed) → ((s : Passed) → pass (xs ++ ys) s ≡ option_and_then (pass ys) (pass xs s))
    → option_and_then (pass (xs ++ ys)) o ≡ option_and_then (pass ys) (option_and_then (pass xs) o)
then_append xs ys None h = refl
then_append xs ys (Some s) h = h s

pub pass_append : (xs ys : List Region) (s : Passed) → pass (xs ++ ys) s ≡ option_and_then (pass ys) (pass xs s)
unfolding pass
pass_append [] ys s = refl
pass_append (x ∷ xs) ys s = then_append xs ys (enter x s) (λ t. pass_append xs ys t)

-- m regions of a leaf's words from entry i on
unfoldable pub leaf_regions : List ℕ → ℕ → ℕ → List Region
leaf_regions ws i m = map region_of (entries_from ws i m)

leaf_suc : (ws : List ℕ) (i m : ℕ) (s : Passed) → pass (leaf_regions ws i (suc m)) s ≡ option_and_then (pass (leaf_regions ws (suc i) m)) (enter (region_in ws (entry_word i)) s)
unfolding leaf_regions entries_from pass
leaf_suc ws i m s = refl

-- o is what the region came to: where the pass goes on, and where it ends
pub leaf_next : (ws : List ℕ) (i n : ℕ) (x : Region) (s : Passed) (o q : Option Passed) → x ≡ region_in ws (entry_word i) → o ≡ enter x s
    → pass (leaf_regions ws i (n - i)) s ≡ q → i < n → option_and_then (pass (leaf_regions ws (i + 1) (n - (i + 1)))) o ≡ q
leaf_next ws i n x s o q ex eo k l =
    let u : i + 1 ≡ suc i = omega arith in
    let m : n - i ≡ suc (n - (i + 1)) = omega arith in
    rw (eo, ex) (rw u (sym (leaf_suc ws i (n - suc i) s) ∙ (rw (m, u) at k)))

pub leaf_done : (ws : List ℕ) (i n : ℕ) (s : Passed) (q : Option Passed) → pass (leaf_regions ws i (n - i)) s ≡ q → n ≤ i → Some s ≡ q
unfolding leaf_regions entries_from pass
leaf_done ws i n s q k l = let z : n - i ≡ 0 = omega arith in rw z at k

pub leaf_listed : (w : List ℕ) (p : ℕ) → leaf_regions (page_of w p) 0 (fill_of (page_of w p)) ≡ regions_at w 0 p
unfolding leaf_regions regions_at
leaf_listed w p = sym (listed_leaf list_regions w p)

pub leaf_all : (w : List ℕ) (p n : ℕ) (s : Passed) → n ≡ fill_of (page_of w p) → pass (leaf_regions (page_of w p) 0 (n - 0)) s ≡ pass (regions_at w 0 p) s
leaf_all w p n s en = let z : n - 0 ≡ fill_of (page_of w p) = omega arith in rw z (ap (λ (l : List Region). pass l s) (leaf_listed w p))

pub at_leaf_lem : (w : List ℕ) (d p : ℕ) (s : Passed) → d ≡ 0 → pass (regions_at w 0 p) s ≡ pass (regions_at w d p) s
at_leaf_lem w d p s e = rw e

-- m children of an inner page's words from child i on
unfoldable pub kid_regions : List ℕ → ℕ → List ℕ → ℕ → ℕ → List Region
kid_regions w h ws i zero = []
kid_regions w h ws i (suc m) = regions_at w h (child_in ws i) ++ kid_regions w h ws (suc i) m

kids_suc : (w : List ℕ) (h : ℕ) (ws : List ℕ) (i m : ℕ) (s : Passed)
    → pass (kid_regions w h ws i (suc m)) s ≡ option_and_then (pass (kid_regions w h ws (suc i) m)) (pass (regions_at w h (child_in ws i)) s)
unfolding kid_regions
kids_suc w h ws i m s = pass_append (regions_at w h (child_in ws i)) (kid_regions w h ws (suc i) m) s

pub kids_next : (w : List ℕ) (h : ℕ) (ws : List ℕ) (i n x : ℕ) (s : Passed) (o q : Option Passed) → x ≡ child_in ws i → o ≡ pass (regions_at w h x) s
    → pass (kid_regions w h ws i (n + 1 - i)) s ≡ q → i ≤ n → option_and_then (pass (kid_regions w h ws (i + 1) (n + 1 - (i + 1)))) o ≡ q
kids_next w h ws i n x s o q ex eo k l =
    let u : i + 1 ≡ suc i = omega arith in
    let m : n + 1 - i ≡ suc (n + 1 - (i + 1)) = omega arith in
    rw (eo, ex) (rw u (sym (kids_suc w h ws i (n + 1 - suc i) s) ∙ (rw (m, u) at k)))

pub kids_done : (w : List ℕ) (h : ℕ) (ws : List ℕ) (i n : ℕ) (s : Passed) (q : Option Passed) → pass (kid_regions w h ws i (n + 1 - i)) s ≡ q → n < i → Some s ≡ q
unfolding kid_regions pass
kids_done w h ws i n s q k l = let z : n + 1 - i ≡ 0 = omega arith in rw z at k

kids_listed : (w : List ℕ) (h : ℕ) (ws : List ℕ) (i m : ℕ) → kid_regions w h ws i (suc m) ≡ listed_from list_regions w h ws i m
unfolding kid_regions regions_at
kids_listed w h ws i zero = append_none (listed_at list_regions w h (child_in ws i)) ∙ sym (from_last list_regions w h ws i)
  where
    append_none : (xs : List Region) → xs ++ [] ≡ xs
    append_none [] = refl
    append_none (x ∷ xs) = ap (x ∷◌) (append_none xs)
kids_listed w h ws i (suc m) =
    ap (λ (l : List Region). listed_at list_regions w h (child_in ws i) ++ l) (kids_listed w h ws (suc i) m) ∙ sym (from_more list_regions w h ws i m)

pub inner_listed : (w : List ℕ) (h p : ℕ) → kid_regions w h (page_of w p) 0 (suc (fill_of (page_of w p))) ≡ regions_at w (suc h) p
unfolding regions_at
inner_listed w h p = kids_listed w h (page_of w p) 0 (fill_of (page_of w p)) ∙ sym (listed_inner list_regions w h p)

pub kids_all : (w : List ℕ) (h d p n : ℕ) (s : Passed) → d ≡ suc h → n ≡ fill_of (page_of w p) → pass (kid_regions w h (page_of w p) 0 (n + 1 - 0)) s ≡ pass (regions_at w d p) s
kids_all w h d p n s ed en =
    let z : n + 1 - 0 ≡ suc (fill_of (page_of w p)) = omega arith in
    rw (z, ed) (ap (λ (l : List Region). pass l s) (inner_listed w h p))

-- fills
pub fills_any : (least h : ℕ) (w : List ℕ) (p : ℕ) → FillsFrom least h w p → Fills h w p
unfolding Fills
fills_any least zero w p f = (zero-le, f.1)
fills_any least (suc h) w p f = (zero-le, f.1, f.2)

pub fills_here : (h : ℕ) (w : List ℕ) (p : ℕ) → Fills h w p → fill_of (page_of w p) ≤ 8
unfolding Fills
fills_here zero w p f = f.1
fills_here (suc h) w p f = f.1

pub fills_below : (w : List ℕ) (h d p i c : ℕ) → d ≡ suc h → i ≤ fill_of (page_of w p) → c ≡ child_in (page_of w p) i → Fills d w p → Fills h w c
unfolding Fills
fills_below w h d p i c ed l ec f =
    let g : Fills (suc h) w p = rw ed at f in
    rw ec (fills_any 4 h w (child_in (page_of w p) i) (g.2 i l))
