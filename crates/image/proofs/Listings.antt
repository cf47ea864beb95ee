-- What is listed of the tree that an image holds, page by page: one equation for a leaf, one for an inner page, and the rest of a page from some child on.
-- Assumes nothing.
use Prim.Native.Nat.{ℕ, zero, suc, ◌+◌}
use mathlib.Core.Path.{◌≡◌, refl, ap, ap₂}
use mathlib.Core.List.{List, ◌++◌}
use lib.ListN.{length}
use native.Mathlib.Omega.{arith}
use Rattle.xrtree.specs.Tree.{Leaf, Listing, weave, listed}
use Rattle.pages.specs.Layout.{page_of, fill_of, next_of, child_in}
use Rattle.image.specs.Read.{entries_from, key_at, kids_from, read_tree}

-- m entries or keys were asked for, so there are m
pub entries_long : (ws : List ℕ) (i m : ℕ) → length (entries_from ws i m) ≡ m
unfolding entries_from
entries_long ws i zero = refl
entries_long ws i (suc m) = ap suc (entries_long ws (suc i) m)

pub kids_long : {A : Type 0} (child : ℕ → A) (w ws : List ℕ) (i m : ℕ) → length (kids_from child w ws i m) ≡ m
unfolding kids_from
kids_long child w ws i zero = refl
kids_long child w ws i (suc m) = ap suc (kids_long child w ws (suc i) m)

-- the entries of a leaf, as it is read at place p
abbrev pub leaf_at : List ℕ → ℕ → Leaf
leaf_at w p = record { place = p; next = next_of (page_of w p); entries = entries_from (page_of w p) 0 (fill_of (page_of w p)) }

module _ {B : Type 0} (L : Listing B) (w : List ℕ) where
  abbrev pub listed_at : (h : ℕ) → ℕ → List B
  listed_at h p = listed L h (read_tree h w p)

  -- what is listed of an inner page with words ws from child i on, m keys being left
  unfoldable pub listed_from : (h : ℕ) → List ℕ → ℕ → ℕ → List B
  listed_from h ws i zero = listed_at h (child_in ws i)
  listed_from h ws i (suc m) = listed_at h (child_in ws i) ++ (L.on_key (key_at w ws i) ++ listed_from h ws (suc i) m)

  pub from_last : (h : ℕ) (ws : List ℕ) (i : ℕ) → listed_from h ws i 0 ≡ listed_at h (child_in ws i)
  unfolding listed_from
  from_last h ws i = refl

  pub from_more : (h : ℕ) (ws : List ℕ) (i m : ℕ) → listed_from h ws i (suc m) ≡ listed_at h (child_in ws i) ++ (L.on_key (key_at w ws i) ++ listed_from h ws (suc i) m)
  unfolding listed_from
  from_more h ws i m = refl

  weave_from : (h : ℕ) (ws : List ℕ) (i m : ℕ)
      → weave (listed L h) L.on_key (kids_from (read_tree h w) w ws i m) (read_tree h w (child_in ws (i + m))) ≡ listed_from h ws i m
  unfolding weave kids_from listed_from
  weave_from h ws i zero = let e : i + 0 ≡ i = omega arith in rw e
  weave_from h ws i (suc m) =
      let e : i + suc m ≡ suc i + m = omega arith in
      ap (λ (l : List B). listed_at h (child_in ws i) ++ (L.on_key (key_at w ws i) ++ l)) (rw e (weave_from h ws (suc i) m))

  pub listed_leaf : (p : ℕ) → listed_at 0 p ≡ L.on_leaf (leaf_at w p)
  unfolding listed read_tree
  listed_leaf p = refl

  pub listed_inner : (h p : ℕ) → listed_at (suc h) p ≡ L.on_page p (fill_of (page_of w p)) ++ listed_from h (page_of w p) 0 (fill_of (page_of w p))
  unfolding listed read_tree
  listed_inner h p =
      ap₂ ◌++◌ (ap (L.on_page p) (kids_long (read_tree h w) w (page_of w p) 0 (fill_of (page_of w p)))) (at_last (fill_of (page_of w p)))
    where
      at_last : (n : ℕ) → weave (listed L h) L.on_key (kids_from (read_tree h w) w (page_of w p) 0 n) (read_tree h w (child_in (page_of w p) n)) ≡ listed_from h (page_of w p) 0 n
      at_last n = let e : 0 + n ≡ n = omega arith in rw e at (weave_from h (page_of w p) 0 n)
