-- Words outside a range stay: which pages, records and header words a write of that range leaves.
-- Assumes nothing.
use Prim.Native.Nat.{ℕ, ◌+◌, ◌*◌, ◌<◌, ◌≤◌}
use mathlib.Core.Path.{◌≡◌, sym, ap, ◌∙◌}
use mathlib.Core.Bool.{not}
use mathlib.Core.List.{List}
use lib.Dec.{eqb}
use lib.ListN.{length, get_or, set, take, drop, length-set, length-take, length-drop}
use lib.Seq.{sets, length-sets, get_or-set_other, get_or-take, get_or-drop, ext_get_or}
use native.Mathlib.Omega.{arith}
use Rattle.words.proofs.Written.{sets_below, sets_above}
use Rattle.pages.specs.Layout.{root_of, height_of, shares_of, page_of, record_of, mark_of, record_end, page_used, record_used}
use Rattle.pages.proofs.Placed.{record_word_at}
use Rattle.image.specs.Read.{record_region}

-- w' is w but for the words from lo to before hi
pub record Kept (w w' : List ℕ) (lo hi : ℕ) : Type 0 where
  pub long : length w' ≡ length w
  pub below : (j : ℕ) → j < lo → get_or w' j 0 ≡ get_or w j 0
  pub above : (j : ℕ) → hi ≤ j → get_or w' j 0 ≡ get_or w j 0

pub kept_set : (w : List ℕ) (i x : ℕ) → Kept w (set w i x) i (i + 1)
kept_set w i x =
    record {
      long = length-set w i x;
      below = λ j h. get_or-set_other w i j x 0 (λ e. omega arith);
      above = λ j h. get_or-set_other w i j x 0 (λ e. omega arith);
    }

pub kept_sets : (w : List ℕ) (i : ℕ) (xs : List ℕ) → Kept w (sets w i xs) i (i + length xs)
kept_sets w i xs = record { long = length-sets w i xs; below = λ j h. sets_below xs w i j 0 h; above = λ j h. sets_above xs w i j 0 h }

-- the header: root, height, shares
pub record SameHead (w w' : List ℕ) : Type 0 where
  pub root : root_of w' ≡ root_of w
  pub height : height_of w' ≡ height_of w
  pub shares : shares_of w' ≡ shares_of w

-- a run of words that two lists share
run_same : (w w' : List ℕ) (n b : ℕ) → length w' ≡ length w → ((i : ℕ) → i < n → get_or w' (b + i) 0 ≡ get_or w (b + i) 0) → take n (drop b w') ≡ take n (drop b w)
run_same w w' n b l f =
    ext_get_or 0 (take n (drop b w')) (take n (drop b w)) (simp (length-take, length-drop) (omega arith))
    (λ i h. same i (omega (arith, length-take n (drop b w'))))
  where
    same : (i : ℕ) → i < n → get_or (take n (drop b w')) i 0 ≡ get_or (take n (drop b w)) i 0
    same i h = get_or-take n (drop b w') i 0 h ∙ get_or-drop b w' i 0 ∙ f i h ∙ sym (get_or-take n (drop b w) i 0 h ∙ get_or-drop b w i 0)

module _ {w w' : List ℕ} {lo hi : ℕ} (k : Kept w w' lo hi) where
  pub page_before : (p : ℕ) → 57 * p + 57 ≤ lo → page_of w' p ≡ page_of w p
  unfolding page_of
  page_before p h = run_same w w' 57 (57 * p) k.long (λ i l. k.below (57 * p + i) (omega arith))

  pub page_behind : (p : ℕ) → hi ≤ 57 * p → page_of w' p ≡ page_of w p
  unfolding page_of
  page_behind p h = run_same w w' 57 (57 * p) k.long (λ i l. k.above (57 * p + i) (omega arith))

  pub record_before : (q : ℕ) → 9177 + 6 * q + 6 ≤ lo → record_of w' q ≡ record_of w q
  unfolding record_of
  record_before q h = run_same w w' 6 (9177 + 6 * q) k.long (λ i l. k.below (9177 + 6 * q + i) (omega arith))

  pub record_behind : (q : ℕ) → hi ≤ 9177 + 6 * q → record_of w' q ≡ record_of w q
  unfolding record_of
  record_behind q h = run_same w w' 6 (9177 + 6 * q) k.long (λ i l. k.above (9177 + 6 * q + i) (omega arith))

  pub shares_behind : hi ≤ 2 → shares_of w' ≡ shares_of w
  unfolding shares_of
  shares_behind h = run_same w w' 16 2 k.long (λ i l. k.above (2 + i) (omega arith))

  pub head_before : 18 ≤ lo → SameHead w w'
  unfolding shares_of
  head_before h =
      record {
        root = k.below 0 (omega arith);
        height = k.below 1 (omega arith);
        shares = run_same w w' 16 2 k.long (λ i l. k.below (2 + i) (omega arith));
      }

-- a place whose words stay is in use as before
pub page_used_same : (w w' : List ℕ) (p : ℕ) → page_of w' p ≡ page_of w p → page_used w' p ≡ page_used w p
unfolding page_used
page_used_same w w' p e = ap (λ ws. not (eqb (mark_of ws) 0)) e

pub record_used_same : (w w' : List ℕ) (q : ℕ) → record_of w' q ≡ record_of w q → record_used w' q ≡ record_used w q
unfolding record_used
record_used_same w w' q e = ap (λ ws. not (eqb (record_end ws) 0)) e

-- a record whose first four words stay has its region
pub region_same : (w w' : List ℕ) (q : ℕ) → ((i : ℕ) → i < 4 → get_or w' (9177 + 6 * q + i) 0 ≡ get_or w (9177 + 6 * q + i) 0) → record_region w' q ≡ record_region w q
unfolding record_region
region_same w w' q f = λ x. record { start = at 0 (omega arith) x; end = at 1 (omega arith) x; level = at 2 (omega arith) x; reference = at 3 (omega arith) x }
  where
    at : (i : ℕ) → i < 4 → get_or (record_of w' q) i 0 ≡ get_or (record_of w q) i 0
    at i h = record_word_at w' q i (omega arith) ∙ f i h ∙ sym (record_word_at w q i (omega arith))
