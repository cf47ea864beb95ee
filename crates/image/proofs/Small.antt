-- What is read from 32-bit words is below 2^32: keys and ends of the tree that an image holds.
-- Assumes nothing.
use Prim.Native.Nat.{ℕ, zero, suc, ◌+◌, ◌*◌, ◌<◌, ◌≤◌}
use mathlib.Core.Path.{sym, subst}
use mathlib.Core.List.{List, map}
use lib.ListN.{length, get_or, take, drop, length-take, get_or-eq_default}
use native.Mathlib.Omega.{arith}
use native.Mathlib.Decide.{dec_lt}
use Rattle.words.specs.Lists.{All}
use Rattle.words.proofs.Listed.{all_append}
use Rattle.regions.specs.declared.Region.{Region}
use Rattle.xrtree.specs.Tree.{Listing, list_keys, list_regions, regions, keys_of, region_of}
use Rattle.pages.specs.Layout.{page_of, fill_of, child_in, key_word, entry_word, region_in}
use Rattle.pages.proofs.Placed.{page_word_at}
use Rattle.image.specs.Read.{entries_from, key_at, read_tree}
use Rattle.image.proofs.Listings.{leaf_at, listed_at, listed_from, from_last, from_more, listed_leaf, listed_inner}

-- what every leaf, page and key lists, the whole tree lists
module _ {B : Type 0} (L : Listing B) (P : B → Type 0) (w : List ℕ) (leaf : (p : ℕ) → All P (L.on_leaf (leaf_at w p))) (page : (p n : ℕ) → All P (L.on_page p n))
    (key : (p i : ℕ) → All P (L.on_key (key_at w (page_of w p) i))) where
  from_all : (h : ℕ) → ((q : ℕ) → All P (listed_at L w h q)) → (p i m : ℕ) → All P (listed_from L w h (page_of w p) i m)
  from_all h f p i zero = subst (All P) (sym (from_last L w h (page_of w p) i)) (f (child_in (page_of w p) i))
  from_all h f p i (suc m) =
      subst (All P) (sym (from_more L w h (page_of w p) i m))
      (all_append P (listed_at L w h (child_in (page_of w p) i)) _ (f (child_in (page_of w p) i)) (all_append P (L.on_key (key_at w (page_of w p) i)) _ (key p i) (from_all h f p (suc i) m)))

  pub all_listed : (h p : ℕ) → All P (listed_at L w h p)
  all_listed zero p = subst (All P) (sym (listed_leaf L w p)) (leaf p)
  all_listed (suc h) p =
      subst (All P) (sym (listed_inner L w h p))
      (all_append P (L.on_page p (fill_of (page_of w p))) _ (page p (fill_of (page_of w p))) (from_all h (λ q. all_listed h q) p 0 (fill_of (page_of w p))))

abbrev pub Small : List ℕ → Type 0
Small w = (i : ℕ) → get_or w i 0 < 4294967296

module _ (w : List ℕ) (small : Small w) where
  pub small_page : (p i : ℕ) → get_or (page_of w p) i 0 < 4294967296
  unfolding page_of
  small_page p i =
      elim (dec_lt i 57) [
        | yes h ↦ subst (λ n. n < 4294967296) (sym (page_word_at w p i h)) (small (57 * p + i))
        | no h ↦
            let e : length (take 57 (drop (57 * p) w)) ≤ i = omega (arith, length-take 57 (drop (57 * p) w)) in
            subst (λ n. n < 4294967296) (sym (get_or-eq_default (take 57 (drop (57 * p) w)) 0 e)) (omega arith)
      ]

  pub small_keys : (h p : ℕ) → All (λ k. k < 4294967296) (keys_of h (read_tree h w p))
  small_keys h p = all_listed list_keys (λ k. k < 4294967296) w (λ q. tt) (λ q n. tt) (λ q i. (small_page q (key_word i), tt)) h p

  -- a region's four words
  entries_all : (P : Region → Type 0) → ((p b : ℕ) → P (region_in (page_of w p) b)) → (q i m : ℕ) → All P (map region_of (entries_from (page_of w q) i m))
  unfolding entries_from
  entries_all P f q i zero = tt
  entries_all P f q i (suc m) = (f q (entry_word i), entries_all P f q (suc i) m)

  pub small_regions : (P : Region → Type 0) → ((p b : ℕ) → P (region_in (page_of w p) b)) → (h p : ℕ) → All P (regions h (read_tree h w p))
  small_regions P f h p = all_listed list_regions P w (λ q. entries_all P f q 0 (fill_of (page_of w q))) (λ q n. tt) (λ q i. tt) h p

  pub small_ends : (h p : ℕ) → All (λ (r : Region). r.end < 4294967296) (regions h (read_tree h w p))
  small_ends h p = small_regions (λ (r : Region). r.end < 4294967296) (λ q b. small_page q (b + 1)) h p

  pub small_starts : (h p : ℕ) → All (λ (r : Region). r.start < 4294967296) (regions h (read_tree h w p))
  small_starts h p = small_regions (λ (r : Region). r.start < 4294967296) (λ q b. small_page q b) h p
