-- A valid image of 32-bit words: its tree is good, so the search along a path finds the ancestors, outermost first, in at most 4 + 2 × total steps.
-- Assumes nothing.
use Prim.Native.Nat.{ℕ, zero, suc, ◌+◌, ◌*◌, ◌≤◌, ◌<◌}
use mathlib.Core.Path.{◌≡◌, ap}
use mathlib.Core.List.{List, ◌++◌, map}
use lib.Dec.{T}
use lib.ListN.{length, get_or, take, drop, length-take, get_or-eq_default}
use lib.Seq.{get_or-take, get_or-drop}
use native.Mathlib.Omega.{arith}
use native.Mathlib.Decide.{dec_lt}
use Rattle.words.specs.Lists.{All, all, all_pairs}
use Rattle.words.proofs.Tests.{and_left, and_right}
use Rattle.words.proofs.Listed.{all_append}
use Rattle.regions.specs.Positions.{well_formed, nested}
use Rattle.regions.specs.Calls.{ancestors}
use Rattle.regions.specs.declared.Region.{Region}
use Rattle.regions.specs.declared.Choice.{Choice}
use Rattle.xrtree.specs.Tree.{Listing, list_keys, list_regions, region_of, keys_of, regions, leaves}
use Rattle.xrtree.specs.Rules.{filled, linked, rule1, rule2, rule3, rule4, rule6}
use Rattle.xrtree.specs.Search.{find, steps}
use Rattle.xrtree.specs.Claims.{Good}
use Rattle.xrtree.proofs.Rules.{Ruled, rules_good}
use Rattle.xrtree.proofs.Search.{search_right, steps_few}
use Rattle.pages.specs.Layout.{page_of, fill_of, child_in}
use Rattle.image.specs.Read.{entries_from, key_at, read_tree, depth_of, tree_of, set_of}
use Rattle.image.specs.Valid.{sized, tree_rules, valid}
use Rattle.image.proofs.Listings.{leaf_at, listed_at, listed_from, from_last, from_more, listed_leaf, listed_inner}
use Rattle.path.proofs.Ways.{valid_sized}

-- WHAT HOLDS OF ALL THAT IS LISTED of a leaf, a page and a key, holds of all that is listed of the tree
module _ {B : Type 0} (L : Listing B) (P : B → Type 0) (w : List ℕ) (leaf : (q : ℕ) → All P (L.on_leaf (leaf_at w q))) (page : (q n : ℕ) → All P (L.on_page q n))
    (key : (q i : ℕ) → All P (L.on_key (key_at w (page_of w q) i))) where
  all_from : (h : ℕ) → ((q : ℕ) → All P (listed_at L w h q)) → (q i m : ℕ) → All P (listed_from L w h (page_of w q) i m)
  all_from h below q i zero = rw (from_last L w h (page_of w q) i) (below (child_in (page_of w q) i))
  all_from h below q i (suc m) =
      let k = L.on_key (key_at w (page_of w q) i) in
      let r = listed_from L w h (page_of w q) (suc i) m in
      rw (from_more L w h (page_of w q) i m)
      (all_append P (listed_at L w h (child_in (page_of w q) i)) (k ++ r) (below (child_in (page_of w q) i)) (all_append P k r (key q i) (all_from h below q (suc i) m)))

  all_listed : (h q : ℕ) → All P (listed_at L w h q)
  all_listed zero q = rw (listed_leaf L w q) (leaf q)
  all_listed (suc h) q =
      rw (listed_inner L w h q)
      (all_append P (L.on_page q (fill_of (page_of w q))) (listed_from L w h (page_of w q) 0 (fill_of (page_of w q))) (page q (fill_of (page_of w q)))
      (all_from h (λ c. all_listed h c) q 0 (fill_of (page_of w q))))

-- WORDS OF 32 BITS
abbrev pub top : ℕ
top = 4294967296

module _ (w : List ℕ) (small : (i : ℕ) → get_or w i 0 < top) where
  word_small : (q i : ℕ) → get_or (page_of w q) i 0 < top
  unfolding page_of
  word_small q i =
      elim (dec_lt i 57) [
        | yes h ↦ rw (get_or-take 57 (drop (57 * q) w) i 0 h, get_or-drop (57 * q) w i 0) (small (57 * q + i))
        | no h ↦ rw (get_or-eq_default (take 57 (drop (57 * q) w)) 0 {n = i} (omega (arith, length-take 57 (drop (57 * q) w)))) (omega arith)
      ]

  entries_small : (q i m : ℕ) → All (λ (r : Region). r.end < top) (map region_of (entries_from (page_of w q) i m))
  unfolding entries_from
  entries_small q i zero = tt
  entries_small q i (suc m) = (word_small q _, entries_small q (suc i) m)

  keys_small : (h q : ℕ) → All (λ k. k < top) (keys_of h (read_tree h w q))
  keys_small h q = all_listed list_keys (λ k. k < top) w (λ q. tt) (λ q n. tt) (λ q i. (word_small q _, tt)) h q

  ends_small : (h q : ℕ) → All (λ (r : Region). r.end < top) (regions h (read_tree h w q))
  ends_small h q = all_listed list_regions (λ (r : Region). r.end < top) w (λ q. entries_small q 0 (fill_of (page_of w q))) (λ q n. tt) (λ q i. tt) h q

  -- VALID → GOOD
  pub valid_good : T (valid w) → Good top (depth_of w) (tree_of w)
  unfolding valid tree_rules rule1 rule6 set_of
  valid_good v =
      let h = depth_of w in
      let t = tree_of w in
      let rules = and_right (sized w) _ v in
      let tree = and_left (tree_rules h t) _ rules in
      let r6 = and_left (rule6 (set_of w)) _ (and_right (tree_rules h t) _ rules) in
      let r1 = and_left (rule1 h t) _ tree in
      let r2 = and_right (rule1 h t) _ tree in
      let r3 = and_right (rule2 h t) _ r2 in
      let r4 = and_right (rule3 h t) _ r3 in
      let ruled : Ruled h t = record {
        ascend = and_right (linked (leaves h t)) _ (and_right (filled h t) _ r1);
        second = and_left (rule2 h t) _ r2;
        third = and_left (rule3 h t) _ r3;
        fourth = and_left (rule4 h t) _ r4;
        fifth = and_right (rule4 h t) _ r4;
        nest = and_left (all_pairs nested (regions h t)) _ (and_right (all well_formed (regions h t)) _ r6);
      } in
      rules_good top h t (keys_small h _) (ends_small h _) (and_left (filled h t) _ r1) (and_left (all well_formed (regions h t)) _ r6) ruled

  -- THE SEARCH FINDS THE ANCESTORS
  pub found_right : (ch : Choice) (p : ℕ) → p < top → T (valid w) → find (depth_of w) ch p (tree_of w) ≡ ancestors ch p (set_of w)
  unfolding set_of
  found_right ch p u v = search_right top (depth_of w) (tree_of w) (valid_good v) ch p u

  -- THE STEP BOUND
  pub steps_bound : (ch : Choice) (p : ℕ) → p < top → T (valid w) → steps (depth_of w) ch p (tree_of w) ≤ 4 + 2 * length (ancestors ch p (set_of w))
  steps_bound ch p u v =
      let f = steps_few (depth_of w) ch p (tree_of w) (valid_good v).firsts in
      let n = ap length (found_right ch p u v) in
      let s = valid_sized w v in
      omega arith
