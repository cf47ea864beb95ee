-- The opened image is valid and means the empty set with its shares; an opening has one result.
-- Assumes nothing.
use Prim.Native.Nat.{ℕ, zero, suc, ◌+◌, ◌-◌, ◌*◌, ◌<◌, ◌≤◌}
use mathlib.Core.Path.{◌≡◌, refl, sym, ap, ap₂, ◌∙◌, subst}
use mathlib.Core.Logic.{◌≢◌}
use mathlib.Core.Bool.{Bool, true, false, not, cond}
use mathlib.Core.List.{List, [], ◌∷◌, ◌++◌}
use lib.Dec.{ltb, eqb}
use lib.ListN.{length, get_or, replicate, length-replicate, length-set, length-append, get_or-replicate, get_or-eq_default}
use lib.Seq.{get_or-set_same, get_or-set_other, get_or-append-add, take-set-le, take_at}
use native.Mathlib.Omega.{arith}
use native.Mathlib.Decide.{dec_lt}
use Rattle.words.specs.Lists.{filter, all, all_pairs, count, sum, first_no}
use Rattle.words.proofs.Tests.{by_test, eq_yes, eq_no, eq_of, ne_of, le_yes, nlt_of}
use Rattle.regions.specs.Sets.{empty_set}
use Rattle.regions.specs.Calls.{open_set_no}
use Rattle.xrtree.specs.Tree.{Leaf, Tree, listed, regions}
use Rattle.xrtree.specs.Rules.{filled, linked, first_place, rule1, rule2, rule3, rule4, rule5, rule6, page_lists, flagged, shares_kept, once_or_free, placed}
use Rattle.pages.specs.Layout.{root_of, height_of, shares_of, page_of, mark_of, fill_of, next_of, record_of, record_end, page_used, record_used}
use Rattle.pages.proofs.Placed.{page_word_at, record_word_at}
use Rattle.image.specs.Read.{entries_from, read_tree, depth_of, tree_of, set_of}
use Rattle.image.specs.Valid.{sized, rule7, tree_rules, valid}
use Rattle.index.specs.Opening.{opened_image, open_no, OpensSet}

-- A LEAF WITH NOTHING IN IT keeps every rule
abbrev bare : ℕ → Leaf
bare p = record { place = p; next = 0; entries = [] }

leaf_read : (w : List ℕ) (p : ℕ) → fill_of (page_of w p) ≡ 0 → next_of (page_of w p) ≡ 0 → read_tree 0 w p ≡ bare p
unfolding read_tree entries_from
leaf_read w p f n = λ i. record { place = p; next = n i; entries = entries_from (page_of w p) 0 (f i) }

bare_rules : (p : ℕ) → tree_rules 0 (bare p) ≡ true
unfolding tree_rules rule1 rule2 rule3 rule4 rule5 filled linked first_place listed all_pairs all page_lists flagged
bare_rules p = refl

bare_regions : regions 0 (bare 1) ≡ []
unfolding listed
bare_regions = refl

-- PLACES: none listed and none used; one listed, and used alone
pub none_placed : (used : ℕ → Bool) (n : ℕ) → ((q : ℕ) → 1 ≤ q → q ≤ n → used q ≡ false) → once_or_free used n [] ≡ true
unfolding once_or_free count
none_placed used zero f = refl
none_placed used (suc n) f = rw (f (suc n) (omega arith) (omega arith), none_placed used n (λ q a b. f q a (omega arith)))

pub one_placed : (used : ℕ → Bool) (n : ℕ) → used 1 ≡ true → ((q : ℕ) → 1 < q → q ≤ n → used q ≡ false) → once_or_free used n (1 ∷ []) ≡ true
unfolding once_or_free count
one_placed used zero u f = refl
one_placed used (suc zero) u f = rw u
one_placed used (suc (suc n)) u f =
    rw (eq_no (suc (suc n)) 1 (omega arith), f (suc (suc n)) (omega arith) (omega arith), one_placed used (suc n) u (λ q a b. f q a (omega arith)))

-- THE WORDS of an opened image
module _ (shares : List ℕ) (sixteen : length shares ≡ 16) where
  opened_long : length (opened_image shares) ≡ 12288
  unfolding opened_image
  opened_long =
      length-set (1 ∷ 1 ∷ (shares ++ replicate 12270 0)) 57 1 ∙ ap (λ n. suc (suc n)) (length-append shares (replicate 12270 0) ∙ ap₂ ◌+◌ sixteen (length-replicate {A = ℕ} 12270 0))

  past_shares : (j : ℕ) → 16 ≤ j → get_or (shares ++ replicate 12270 0) j 0 ≡ 0
  past_shares j h =
      let e : j ≡ length shares + (j - 16) = omega arith in
      ap (λ k. get_or (shares ++ replicate 12270 0) k 0) e ∙ get_or-append-add shares (replicate 12270 0) (j - 16) 0
      ∙ elim (dec_lt (j - 16) 12270) [
        | yes l ↦ get_or-replicate 12270 (j - 16) 0 0 l
        | no l ↦ get_or-eq_default (replicate 12270 0) 0 {n = j - 16} (simp length-replicate (omega arith))
      ]

  pub opened_word : (j : ℕ) → 16 ≤ j → j ≢ 55 → get_or (opened_image shares) (suc (suc j)) 0 ≡ 0
  unfolding opened_image
  opened_word j h n = get_or-set_other (shares ++ replicate 12270 0) 55 j 1 0 n ∙ past_shares j h

  opened_page : (p i : ℕ) → 1 ≤ p → i < 57 → (57 * p + i ≡ 57 → ⊥) → get_or (page_of (opened_image shares) p) i 0 ≡ 0
  opened_page p i h k n =
      let e : 57 * p + i ≡ suc (suc (57 * p + i - 2)) = omega arith in
      page_word_at (opened_image shares) p i k ∙ ap (λ x. get_or (opened_image shares) x 0) e ∙ opened_word (57 * p + i - 2) (omega arith) (λ z. n (omega arith))

  opened_record : (q : ℕ) → record_end (record_of (opened_image shares) q) ≡ 0
  opened_record q =
      let e : 9177 + 6 * q + 1 ≡ suc (suc (9177 + 6 * q + 1 - 2)) = omega arith in
      record_word_at (opened_image shares) q 1 (omega arith) ∙ ap (λ x. get_or (opened_image shares) x 0) e ∙ opened_word (9177 + 6 * q + 1 - 2) (omega arith) (λ z. omega arith)

  opened_57 : get_or (opened_image shares) 57 0 ≡ 1
  unfolding opened_image
  opened_57 = get_or-set_same (shares ++ replicate 12270 0) 55 1 0 (omega (arith, length-append shares (replicate 12270 0), length-replicate {A = ℕ} 12270 0))

  opened_mark : mark_of (page_of (opened_image shares) 1) ≡ 1
  opened_mark = page_word_at (opened_image shares) 1 0 (omega arith) ∙ opened_57

  opened_shares : shares_of (opened_image shares) ≡ shares
  unfolding opened_image shares_of
  opened_shares = take-set-le 16 (shares ++ replicate 12270 0) 55 1 (omega arith) ∙ take_at shares (replicate 12270 0) 16 sixteen

  opened_head : (root_of (opened_image shares) ≡ 1) × (height_of (opened_image shares) ≡ 1)
  unfolding opened_image
  opened_head = (refl, refl)

  opened_leaf : read_tree 0 (opened_image shares) 1 ≡ bare 1
  opened_leaf =
      leaf_read (opened_image shares) 1 (opened_page 1 1 (omega arith) (omega arith) (λ e. omega arith)) (opened_page 1 2 (omega arith) (omega arith) (λ e. omega arith))

  -- whatever is said of the tree of an opened image is said of the bare leaf
  at_bare : (P : (h : ℕ) → Tree h → Type 0) → P 0 (bare 1) → P (depth_of (opened_image shares)) (tree_of (opened_image shares))
  at_bare P b =
      let d : 0 ≡ depth_of (opened_image shares) = ap (λ n. n - 1) (sym opened_head.1) in
      subst (λ k. P k (read_tree k (opened_image shares) (root_of (opened_image shares)))) d
      (subst (λ r. P 0 (read_tree 0 (opened_image shares) r)) (sym opened_head.0) (subst (λ t. P 0 t) (sym opened_leaf) b))

  pub opened_set : set_of (opened_image shares) ≡ empty_set shares
  unfolding set_of
  opened_set = λ i. record { shares = opened_shares i; regions = at_bare (λ h t. regions h t ≡ []) bare_regions i }

  page_free : (q : ℕ) → 1 < q → q ≤ 160 → page_used (opened_image shares) q ≡ false
  unfolding page_used
  page_free q a b = ap not (eq_yes _ 0 (opened_page q 0 (omega arith) (omega arith) (λ e. omega arith)))

  record_free : (q : ℕ) → 1 ≤ q → q ≤ 500 → record_used (opened_image shares) q ≡ false
  unfolding record_used
  record_free q a b = ap not (eq_yes _ 0 (opened_record q))

  page_used_lem : page_used (opened_image shares) 1 ≡ true
  unfolding page_used
  page_used_lem = ap not (eq_no (mark_of (page_of (opened_image shares) 1)) 0 (λ e. let m = opened_mark in omega arith))

  opened_rule7 : rule7 (opened_image shares) 0 (bare 1) ≡ true
  unfolding rule7 placed listed all
  opened_rule7 = rw (one_placed (page_used (opened_image shares)) 160 page_used_lem page_free, none_placed (record_used (opened_image shares)) 500 record_free)

  kept : (a : ℕ) → shares_kept a (empty_set shares) ≡ true
  unfolding shares_kept filter
  kept zero = refl
  kept (suc a) = rw (le_yes 0 (get_or shares a 0) (omega arith), kept a)

  empty_rule6 : sum shares ≤ 500 → rule6 (empty_set shares) ≡ true
  unfolding rule6 all all_pairs
  empty_rule6 h = rw (kept 16, le_yes (sum shares) 500 h)

  opened_rule6 : sum shares ≤ 500 → rule6 (set_of (opened_image shares)) ≡ true
  opened_rule6 h = rw opened_set (empty_rule6 h)

  pub opened_valid : sum shares ≤ 500 → valid (opened_image shares) ≡ true
  unfolding valid sized
  opened_valid h =
      rw (
        eq_yes (length (opened_image shares)) 12288 opened_long,
        at_bare (λ h t. tree_rules h t ≡ true) (bare_rules 1),
        opened_rule6 h,
        at_bare (λ h t. rule7 (opened_image shares) h t ≡ true) opened_rule7,
        opened_head.1,
      )

-- ONE RESULT: two results that the promise allows are equal
pub opens_once : (w shares : List ℕ) (m n : ℕ) (u v : List ℕ) → OpensSet w shares m u → OpensSet w shares n v → (m ≡ n) × (u ≡ v)
opens_once w shares m n u v a b =
    let e : m ≡ n = a.number_is ∙ sym b.number_is in (
      e,
      by_test (eqb m 0)
          (λ t. let z = eq_of m 0 t in a.done z ∙ sym (b.done (sym e ∙ z)))
          (λ t. let z = ne_of m 0 t in a.refused z ∙ sym (b.refused (λ q. z (e ∙ q)))),
    )

tests_0 : (a b : Bool) → ◌≡◌ {A = ℕ} 0 (cond a (cond b 8 0) 1) → b ≡ false
tests_0 true true e = absurd (let z : ◌≡◌ {A = ℕ} 0 8 = e in omega arith)
tests_0 true false e = refl
tests_0 false b e = absurd (let z : ◌≡◌ {A = ℕ} 0 1 = e in omega arith)

opens_fit : (w shares : List ℕ) → 0 ≡ open_no w shares → sum shares ≤ 500
unfolding open_no open_set_no first_no
opens_fit w shares e = nlt_of 500 (sum shares) (tests_0 (eqb (length w) 12288) (ltb 500 (sum shares)) e)

-- what a call that opened a set leaves
pub opens_valid : (w shares : List ℕ) (w' : List ℕ) → length shares ≡ 16 → OpensSet w shares 0 w' → (valid w' ≡ true) × (set_of w' ≡ empty_set shares)
opens_valid w shares w' k o =
    let h : sum shares ≤ 500 = opens_fit w shares o.number_is in
    (ap valid (o.done refl) ∙ opened_valid shares k h, ap set_of (o.done refl) ∙ opened_set shares k)
