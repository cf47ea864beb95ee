-- Where a start lies among the regions of a tree: those before its leaf start before it, those behind its leaf behind it; so the leaf's entries are cut where the set is.
-- Assumes nothing.
use Prim.Native.Nat.{ℕ, suc, ◌≤◌, ◌<◌}
use mathlib.Core.Path.{◌≡◌, refl, sym, ap, ◌∙◌}
use mathlib.Core.Bool.{Bool, true, false}
use mathlib.Core.List.{List, [], ◌∷◌, ◌++◌, map}
use lib.Dec.{ltb}
use lib.ListN.{length, take, drop}
use native.Mathlib.Omega.{arith}
use Rattle.words.specs.Lists.{All, Pairs, take_while, drop_while}
use Rattle.words.proofs.Tests.{by_test, lt_of, nlt_of, lt_yes, lt_no}
use Rattle.words.proofs.Listed.{all_mono, all_append}
use Rattle.regions.specs.declared.Region.{Region}
use Rattle.xrtree.specs.Tree.{Entry, Key, Leaf, Tree, weave, region_of, list_regions, regions}
use Rattle.xrtree.specs.Claims.{Over, Between, InKids, In}
use Rattle.xrtree.proofs.Here.{starts_in_lem, starts_weave}
use Rattle.xrtree.specs.Holes.{lo_after, Post, fill_kids, fill_last, hi_post}
use Rattle.xrtree.proofs.Holes.{hole_page, before_kids, after_kids}
use Rattle.xrtree.specs.Holes.Post.{at_key, at_end}
use Rattle.entries.specs.Ways.{Below, within, Greater, On}
use Rattle.entries.specs.Ways.Below.{here, down}
use Rattle.entries.specs.Owners.{starts_before}
use Rattle.entries.proofs.Holes.{ahead, behind}

abbrev pub Low : ℕ → Region → Type 0
Low x r = r.start < x

abbrev pub High : ℕ → Region → Type 0
High x r = x < r.start

-- AROUND THE WAY
pre_low : (x h lo hi : ℕ) (pre : List (Tree h × Key)) (post : Post (Tree h)) (t : Tree h) → All (λ k. k.1.key ≤ x) pre → InKids (In h) lo hi (fill_kids pre post t) (fill_last post t)
    → All (Low x) (before_kids list_regions h pre)
pre_low x h lo hi [] post t a i = tt
pre_low x h lo hi (c ∷ pre) (at_key k cs last) t a i =
    all_append (Low x) (regions h c.0) (before_kids list_regions h pre) (all_mono (λ r m. omega (arith, a.0, m.1)) (regions h c.0) (starts_in_lem h lo c.1.key c.0 i.1))
    (pre_low x h (suc c.1.key) hi pre (at_key k cs last) t a.1 i.2)
pre_low x h lo hi (c ∷ pre) at_end t a i =
    all_append (Low x) (regions h c.0) (before_kids list_regions h pre) (all_mono (λ r m. omega (arith, a.0, m.1)) (regions h c.0) (starts_in_lem h lo c.1.key c.0 i.1))
    (pre_low x h (suc c.1.key) hi pre at_end t a.1 i.2)

post_high : (x h lo hi : ℕ) (pre : List (Tree h × Key)) (post : Post (Tree h)) (t : Tree h) → Greater x post → InKids (In h) lo hi (fill_kids pre post t) (fill_last post t)
    → All (High x) (after_kids list_regions h post)
post_high x h lo hi [] (at_key k cs last) t g i = all_mono (λ r m. omega (arith, g, m.0)) (weave (regions h) (λ (k : Key). []) cs last) (starts_weave h cs last (suc k.key) hi i.2)
post_high x h lo hi [] at_end t g i = tt
post_high x h lo hi (c ∷ pre) (at_key k cs last) t g i = post_high x h (suc c.1.key) hi pre (at_key k cs last) t g i.2
post_high x h lo hi (c ∷ pre) at_end t g i = tt

pub way_starts : (x : ℕ) {h : ℕ} (c : Below 0 h) (t : Leaf) (lo hi : ℕ) → On x c → In h lo hi (within c t) → All (Low x) (ahead list_regions c) × All (High x) (behind list_regions c)
unfolding within ahead behind
way_starts x here t lo hi o i = (tt, tt)
way_starts x (down {h} q pre post c) t lo hi o i =
    let d = way_starts x c t (lo_after lo pre) (hi_post hi post) o.2 (hole_page Between (In h) lo hi pre post (within c t) i).0 in (
      all_append (Low x) (before_kids list_regions h pre) (ahead list_regions c) (pre_low x h lo hi pre post (within c t) o.0 i) d.0,
      all_append (High x) (behind list_regions c) (after_kids list_regions h post) d.1 (post_high x h lo hi pre post (within c t) o.1 i),
    )

-- ONE CUT: where the starts pass s
module _ {A : Type 0} (Q : A → Bool) where
  take_cut : (xs ys : List A) → All (λ x. Q x ≡ true) xs → All (λ y. Q y ≡ false) ys → take_while Q (xs ++ ys) ≡ xs
  unfolding take_while
  take_cut [] [] a b = refl
  take_cut [] (y ∷ ys) a b = rw b.0
  take_cut (x ∷ xs) ys a b = rw a.0 (ap (x ∷◌) (take_cut xs ys a.1 b))

  drop_cut : (xs ys : List A) → All (λ x. Q x ≡ true) xs → All (λ y. Q y ≡ false) ys → drop_while Q (xs ++ ys) ≡ ys
  unfolding drop_while
  drop_cut [] [] a b = refl
  drop_cut [] (y ∷ ys) a b = rw b.0
  drop_cut (x ∷ xs) ys a b = rw a.0 (drop_cut xs ys a.1 b)

  pub take_while_lem : (xs : List A) → take (length (take_while Q xs)) xs ≡ take_while Q xs
  unfolding take_while
  take_while_lem [] = refl
  take_while_lem (x ∷ xs) = by_test (Q x) (λ t. rw t (ap (x ∷◌) (take_while_lem xs))) (λ t. rw t)

  pub drop_while_lem : (xs : List A) → drop (length (take_while Q xs)) xs ≡ drop_while Q xs
  unfolding take_while drop_while
  drop_while_lem [] = refl
  drop_while_lem (x ∷ xs) = by_test (Q x) (λ t. rw t (drop_while_lem xs)) (λ t. rw t)

abbrev pub NotLow : ℕ → Region → Type 0
NotLow s r = s ≤ r.start

pub one_cut : (s : ℕ) (xs ys us vs : List Region) → xs ++ ys ≡ us ++ vs → All (Low s) xs → All (NotLow s) ys → All (Low s) us → All (NotLow s) vs → (xs ≡ us) × (ys ≡ vs)
one_cut s xs ys us vs e a b c d =
    let Q : Region → Bool = (λ r. ltb r.start s) in
    let yes : ((r : Region) → Low s r → Q r ≡ true) = (λ r l. lt_yes r.start s l) in
    let no : ((r : Region) → NotLow s r → Q r ≡ false) = (λ r l. lt_no r.start s l) in (
      sym (take_cut Q xs ys (all_mono yes xs a) (all_mono no ys b)) ∙ ap (take_while Q) e ∙ take_cut Q us vs (all_mono yes us c) (all_mono no vs d),
      sym (drop_cut Q xs ys (all_mono yes xs a) (all_mono no ys b)) ∙ ap (drop_while Q) e ∙ drop_cut Q us vs (all_mono yes us c) (all_mono no vs d),
    )

-- a leaf's entries before s, and from s on
pub taken_low : (s : ℕ) (es : List Entry) → All (Low s) (map region_of (take_while (starts_before s) es))
unfolding take_while
taken_low s [] = tt
taken_low s (e ∷ es) = by_test (ltb e.region.start s) (λ t. rw t (lt_of e.region.start s t, taken_low s es)) (λ t. rw t tt)

pub left_high : (s : ℕ) (es : List Entry) → Pairs Over (map region_of es) → All (NotLow s) (map region_of (drop_while (starts_before s) es))
unfolding drop_while
left_high s [] p = tt
left_high s (e ∷ es) p =
    by_test (ltb e.region.start s)
    (λ t. rw t (left_high s es p.1))
    (λ t. let u = nlt_of e.region.start s t in rw t (u, all_mono (λ r m. omega (arith, m.0)) (map region_of es) p.0))
