-- What with self adds (change request C-17): by position, the region that starts there, as the last. So a join by ancestor or self has the pairs of the join by ancestor, and behind
-- those of each d the one with the outer region that starts where d does, if there is one; and a set joined with itself has every region paired with itself, once.
-- Assumes nothing.
use Prim.Native.Nat.{ℕ, ◌<◌}
use mathlib.Core.Path.{◌≡◌, refl, sym, ap, ◌∙◌}
use mathlib.Core.Bool.{true, ◌&&◌}
use mathlib.Core.List.{List, [], ◌∷◌, ◌++◌, map}
use native.Mathlib.Omega.{arith}
use native.Mathlib.Decide.{dec_lt}
use Rattle.words.specs.Lists.{filter, All}
use Rattle.words.proofs.Tests.{by_test, and_true}
use Rattle.words.proofs.Listed.{all_mono, all_two, all_every, all_kept, pairs_kept, filter_yes, filter_no, filter_none, filter_same, map_append}
use Rattle.words.proofs.Says.{says_same, says_iff, true_so, so_true, false_so, so_false}
use Rattle.regions.specs.declared.Region.{Region}
use Rattle.regions.specs.declared.Choice.{Choice}
use Rattle.regions.specs.declared.Choice.TheVariants.{Strict, WithSelf}
use Rattle.regions.specs.declared.Kind.{Kind}
use Rattle.regions.specs.declared.Kind.TheVariants.{Ancestor, AncestorOrSelf}
use Rattle.regions.specs.Positions.{holds, too_late}
use Rattle.regions.specs.Sets.{Set, of, is_at}
use Rattle.regions.specs.Calls.{choice_of, level_fits, pairs_with, pair_of, pairs_of}
use Rattle.regions.specs.Sound.{Wf, Rising, EachWithItself}
use Rattle.regions.proofs.Means.{formed_says, late_near, holds_says, at_says}

-- REGIONS THAT ASCEND: those that start behind p hold it by neither choice, and do not start at it
module _ (p : ℕ) where
  none_hold : (ch : Choice) (rs : List Region) → All (λ (r : Region). p < r.start) rs → filter (holds ch p) rs ≡ []
  none_hold ch rs a = filter_none (holds ch p) rs (all_mono (λ r l. so_false (holds_says ch p r) (λ m. omega (arith, late_near ch p))) rs a)

  pub none_at : (rs : List Region) → All (λ (r : Region). p < r.start) rs → filter (is_at p) rs ≡ []
  none_at rs a = filter_none (is_at p) rs (all_mono (λ r l. so_false (at_says p r) (λ m. omega arith)) rs a)

  -- WITH SELF: before p as strictly, at p the one that starts there, behind p none
  pub with_self : (rs : List Region) → Rising rs → All Wf rs → filter (holds WithSelf p) rs ≡ filter (holds Strict p) rs ++ filter (is_at p) rs
  unfolding filter too_late
  with_self [] h w = refl
  with_self (x ∷ xs) h w =
      elim (dec_lt x.start p) [
        | yes l ↦
            let same = says_same (holds_says WithSelf p x) (says_iff (holds_says Strict p x) (λ m. (omega arith, m.1)) (λ m. (l, m.1))) in
            let off = so_false (at_says p x) (λ e. omega arith) in
            let r = with_self xs h.1 w.1 in
            by_test (holds Strict p x) (λ e. rw (same, e, off) (ap (x ∷◌) r)) (λ e. rw (same, e, off) r)
        | no l ↦
            let a = all_mono {Q = λ (y : Region). p < y.start} (λ y k. omega arith) xs h.0 in
            let off = so_false (holds_says Strict p x) (λ m. omega arith) in
            by_test (is_at p x)
            (λ e.
            let u = true_so (at_says p x) e in
            let on = so_true (holds_says WithSelf p x) (omega arith, omega (arith, (true_so (formed_says x) w.0).order)) in
            rw (on, off, e, none_hold WithSelf xs a, none_hold Strict xs a, none_at xs a))
            (λ e.
            let u : (x.start ≡ p → ⊥) = false_so (at_says p x) e in
            let no-hold = so_false (holds_says WithSelf p x) (λ m. omega arith) in
            rw (no-hold, off, e, none_hold WithSelf xs a, none_hold Strict xs a, none_at xs a))
      ]

-- of a list that ascends each is the only one that starts where it does
pub each_at : (xs : List Region) → Rising xs → All (λ d. filter (is_at d.start) xs ≡ d ∷ []) xs
each_at [] h = tt
each_at (x ∷ xs) h = (
  filter_yes (is_at x.start) x xs (so_true (at_says x.start x) refl) ∙ ap (x ∷◌) (none_at x.start xs h.0),
  all_two {R = λ d. filter (is_at d.start) (x ∷ xs) ≡ d ∷ []}
      (λ d l e. filter_no (is_at d.start) x xs (so_false (at_says d.start x) (λ q. omega arith)) ∙ e) xs h.0 (each_at xs h.1),
)

-- A KIND THAT ASKS FOR NO LEVEL pairs a d with all that hold its start, by its choice
any_level : (k : Kind) → ((l : ℕ) (x : Region) → level_fits k l x ≡ true) → (xs : List Region) (d : Region) → pairs_of k xs d ≡ map (pair_of d) (filter (holds (choice_of k) d.start) xs)
unfolding pairs_of pairs_with
any_level k f xs d =
    ap (map (pair_of d))
    (filter_same (pairs_with k d) (holds (choice_of k) d.start) xs
    (all_every (λ x. ap (λ b. holds (choice_of k) d.start x && b) (f d.level x) ∙ and_true (holds (choice_of k) d.start x)) xs))

-- THE PAIRS OF ONE d, by ancestor or self
pub pairs_with_self : (xs : List Region) → Rising xs → All Wf xs → (d : Region) → pairs_of AncestorOrSelf xs d ≡ pairs_of Ancestor xs d ++ map (pair_of d) (filter (is_at d.start) xs)
unfolding level_fits choice_of
pairs_with_self xs h w d =
    any_level AncestorOrSelf (λ l x. refl) xs d ∙ ap (map (pair_of d)) (with_self d.start xs h w)
    ∙ map_append (pair_of d) (filter (holds Strict d.start) xs) (filter (is_at d.start) xs)
    ∙ ap (λ ps. ps ++ map (pair_of d) (filter (is_at d.start) xs)) (sym (any_level Ancestor (λ l x. refl) xs d))

-- ONE SET AS BOTH: each of an account's regions is paired with itself, behind all its other pairs
pub each_with_itself : (S : Set) (a : ℕ) → Rising S.regions → All Wf S.regions → EachWithItself S a
each_with_itself S a h w =
    let xs = filter (of a) S.regions in
    let up = pairs_kept (λ x y. x.start < y.start) (of a) S.regions h in
    all_mono {Q = λ d. pairs_of AncestorOrSelf xs d ≡ pairs_of Ancestor xs d ++ pair_of d d ∷ []}
    (λ d e. pairs_with_self xs up (all_kept Wf (of a) S.regions w) d ∙ ap (λ l. pairs_of Ancestor xs d ++ map (pair_of d) l) e) xs (each_at xs up)
