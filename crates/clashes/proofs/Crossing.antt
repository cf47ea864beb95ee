-- A region whose start is not held crosses a held one exactly where the innermost region that reaches its start ends within it, its end is a held start, or the
-- innermost region that reaches its end starts within it.
-- Assumes nothing.
use Prim.Native.Nat.{ℕ, ◌<◌, ◌≤◌}
use mathlib.Core.Path.{◌≡◌, refl, sym, subst}
use mathlib.Core.Bool.{Bool, true, false, ◌||◌, true≢false}
use mathlib.Core.List.{List, [], ◌∷◌, ◌++◌}
use lib.Dec.{T}
use native.Mathlib.Omega.{arith}
use native.Mathlib.Decide.{dec_le}
use Rattle.words.specs.Lists.{filter, last_or, All, Pairs}
use Rattle.words.proofs.Tests.{no_t, by_test, nle_of, le_no, nlt_of, lt_no, or_false_left, or_false_right}
use Rattle.words.proofs.Listed.{all_mono, all_two, all_append, all_filter, filter_none, none_of, pairs_across, some_none, none_some, all_end, last_split}
use Rattle.words.proofs.Says.{Says, and_says, lt_says, le_says, true_so, false_so, so_false}
use Rattle.regions.specs.declared.Region.{Region}
use Rattle.regions.specs.Positions.{crosses, contains}
use Rattle.regions.specs.Sets.{Set, is_at, held_at, crossed}
use Rattle.regions.proofs.Means.{contains_says, at_says, crosses_says}
use Rattle.regions.specs.Sound.{Rising, Nesting}
use Rattle.regions.proofs.Chain.{Inward, together_inward}
use Rattle.clashes.specs.Reach.{reaches, reach, innermost, ends_by, starts_past}

pub reaches_says : (x : ℕ) (r : Region) → Says (reaches x r) ((r.start < x) × (x ≤ r.end))
unfolding reaches
reaches_says x r = and_says (lt_says r.start x) (le_says x r.end)

-- those that reach a position lie one in the other
pub reach_inward : (S : Set) (x : ℕ) → Rising S.regions → Nesting S.regions → Inward (reach x S)
reach_inward S x h k =
    together_inward (reaches x) (λ a b t u. let v = (reaches_says x a).yes_so t in let w = (reaches_says x b).yes_so u in omega arith) S.regions h k

-- WHAT THE INNERMOST HAS, all around it have, where of every two so related the outer one has it if the inner one has
pub by_last : (R : Region → Region → Type 0) (P : Region → Type 0) → ((a b : Region) → R a b → P b → P a) → (x : Region) (xs : List Region) → Pairs R (x ∷ xs) → P (last_or x xs) → All P (x ∷ xs)
by_last R P f x xs h l =
    let s = last_split x xs in
    let i : Pairs R (s.0 ++ last_or x xs ∷ []) = subst (λ l. Pairs R l) s.1 h in
    let a = all_mono {Q = P} (λ y m. f y (last_or x xs) m.0 l) s.0 (pairs_across R s.0 (last_or x xs ∷ []) i) in
    subst (All P) (sym s.1) (all_append P s.0 (last_or x xs ∷ []) a (l, tt))

module _ (e : ℕ) where
  ends_none : (xs : List Region) → Inward xs → ends_by e (innermost xs) ≡ false → All (λ (r : Region). e < r.end) xs
  unfolding innermost ends_by
  ends_none [] h f = tt
  ends_none (x ∷ xs) h f =
      by_last (λ x y. contains x y ≡ true) (λ (r : Region). e < r.end) (λ a b c l. let m = true_so (contains_says a b) c in omega arith) x xs h (nle_of (last_or x xs).end e f)

  none_ends : (xs : List Region) → All (λ (r : Region). e < r.end) xs → ends_by e (innermost xs) ≡ false
  unfolding innermost ends_by
  none_ends [] a = refl
  none_ends (x ∷ xs) a = le_no (last_or x xs).end e (all_end (λ (r : Region). e < r.end) x xs a)

  starts_none : (xs : List Region) → Inward xs → starts_past e (innermost xs) ≡ false → All (λ (r : Region). r.start ≤ e) xs
  unfolding innermost starts_past
  starts_none [] h f = tt
  starts_none (x ∷ xs) h f =
      by_last (λ x y. contains x y ≡ true) (λ (r : Region). r.start ≤ e) (λ a b c l. let m = true_so (contains_says a b) c in omega arith) x xs h (nlt_of e (last_or x xs).start f)

  none_starts : (xs : List Region) → All (λ (r : Region). r.start ≤ e) xs → starts_past e (innermost xs) ≡ false
  unfolding innermost starts_past
  none_starts [] a = refl
  none_starts (x ∷ xs) a = lt_no e (last_or x xs).start (all_end (λ (r : Region). r.start ≤ e) x xs a)

-- what all of a filter have, each has if it passes
pub unfiltered : (p : Region → Bool) (P : Region → Type 0) (xs : List Region) → All P (filter p xs) → All (λ x. T (p x) → P x) xs
unfolding filter
unfiltered p P [] a = tt
unfiltered p P (x ∷ xs) a =
    by_test (p x)
    (λ h. let b : All P (x ∷ filter p xs) = rw h at a in ((λ t. b.0), unfiltered p P xs b.1))
    (λ h. let b : All P (filter p xs) = rw h at a in ((λ t. absurd (no_t h t)), unfiltered p P xs b))

-- ONE HELD REGION, which starts elsewhere
module _ (r : Region) (long : r.start < r.end) where
  pub record Clear (x : Region) : Type 0 where
    pub around : T (reaches r.start x) → r.end < x.end
    pub away : x.start ≡ r.end → ⊥
    pub within : T (reaches r.end x) → x.start ≤ r.start

  clear_nests : (x : Region) → x.start < x.end → (x.start ≡ r.start → ⊥) → Clear x → crosses r x ≡ false
  clear_nests x w n c =
      so_false (crosses_says r x)
      (λ m.
      let a : (x.start < r.start → ⊥) = (λ l. let b = m.not_around l in let u = c.around ((reaches_says r.start x).so_yes (l, m.reach_back)) in omega arith) in
      let d = c.away in
      let f : (r.start < x.start → ⊥) =
      (λ l. let b = m.not_in l in
      let g : x.start < r.end = (let z : (x.start ≡ r.end → ⊥) = d in let q = m.reach in omega arith) in
      let u = c.within ((reaches_says r.end x).so_yes (g, b)) in omega arith) in
      n (omega arith))

  pub nests_clear : (x : Region) → x.start < x.end → crosses r x ≡ false → Clear x
  nests_clear x w f =
      let never = false_so (crosses_says r x) f in
      record {
        around = λ t. (let u = (reaches_says r.start x).yes_so t in
            elim (dec_le x.end r.end) [
              | yes l ↦ absurd (never (record { reach = omega arith; reach_back = omega arith; not_in = λ z. omega arith; not_around = λ z. omega arith }))
              | no l ↦ omega arith
            ]);
        away = λ q. never (record { reach = omega arith; reach_back = omega arith; not_in = λ z. omega arith; not_around = λ z. omega arith });
        within = λ t. (let u = (reaches_says r.end x).yes_so t in
            elim (dec_le x.start r.start) [
              | yes l ↦ l
              | no l ↦ absurd (never (record { reach = omega arith; reach_back = omega arith; not_in = λ z. omega arith; not_around = λ z. omega arith }))
            ]);
      }

-- two tests that fail together are one; neither of two
pub fail_together : (a b : Bool) → (a ≡ false → b ≡ false) → (b ≡ false → a ≡ false) → a ≡ b
fail_together true true f g = refl
fail_together true false f g = absurd (true≢false (g refl))
fail_together false b f g = sym (f refl)

pub or_none : (a b : Bool) → a ≡ false → b ≡ false → (a || b) ≡ false
or_none a b e f = rw (e, f)

-- THE TEST
pub crossing_test : (S : Set) (r : Region) → Rising S.regions → Nesting S.regions → All (λ (x : Region). x.start < x.end) S.regions → r.start < r.end → held_at r.start S ≡ false
    → crossed r S ≡ (ends_by r.end (innermost (reach r.start S)) || (held_at r.end S || starts_past r.start (innermost (reach r.end S))))
crossing_test S r h k w long free =
    fail_together (crossed r S) (ends_by r.end (innermost (reach r.start S)) || (held_at r.end S || starts_past r.start (innermost (reach r.end S)))) to from
  where
    free_all_lem : All (λ (x : Region). x.start ≡ r.start → ⊥) S.regions
    free_all_lem = all_mono (λ x f q. false_so (at_says r.start x) f q) S.regions (none_of (is_at r.start) S.regions (some_none _ free))

    to : crossed r S ≡ false → (ends_by r.end (innermost (reach r.start S)) || (held_at r.end S || starts_past r.start (innermost (reach r.end S)))) ≡ false
    to c =
        let n = none_of (crosses r) S.regions (some_none _ c) in
        let a = all_two (λ x l f. nests_clear r long x l f) S.regions w n in
        or_none _ _ (none_ends r.end (reach r.start S) (all_filter {M = Clear r long} {N = λ (x : Region). r.end < x.end} (reaches r.start) (λ x m t. m.around t) S.regions a))
        (or_none _ _ (none_some _ (filter_none (is_at r.end) S.regions (all_mono (λ x m. so_false (at_says r.end x) m.away) S.regions a)))
        (none_starts r.start (reach r.end S) (all_filter {M = Clear r long} {N = λ (x : Region). x.start ≤ r.start} (reaches r.end) (λ x m t. m.within t) S.regions a)))

    from : (ends_by r.end (innermost (reach r.start S)) || (held_at r.end S || starts_past r.start (innermost (reach r.end S)))) ≡ false → crossed r S ≡ false
    from c =
        let a = ends_none r.end (reach r.start S) (reach_inward S r.start h k) (or_false_left _ _ c) in
        let d = or_false_right (ends_by r.end (innermost (reach r.start S))) _ c in
        let b = none_of (is_at r.end) S.regions (some_none _ (or_false_left _ _ d)) in
        let f = starts_none r.start (reach r.end S) (reach_inward S r.end h k) (or_false_right (held_at r.end S) _ d) in
        let ends = unfiltered (reaches r.start) (λ (x : Region). r.end < x.end) S.regions a in
        let starts = unfiltered (reaches r.end) (λ (x : Region). x.start ≤ r.start) S.regions f in
        let clear = all_two {R = Clear r long}
        (λ x m n. record { around = m.0; away = m.1; within = n }) S.regions
        (all_two {R = λ x. (T (reaches r.start x) → r.end < x.end) × (x.start ≡ r.end → ⊥)} (λ x m n. (m, (λ q. false_so (at_says r.end x) n q))) S.regions ends b) starts in
        none_some _ (filter_none (crosses r) S.regions
        (all_two {R = λ x. crosses r x ≡ false} (λ x m n. clear_nests r long x m.0 m.1 n) S.regions (all_two {R = λ (x : Region). (x.start < x.end) × (x.start ≡ r.start → ⊥)} (λ x m n. (m, n)) S.regions w free_all_lem) clear))
