-- The level of a region that crosses no held one contradicts a held one's exactly where the innermost region that reaches its start has a level not below its own, or some
-- region that starts inside it has one not above.
-- Assumes nothing.
use Prim.Native.Nat.{ℕ, ◌<◌}
use Rattle.std.specs.Prelude.{Option}
use mathlib.Core.Path.{◌≡◌, refl, sym, ap, ◌∙◌}
use mathlib.Core.Bool.{Bool, true, false, ◌||◌}
use mathlib.Core.List.{List, [], ◌∷◌}
use mathlib.Core.Logic.{◌⊎◌, inl, inr}
use lib.Dec.{T}
use native.Mathlib.Omega.{arith}
use native.Mathlib.Decide.{dec_lt}
use Rattle.words.specs.Lists.{filter, some, last_or, All}
use Rattle.words.proofs.Tests.{nle_of, le_no, or_false_left, or_false_right}
use Rattle.words.proofs.Listed.{all_two, all_filter, all_end, pairs_kept, filter_none, none_of, some_none, none_some}
use Rattle.words.proofs.Says.{false_so, so_false}
use Rattle.regions.specs.declared.Region.{Region}
use Rattle.regions.specs.Positions.{crosses, contradicts, leveled, inside}
use Rattle.regions.specs.Sets.{Set, crossed, contradicted}
use Rattle.regions.proofs.Means.{Misleveled, contradicts_says, inside_says}
use Rattle.regions.proofs.Chain.{Deepening, deepens}
use Rattle.image.specs.Read.{set_of}
use Rattle.image.specs.Valid.{valid}
use Rattle.inside.specs.Lists.{up_to}
use Rattle.tally.specs.Tallies.{found_list}
use Rattle.clashes.specs.Reach.{reaches, reach, innermost, level_from}
use Rattle.clashes.proofs.Crossing.{Clear, reaches_says, reach_inward, by_last, unfiltered, nests_clear, fail_together, or_none}
use Rattle.clashes.proofs.Starts.{Ordered, ordered}

-- THE INNERMOST HAS THE HIGHEST LEVEL
module _ (l : ℕ) where
  levels_below : (xs : List Region) → Deepening xs → level_from l (innermost xs) ≡ false → All (λ (r : Region). r.level < l) xs
  unfolding innermost level_from
  levels_below [] h f = tt
  levels_below (x ∷ xs) h f =
      by_last (λ a b. a.level < b.level) (λ (r : Region). r.level < l) (λ a b c k. omega arith) x xs h (nle_of l (last_or x xs).level f)

  below_levels : (xs : List Region) → All (λ (r : Region). r.level < l) xs → level_from l (innermost xs) ≡ false
  unfolding innermost level_from
  below_levels [] a = refl
  below_levels (x ∷ xs) a = le_no l (last_or x xs).level (all_end (λ (r : Region). r.level < l) x xs a)

-- ONE HELD REGION, which is not crossed: what reaches the start lies around, what starts inside lies inside
module _ (r : Region) (long : r.start < r.end) where
  record Agrees (x : Region) : Type 0 where
    around : T (reaches r.start x) → x.level < r.level
    within : T (inside r.start r.end x) → r.level < x.level

  agrees : (x : Region) → Clear r long x → contradicts r x ≡ false → Agrees x
  agrees x c f =
      let never = false_so (contradicts_says r x) f in
      record {
        around = λ t.
            let u = (reaches_says r.start x).yes_so t in
            let e = c.around t in
            elim (dec_lt x.level r.level) [
              | yes l ↦ l
              | no l ↦ absurd (never (inr ((u.0, e), omega arith)))
            ];
        within = λ t.
            let u = (inside_says r.start r.end x).yes_so t in
            elim (dec_lt x.end r.end) [
              | yes e ↦
                  elim (dec_lt r.level x.level) [
                    | yes l ↦ l
                    | no l ↦ absurd (never (inl ((u.0, e), omega arith)))
                  ]
              | no e ↦ absurd (let z = c.within ((reaches_says r.end x).so_yes (u.1, omega arith)) in omega arith)
            ];
      }

  agreed : (x : Region) → x.start < x.end → Agrees x → contradicts r x ≡ false
  agreed x w a = so_false (contradicts_says r x) none
    where
      none : Misleveled r x ⊎ Misleveled x r → ⊥
      none (inl h) = omega (arith, a.within ((inside_says r.start r.end x).so_yes (h.0.0, omega arith)))
      none (inr h) = omega (arith, a.around ((reaches_says r.start x).so_yes (h.0.0, omega arith)))

-- THE TEST
pub levels_test : (S : Set) (r : Region) → Ordered S.regions → r.start < r.end → crossed r S ≡ false
    → contradicted r S ≡ (level_from r.level (innermost (reach r.start S)) || some (filter (up_to r.level) (filter (inside r.start r.end) S.regions)))
unfolding up_to
levels_test S r o long clear =
    fail_together (contradicted r S) (level_from r.level (innermost (reach r.start S)) || some (filter (up_to r.level) within)) to from
  where
    within : List Region
    within = filter (inside r.start r.end) S.regions

    to : contradicted r S ≡ false → (level_from r.level (innermost (reach r.start S)) || some (filter (up_to r.level) within)) ≡ false
    to c =
        let n = all_two (λ x l f. nests_clear r long x l f) S.regions o.long (none_of (crosses r) S.regions (some_none _ clear)) in
        let a = all_two (λ x m f. agrees r long x m f) S.regions n (none_of (contradicts r) S.regions (some_none _ c)) in
        or_none _ _
        (below_levels r.level (reach r.start S) (all_filter {M = Agrees r long} {N = λ (x : Region). x.level < r.level} (reaches r.start) (λ x m t. m.around t) S.regions a))
        (none_some _ (filter_none (up_to r.level) within
        (all_filter {M = Agrees r long} {N = λ x. up_to r.level x ≡ false} (inside r.start r.end) (λ x m t. le_no x.level r.level (m.within t)) S.regions a)))

    from : (level_from r.level (innermost (reach r.start S)) || some (filter (up_to r.level) within)) ≡ false → contradicted r S ≡ false
    from c =
        let i = reach_inward S r.start o.rising o.nesting in
        let d = deepens (reach r.start S) i (pairs_kept (λ x y. leveled x y ≡ true) (reaches r.start) S.regions o.leveling) in
        let a = levels_below r.level (reach r.start S) d (or_false_left _ _ c) in
        let b = none_of (up_to r.level) within (some_none _ (or_false_right (level_from r.level (innermost (reach r.start S))) _ c)) in
        let agree = all_two {R = Agrees r long} (λ x m n. record { around = m; within = λ t. nle_of x.level r.level (n t) }) S.regions
        (unfiltered (reaches r.start) (λ (x : Region). x.level < r.level) S.regions a) (unfiltered (inside r.start r.end) (λ x. up_to r.level x ≡ false) S.regions b) in
        none_some _ (filter_none (contradicts r) S.regions (all_two (λ x l m. agreed r long x l m) S.regions o.long agree))

-- as the code tells it
module _ (w : List ℕ) (r : Region) (t : T (valid w)) (long : r.start < r.end) (clear : crossed r (set_of w) ≡ false)
    (f : Option Region) (around : found_list f ≡ innermost (reach r.start (set_of w))) where
  tested : (a b : Bool) → a ≡ level_from r.level (found_list f) → b ≡ some (filter (up_to r.level) (filter (inside r.start r.end) (set_of w).regions))
      → (a || b) ≡ contradicted r (set_of w)
  tested a b i j = rw (i ∙ ap (level_from r.level) around, j) (sym (levels_test (set_of w) r (ordered w t) long clear))

  pub level_around : (a : Bool) → a ≡ level_from r.level (found_list f) → a ≡ true → true ≡ contradicted r (set_of w)
  level_around a i j = tested true _ (sym j ∙ i) refl

  pub level_inside : (a b : Bool) → a ≡ level_from r.level (found_list f) → a ≡ false
      → b ≡ some (filter (up_to r.level) (filter (inside r.start r.end) (set_of w).regions)) → b ≡ contradicted r (set_of w)
  level_inside a b i j k = tested false b (sym j ∙ i) k
