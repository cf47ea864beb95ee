-- The regions that reach a position are those that hold the one before it, with self: the innermost is the last that a search meets.
-- Assumes nothing.
use Prim.Native.Nat.{ℕ, suc, ◌-◌, ◌<◌, ◌≤◌}
use Rattle.std.specs.Prelude.{Option, None, Some, is_some, MatchOption}
use mathlib.Core.Path.{◌≡◌, refl, sym, ap, ◌∙◌}
use mathlib.Core.Bool.{Bool, true, false, ◌||◌}
use mathlib.Core.List.{List, [], ◌∷◌}
use lib.Dec.{T, leb, ltb}
use native.Mathlib.Omega.{arith}
use Rattle.words.specs.Lists.{filter, some, last_or}
use Rattle.words.proofs.Listed.{all_every, filter_none, filter_same}
use Rattle.words.proofs.Says.{says_same, says_iff, so_false}
use Rattle.regions.specs.declared.Region.{Region}
use Rattle.regions.specs.Positions.{holds, too_late}
use Rattle.regions.specs.declared.Choice.TheVariants.{WithSelf}
use Rattle.regions.specs.Sets.{Set, is_at, held_at, crossed}
use Rattle.regions.specs.Calls.{ancestors}
use Rattle.regions.proofs.Means.{holds_says}
use Rattle.image.specs.Read.{set_of}
use Rattle.image.specs.Valid.{valid}
use Rattle.tally.specs.Tallies.{found_list, last_found}
use Rattle.clashes.specs.Reach.{reaches, reach, innermost, ends_by, starts_past, level_from}
use Rattle.clashes.proofs.Crossing.{reaches_says, crossing_test}
use Rattle.clashes.proofs.Starts.{ordered}

-- THOSE THAT REACH p + 1 hold p with self
pub reach_next : (p : ℕ) (S : Set) → reach (suc p) S ≡ ancestors WithSelf p S
unfolding too_late
reach_next p S =
    filter_same (reaches (suc p)) (holds WithSelf p) S.regions (all_every (λ r. says_same (reaches_says (suc p) r) (says_iff (holds_says WithSelf p r) (λ m. m) (λ m. m))) S.regions)

reach_none : (S : Set) → reach 0 S ≡ []
reach_none S = filter_none (reaches 0) S.regions (all_every (λ r. so_false (reaches_says 0 r) (λ m. omega arith)) S.regions)

-- THE INNERMOST is the last that was met
last_at : (x : Region) (xs : List Region) → last_found (Some x) xs ≡ Some (last_or x xs)
unfolding last_found last_or
last_at x [] = refl
last_at x (y ∷ ys) = last_at y ys

last_innermost : (xs : List Region) → found_list (last_found None xs) ≡ innermost xs
unfolding found_list last_found innermost
last_innermost [] = refl
last_innermost (x ∷ xs) = rw (last_at x xs)

last_told : (f : Option Region) (xs : List Region) → f ≡ last_found None xs → found_list f ≡ innermost xs
last_told f xs e = ap found_list e ∙ last_innermost xs

-- as the code tells it
module _ (w : List ℕ) (x : ℕ) (f : Option Region) where
  pub reach_zero : (1 ≤ x → ⊥) → f ≡ None → found_list f ≡ innermost (reach x (set_of w))
  unfolding found_list innermost
  reach_zero n e = let z : x ≡ 0 = omega (arith, n) in rw (e, z, reach_none (set_of w))

  pub reach_last : (p : ℕ) → (1 ≤ x) × (p ≡ x - 1) → f ≡ last_found None (ancestors WithSelf p (set_of w)) → found_list f ≡ innermost (reach x (set_of w))
  reach_last p n e =
      let next : suc p ≡ x = omega (arith, n) in
      last_told f (ancestors WithSelf p (set_of w)) e ∙ ap innermost (sym (reach_next p (set_of w)) ∙ ap (λ y. reach y (set_of w)) next)

-- THE CROSSING, test by test
or_true : (a b : Bool) → (a || (true || b)) ≡ true
or_true true b = refl
or_true false b = refl

pub some_told : (f : Option Region) → is_some f ≡ some (found_list f)
unfolding found_list some
some_told None = refl
some_told (Some a) = refl

module _ {P : Region → Type 0} (e : ℕ) (f : Option Region) (b : Bool) (m : MatchOption f (b ≡ false) P) where
  pub ends_told : ((a : Region) → P a → b ≡ leb a.end e) → b ≡ ends_by e (found_list f)
  unfolding found_list ends_by
  ends_told h = go f m
    where
      go : (f : Option Region) → MatchOption f (b ≡ false) P → b ≡ ends_by e (found_list f)
      go None n = n
      go (Some a) n = h a n

  pub starts_told : ((a : Region) → P a → b ≡ ltb e a.start) → b ≡ starts_past e (found_list f)
  unfolding found_list starts_past
  starts_told h = go f m
    where
      go : (f : Option Region) → MatchOption f (b ≡ false) P → b ≡ starts_past e (found_list f)
      go None n = n
      go (Some a) n = h a n

  pub level_told : ((a : Region) → P a → b ≡ leb e a.level) → b ≡ level_from e (found_list f)
  unfolding found_list level_from
  level_told h = go f m
    where
      go : (f : Option Region) → MatchOption f (b ≡ false) P → b ≡ level_from e (found_list f)
      go None n = n
      go (Some a) n = h a n

module _ (w : List ℕ) (r : Region) (t : T (valid w)) (long : r.start < r.end) (free : held_at r.start (set_of w) ≡ false) where
  tested : (a b c : Bool) → a ≡ ends_by r.end (innermost (reach r.start (set_of w))) → b ≡ held_at r.end (set_of w)
      → c ≡ starts_past r.start (innermost (reach r.end (set_of w))) → (a || (b || c)) ≡ crossed r (set_of w)
  tested a b c i j k = let o = ordered w t in rw (i, j, k) (sym (crossing_test (set_of w) r o.rising o.nesting o.long long free))

  pub cross_start : (f : Option Region) (a : Bool) → found_list f ≡ innermost (reach r.start (set_of w)) → a ≡ ends_by r.end (found_list f) → a ≡ true → true ≡ crossed r (set_of w)
  cross_start f a i j k = tested true _ _ (sym k ∙ j ∙ ap (ends_by r.end) i) refl refl

  pub cross_end : (g : Option Region) (b : Bool) → found_list g ≡ filter (is_at r.end) (set_of w).regions → b ≡ some (found_list g) → b ≡ true → true ≡ crossed r (set_of w)
  cross_end g b i j k =
      sym (or_true (ends_by r.end (innermost (reach r.start (set_of w)))) (starts_past r.start (innermost (reach r.end (set_of w)))))
      ∙ tested _ true _ refl (sym k ∙ j ∙ ap some i) refl

  pub cross_inner : (f g h : Option Region) (a b c : Bool) → found_list f ≡ innermost (reach r.start (set_of w)) → a ≡ ends_by r.end (found_list f) → a ≡ false
      → found_list g ≡ filter (is_at r.end) (set_of w).regions → b ≡ some (found_list g) → b ≡ false
      → found_list h ≡ innermost (reach r.end (set_of w)) → c ≡ starts_past r.start (found_list h) → c ≡ crossed r (set_of w)
  cross_inner f g h a b c i j k l m n u v =
      tested false false c (sym k ∙ j ∙ ap (ends_by r.end) i) (sym n ∙ m ∙ ap some l) (v ∙ ap (starts_past r.start) u)
