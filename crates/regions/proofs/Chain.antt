-- Ascending starts among ancestors are "outermost first": each contains all behind it, and has a smaller level. So no two have the same level, and a position and a level
-- have at most one parent.
-- Assumes nothing.
use Prim.Native.Nat.{ℕ, ◌+◌, ◌<◌, ◌≤◌}
use mathlib.Core.Path.{◌≡◌}
use mathlib.Core.Bool.{Bool, true}
use mathlib.Core.List.{List, [], ◌∷◌}
use lib.Dec.{T}
use lib.ListN.{length}
use native.Mathlib.Omega.{arith}
use Rattle.words.specs.Lists.{filter, All, Pairs}
use Rattle.words.proofs.Listed.{all_mono, all_kept, pairs_mono, pairs_filter, pairs_kept, none_two, pairs_two}
use Rattle.words.proofs.Says.{true_so, so_true}
use Rattle.regions.specs.declared.Region.{Region}
use Rattle.regions.specs.declared.Choice.{Choice}
use Rattle.regions.specs.Limits.{most_around}
use Rattle.regions.specs.Positions.{nested, contains, leveled, holds, is_above}
use Rattle.regions.specs.Sets.{Set}
use Rattle.regions.specs.Calls.{ancestors, parent}
use Rattle.regions.specs.Sound.{Wf, Rising, Nesting, Leveling, LevelsDiffer, Sound}
use Rattle.regions.proofs.Means.{late_near, holds_says, above_says, contains_says, nested_in_turn, formed_says, leveled_in_turn}

abbrev pub Inward : List Region → Type 0
Inward rs = Pairs (λ x y. contains x y ≡ true) rs

-- ONE IN THE OTHER: regions of which each starts before any of them has ended
pub together_inward : (q : Region → Bool) → ((x y : Region) → T (q x) → T (q y) → y.start ≤ x.end) → (rs : List Region) → Rising rs → Nesting rs → Inward (filter q rs)
together_inward q f rs h k =
    pairs_filter {S = λ x y. contains x y ≡ true} q turn rs (pairs_two {S = λ x y. (x.start < y.start) × (nested x y ≡ true)} (λ x y l n. (l, n)) rs h k)
  where
    turn : (x y : Region) → T (q x) → T (q y) → (x.start < y.start) × (nested x y ≡ true) → contains x y ≡ true
    turn x y tx ty m = so_true (contains_says x y) (m.0, true_so (nested_in_turn x y m.0 (f y y ty ty)) m.1 (f x y tx ty))

pub ancestors_inward : (S : Set) (ch : Choice) (p : ℕ) → Rising S.regions → Nesting S.regions → Inward (ancestors ch p S)
ancestors_inward S ch p h k =
    together_inward (holds ch p) (λ x y a b. let u = (holds_says ch p x).yes_so a in let v = (holds_says ch p y).yes_so b in omega (arith, late_near ch p)) S.regions h k

-- LEVELS RISE INWARDS: of regions that lie one in the other each has a level above those of all around it
abbrev pub Deepening : List Region → Type 0
Deepening rs = Pairs (λ x y. x.level < y.level) rs

pub deepens : (rs : List Region) → Inward rs → Leveling rs → Deepening rs
deepens rs h k =
    pairs_two {S = λ x y. x.level < y.level} (λ x y c l. let m = true_so (contains_says x y) c in true_so (leveled_in_turn x y m.0) l m.1) rs h k

-- so that there are at most as many of them as levels
deep_few : (n : ℕ) (rs : List Region) → n ≤ most_around → All (λ x. n < x.level) rs → All Wf rs → Deepening rs → n + length rs ≤ most_around
deep_few n [] l a w h = omega arith
deep_few n (x ∷ xs) l a w h =
    let f = true_so (formed_says x) w.0 in
    let k = deep_few x.level xs f.high h.0 w.1 h.1 in
    omega (arith, a.0)

-- of a set, those that lie one in the other
pub around_few : (S : Set) → Sound S → (q : Region → Bool) → Inward (filter q S.regions) → length (filter q S.regions) ≤ most_around
around_few S g q h =
    let w = all_kept Wf q S.regions g.formed in
    let l = all_mono {Q = λ x. 0 < x.level} (λ x f. let m = (true_so (formed_says x) f).low in omega arith) (filter q S.regions) w in
    let d = deepens (filter q S.regions) h (pairs_kept (λ x y. leveled x y ≡ true) q S.regions g.leveling) in
    omega (arith, deep_few 0 (filter q S.regions) (omega arith) l w d)

-- THE ANCESTORS OF A POSITION, of regions that ascend, nest and are leveled as they nest
module _ (S : Set) (p : ℕ) (h : Rising S.regions) (k : Nesting S.regions) (l : Leveling S.regions) where
  pub levels_rise : (ch : Choice) → Deepening (ancestors ch p S)
  levels_rise ch = deepens (ancestors ch p S) (ancestors_inward S ch p h k) (pairs_kept (λ x y. leveled x y ≡ true) (holds ch p) S.regions l)

  -- hence no level twice
  pub levels_differ : (ch : Choice) → LevelsDiffer (ancestors ch p S)
  levels_differ ch = pairs_mono (λ x y m e. omega arith) (ancestors ch p S) (levels_rise ch)

  -- and a test that only one level passes lets at most one through, as a parent's does
  pub one_of_level : (ch : Choice) (v : ℕ) (q : Region → Bool) → ((x : Region) → T (q x) → x.level + 1 ≡ v) → length (filter q (ancestors ch p S)) ≤ 1
  one_of_level ch v q f = none_two (filter q (ancestors ch p S)) (pairs_filter {S = λ x y. ⊥} q (λ x y a b m. m (omega (arith, f x a, f y b))) (ancestors ch p S) (levels_differ ch))

  pub parent_one : (v : ℕ) → length (parent p v S) ≤ 1
  parent_one v = one_of_level _ v (is_above v) (λ x t. (above_says v x).yes_so t)
