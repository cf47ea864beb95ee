-- What each test on positions and regions says, so that `omega` can go on from it.
-- Assumes nothing.
use Prim.Native.Nat.{ℕ, suc, ◌+◌, ◌<◌, ◌≤◌}
use mathlib.Core.Path.{◌≡◌, refl, ap}
use mathlib.Core.Logic.{◌⊎◌, inl, inr}
use mathlib.Core.Bool.{not}
use mathlib.Core.List.{List}
use native.Mathlib.Omega.{arith}
use native.Mathlib.Decide.{dec_le, ℕ_discrete}
use Rattle.words.specs.Lists.{filter}
use Rattle.words.proofs.Says.{Says, says_iff, says_same, and_says, eq_says, lt_says, le_says, or_says, not_says}
use Rattle.regions.specs.declared.Region.{Region}
use Rattle.regions.specs.declared.Choice.{Choice}
use Rattle.regions.specs.declared.Choice.TheVariants.{Strict, WithSelf}
use Rattle.regions.specs.Positions.{document, account, well_bound, well_formed, ends_before, contains, nested, crosses, misleveled, contradicts, leveled, spans, holds, too_late, inside, is_above, is_below}
use Rattle.regions.specs.Sets.{of, is_at, starts_before, starts_behind, starts_from}
use Rattle.regions.specs.Calls.{foreign}

-- POSITIONS
pub bound_says : (s e : ℕ) → Says (well_bound s e) ((s < e) × (document s ≡ document e))
unfolding well_bound
bound_says s e = and_says (lt_says s e) (eq_says (document s) (document e))

pub foreign_says : (a p : ℕ) → Says (not (foreign a p)) ((a ≤ 15) × (account p ≡ a))
unfolding foreign
foreign_says a p =
    says_iff (not_says (or_says (lt_says 15 a) (not_says (eq_says (account p) a))))
    (λ n. let l : (15 < a → ⊥) = (λ h. n (inl h)) in (omega arith, same (λ h. n (inr h))))
    (λ m. none m.0 m.1)
  where
    same : ((account p ≡ a → ⊥) → ⊥) → account p ≡ a
    same n = elim (ℕ_discrete (account p) a) [
      | yes e ↦ e
      | no h ↦ absurd (n h)
    ]

    none : a ≤ 15 → account p ≡ a → (15 < a) ⊎ (account p ≡ a → ⊥) → ⊥
    none l e (inl h) = omega arith
    none l e (inr h) = h e

-- ONE REGION
pub record Formed (r : Region) : Type 0 where
  pub order : r.start < r.end
  pub in_one : document r.start ≡ document r.end
  pub low : 1 ≤ r.level
  pub high : r.level ≤ 255

pub formed_says : (r : Region) → Says (well_formed r) (Formed r)
unfolding well_formed
formed_says r =
    says_iff (and_says (bound_says r.start r.end) (and_says (le_says 1 r.level) (le_says r.level 255)))
    (λ m. record { order = m.0.0; in_one = m.0.1; low = m.1.0; high = m.1.1 })
    (λ f. ((f.order, f.in_one), (f.low, f.high)))

-- the choice is a bound on the start, at p or right behind it: so what follows is said once over the choice
pub late_near : (ch : Choice) (p : ℕ) → (p ≤ too_late ch p) × (too_late ch p ≤ suc p)
unfolding too_late
late_near Strict p = (omega arith, omega arith)
late_near WithSelf p = (omega arith, omega arith)

pub late_grows : (ch : Choice) (p q : ℕ) → p ≤ q → too_late ch p ≤ too_late ch q
unfolding too_late
late_grows Strict p q l = l
late_grows WithSelf p q l = omega arith

pub spans_says : (ch : Choice) (p s e : ℕ) → Says (spans ch p s e) ((s < too_late ch p) × (p < e))
unfolding spans too_late
spans_says Strict p s e = and_says (lt_says s p) (lt_says p e)
spans_says WithSelf p s e = says_iff (and_says (le_says s p) (lt_says p e)) (λ h. (omega arith, h.1)) (λ h. (omega arith, h.1))

pub holds_says : (ch : Choice) (p : ℕ) (r : Region) → Says (holds ch p r) ((r.start < too_late ch p) × (p < r.end))
unfolding holds
holds_says ch p r = spans_says ch p r.start r.end

pub inside_says : (s e : ℕ) (r : Region) → Says (inside s e r) ((s < r.start) × (r.start < e))
unfolding inside
inside_says s e r = and_says (lt_says s r.start) (lt_says r.start e)

pub above_says : (l : ℕ) (r : Region) → Says (is_above l r) (r.level + 1 ≡ l)
unfolding is_above
above_says l r = eq_says (r.level + 1) l

pub below_says : (l : ℕ) (r : Region) → Says (is_below l r) (r.level ≡ l + 1)
unfolding is_below
below_says l r = eq_says r.level (l + 1)

pub of_says : (a : ℕ) (r : Region) → Says (of a r) (account r.start ≡ a)
unfolding of
of_says a r = eq_says (account r.start) a

pub at_says : (s : ℕ) (r : Region) → Says (is_at s r) (r.start ≡ s)
unfolding is_at
at_says s r = eq_says r.start s

pub before_says : (s : ℕ) (r : Region) → Says (starts_before s r) (r.start < s)
unfolding starts_before
before_says s r = lt_says r.start s

pub behind_says : (s : ℕ) (r : Region) → Says (starts_behind s r) (s < r.start)
unfolding starts_behind
behind_says s r = lt_says s r.start

pub from_says : (s : ℕ) (r : Region) → Says (starts_from s r) (s ≤ r.start)
unfolding starts_from
from_says s r = le_says s r.start

-- behind a position is from the next one on
pub behind_from : (s : ℕ) (rs : List Region) → filter (starts_behind s) rs ≡ filter (starts_from (suc s)) rs
unfolding starts_behind starts_from
behind_from s rs = refl

-- TWO REGIONS
pub ends_says : (x y : Region) → Says (ends_before x y) (x.end < y.start)
unfolding ends_before
ends_says x y = lt_says x.end y.start

pub contains_says : (x y : Region) → Says (contains x y) ((x.start < y.start) × (y.end < x.end))
unfolding contains
contains_says x y = and_says (lt_says x.start y.start) (lt_says y.end x.end)

-- the two ways, either way round
abbrev pub Apart : Region → Region → Type 0
Apart x y = (x.end < y.start) ⊎ (y.end < x.start)

abbrev pub Within : Region → Region → Type 0
Within x y = ((x.start < y.start) × (y.end < x.end)) ⊎ ((y.start < x.start) × (x.end < y.end))

pub nested_says : (x y : Region) → Says (nested x y) (Apart x y ⊎ Within x y)
unfolding nested
nested_says x y = or_says (or_says (ends_says x y) (ends_says y x)) (or_says (contains_says x y) (contains_says y x))

-- what crosses touches, and lies on neither side
pub record Crossing (x y : Region) : Type 0 where
  pub reach : y.start ≤ x.end
  pub reach_back : x.start ≤ y.end
  pub not_in : x.start < y.start → x.end ≤ y.end
  pub not_around : y.start < x.start → y.end ≤ x.end

pub crosses_says : (x y : Region) → Says (crosses x y) (Crossing x y)
unfolding crosses
crosses_says x y = says_iff (not_says (nested_says x y)) to from
  where
    to : (Apart x y ⊎ Within x y → ⊥) → Crossing x y
    to n =
        let a : (x.end < y.start → ⊥) = (λ h. n (inl (inl h))) in
        let b : (y.end < x.start → ⊥) = (λ h. n (inl (inr h))) in
        record {
          reach = omega arith;
          reach_back = omega arith;
          not_in = λ l. (let c : (y.end < x.end → ⊥) = (λ h. n (inr (inl (l, h)))) in omega arith);
          not_around = λ l. (let c : (x.end < y.end → ⊥) = (λ h. n (inr (inr (l, h)))) in omega arith);
        }

    from : Crossing x y → Apart x y ⊎ Within x y → ⊥
    from c (inl (inl h)) = omega arith
    from c (inl (inr h)) = omega arith
    from c (inr (inl h)) = omega (arith, c.not_in h.0)
    from c (inr (inr h)) = omega (arith, c.not_around h.0)

-- nesting is even-handed
pub nested_comm : (x y : Region) → nested x y ≡ nested y x
nested_comm x y = says_same (nested_says x y) (says_iff (nested_says y x) (turn y x) (turn x y))
  where
    turn : (u v : Region) → Apart u v ⊎ Within u v → Apart v u ⊎ Within v u
    turn u v (inl (inl h)) = inl (inr h)
    turn u v (inl (inr h)) = inl (inl h)
    turn u v (inr (inl h)) = inr (inr h)
    turn u v (inr (inr h)) = inr (inl h)

-- of two regions in ascending start: where the later one starts in the earlier one, it ends in it too
pub nested_in_turn : (x y : Region) → x.start < y.start → y.start ≤ y.end → Says (nested x y) (y.start ≤ x.end → y.end < x.end)
nested_in_turn x y l f = says_iff (nested_says x y) to from
  where
    to : Apart x y ⊎ Within x y → y.start ≤ x.end → y.end < x.end
    to (inl (inl h)) k = omega arith
    to (inl (inr h)) k = omega arith
    to (inr (inl h)) k = h.1
    to (inr (inr h)) k = omega arith

    from : (y.start ≤ x.end → y.end < x.end) → Apart x y ⊎ Within x y
    from g = elim (dec_le y.start x.end) [
      | yes h ↦ inr (inl (l, g h))
      | no h ↦ inl (inl (omega arith))
    ]

-- LEVELS of two regions, either way round
abbrev pub Misleveled : Region → Region → Type 0
Misleveled x y = ((x.start < y.start) × (y.end < x.end)) × (y.level ≤ x.level)

misleveled_says : (x y : Region) → Says (misleveled x y) (Misleveled x y)
unfolding misleveled
misleveled_says x y = and_says (contains_says x y) (le_says y.level x.level)

pub contradicts_says : (x y : Region) → Says (contradicts x y) (Misleveled x y ⊎ Misleveled y x)
unfolding contradicts
contradicts_says x y = or_says (misleveled_says x y) (misleveled_says y x)

pub contradicts_comm : (x y : Region) → contradicts x y ≡ contradicts y x
contradicts_comm x y = says_same (contradicts_says x y) (says_iff (contradicts_says y x) (turn y x) (turn x y))
  where
    turn : (u v : Region) → Misleveled u v ⊎ Misleveled v u → Misleveled v u ⊎ Misleveled u v
    turn u v (inl h) = inr h
    turn u v (inr h) = inl h

pub leveled_comm : (x y : Region) → leveled x y ≡ leveled y x
unfolding leveled
leveled_comm x y = ap not (contradicts_comm x y)

-- of two regions in ascending start: where the later one lies in the earlier one, its level is above
pub leveled_in_turn : (x y : Region) → x.start < y.start → Says (leveled x y) (y.end < x.end → x.level < y.level)
unfolding leveled
leveled_in_turn x y l = says_iff (not_says (contradicts_says x y)) to from
  where
    to : (Misleveled x y ⊎ Misleveled y x → ⊥) → y.end < x.end → x.level < y.level
    to n h = let k : (y.level ≤ x.level → ⊥) = (λ m. n (inl ((l, h), m))) in omega arith

    from : (y.end < x.end → x.level < y.level) → Misleveled x y ⊎ Misleveled y x → ⊥
    from f (inl h) = omega (arith, f h.0.1)
    from f (inr h) = omega arith
