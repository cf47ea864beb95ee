-- The small tests on regions, one law for each way out of their functions: what is answered there is what the definition says.
-- Assumes nothing.
use Prim.Native.Nat.{ℕ, ◌+◌, ◌-◌, ◌<◌, ◌≤◌}
use mathlib.Core.Path.{◌≡◌, refl, sym}
use mathlib.Core.Bool.{false, ◌&&◌}
use lib.Dec.{ltb, eqb}
use native.Mathlib.Omega.{arith}
use Rattle.words.proofs.Tests.{and_true, and_false, lt_yes, lt_no}
use Rattle.words.proofs.Says.{eq_same, says_same, and_says, lt_says}
use Rattle.regions.specs.declared.Region.{Region}
use Rattle.regions.specs.declared.Choice.{Choice}
use Rattle.regions.specs.Positions.{ends_before, spans, too_late, is_above}
use Rattle.regions.proofs.Means.{spans_says}

-- two regions
pub ends_is : (x y : Region) → ltb x.end y.start ≡ ends_before x y
unfolding ends_before
ends_is x y = refl

pub spans_is : (ch : Choice) (p s e : ℕ) → spans ch p s e ≡ (ltb s (too_late ch p) && ltb p e)
spans_is ch p s e = says_same (spans_says ch p s e) (and_says (lt_says s (too_late ch p)) (lt_says p e))

pub spans_ended : (ch : Choice) (p s e : ℕ) → e ≤ p → false ≡ spans ch p s e
spans_ended ch p s e h = rw (spans_is ch p s e, lt_no p e h) (sym (and_false (ltb s (too_late ch p))))

pub spans_open : (ch : Choice) (p s e : ℕ) → p < e → ltb s (too_late ch p) ≡ spans ch p s e
spans_open ch p s e h = rw (spans_is ch p s e, lt_yes p e h) (sym (and_true (ltb s (too_late ch p))))

pub above_is : (l : ℕ) (r : Region) → 1 ≤ l → eqb r.level (l - 1) ≡ is_above l r
unfolding is_above
above_is l r h = eq_same r.level (l - 1) (r.level + 1) l (λ e. omega arith) (λ e. omega arith)
