-- Places by counts: the order of a list does not matter, and rule 7's test says the same.
-- Assumes nothing.
use Prim.Native.Nat.{ℕ, zero, suc, ◌≤◌, ◌<◌}
use mathlib.Core.Path.{◌≡◌, refl, sym, ap, ◌∙◌}
use mathlib.Core.Bool.{Bool, true, false, cond}
use mathlib.Core.List.{List, [], ◌∷◌}
use lib.Dec.{T, eqb, leb, leb→le, le→leb, eqb→eq}
use native.Mathlib.Omega.{arith}
use Rattle.words.specs.Lists.{All, all, count}
use Rattle.words.proofs.Tests.{T_of, by_test, and_left, and_right, and_both, eq_yes, eq_of, ne_of}
use Rattle.words.proofs.Counted.{count_same, count_other, one, one_at_most}
use Rattle.xrtree.specs.Rules.{within, once_or_free, placed}
use Rattle.standing.specs.Stands.{Places}

-- what holds of every place that is listed
pub all_counted : (P : ℕ → Type 0) (ps : List ℕ) → ((q : ℕ) → 0 < count q ps → P q) → All P ps
unfolding count
all_counted P [] f = tt
all_counted P (p ∷ ps) f =
    (f p (omega (arith, count_same p ps)), all_counted P ps (λ q h. f q (omega arith)))

pub counted_all : (P : ℕ → Type 0) (ps : List ℕ) → All P ps → (q : ℕ) → 0 < count q ps → P q
unfolding count
counted_all P [] a q h = absurd (omega arith)
counted_all P (p ∷ ps) a q h =
    by_test (eqb q p)
    (λ e. rw (eq_of q p e) a.0)
    (λ e. counted_all P ps a.1 q (omega (arith, count_other q p ps (ne_of q p e))))

-- another list with the same counts, and uses that agree
pub places_same : {used used' : ℕ → Bool} {n : ℕ} {ps qs : List ℕ} → ((q : ℕ) → count q qs ≡ count q ps) → ((q : ℕ) → 1 ≤ q → q ≤ n → used' q ≡ used q)
    → Places used n ps → Places used' n qs
places_same e f p =
    record {
      once = λ q a b. e q ∙ p.once q a b ∙ ap (λ u. cond u 1 0) (sym (f q a b));
      range = λ q h. p.range q (omega (arith, e q));
    }

-- PLACES: one that is listed is listed once and in use, and one that is free is not listed
module _ {used : ℕ → Bool} {n : ℕ} {ps : List ℕ} (p : Places used n ps) where
  pub place_once : (x : ℕ) → count x ps ≤ 1
  place_once x = by (count x ps) refl
    where
      by : (m : ℕ) → count x ps ≡ m → count x ps ≤ 1
      by zero z = omega arith
      by (suc m) z = let r = p.range x (omega arith) in omega (arith, p.once x r.0 r.1, one_at_most (used x))

  pub free_uncounted : (x : ℕ) → 1 ≤ x → x ≤ n → used x ≡ false → count x ps ≡ 0
  free_uncounted x a b f = p.once x a b ∙ ap one f

  pub counted_used : (x : ℕ) → 0 < count x ps → used x ≡ true
  counted_used x g =
      by_test (used x) (λ t. t) (λ f. let r = p.range x g in absurd (omega (arith, free_uncounted x r.0 r.1 f)))

-- THE TEST
once_test : (used : ℕ → Bool) (n : ℕ) (ps : List ℕ) → T (once_or_free used n ps) → (q : ℕ) → 1 ≤ q → q ≤ n → count q ps ≡ cond (used q) 1 0
unfolding once_or_free
once_test used zero ps t q a b = absurd (omega arith)
once_test used (suc n) ps t q a b =
    by_test (eqb q (suc n))
    (λ e. rw (eq_of q (suc n) e) (eqb→eq _ _ (and_left (eqb (count (suc n) ps) (cond (used (suc n)) 1 0)) _ t)))
    (λ e. let k : (q ≡ suc n → ⊥) = ne_of q (suc n) e in once_test used n ps (and_right (eqb (count (suc n) ps) (cond (used (suc n)) 1 0)) _ t) q a (omega arith))

test_once : (used : ℕ → Bool) (n : ℕ) (ps : List ℕ) → ((q : ℕ) → 1 ≤ q → q ≤ n → count q ps ≡ cond (used q) 1 0) → T (once_or_free used n ps)
unfolding once_or_free
test_once used zero ps f = tt
test_once used (suc n) ps f =
    and_both (eqb (count (suc n) ps) (cond (used (suc n)) 1 0)) _ (T_of (eq_yes _ _ (f (suc n) (omega arith) (omega arith)))) (test_once used n ps (λ q a b. f q a (omega arith)))

range_test : (n : ℕ) (ps : List ℕ) → T (all (within 1 n) ps) → All (λ q. (1 ≤ q) × (q ≤ n)) ps
unfolding all
range_test n [] t = tt
range_test n (p ∷ ps) t =
    let w = and_left (within 1 n p) _ t in
    ((leb→le 1 p (and_left (leb 1 p) _ w), leb→le p n (and_right (leb 1 p) _ w)), range_test n ps (and_right (within 1 n p) _ t))

test_range : (n : ℕ) (ps : List ℕ) → All (λ q. (1 ≤ q) × (q ≤ n)) ps → T (all (within 1 n) ps)
unfolding all
test_range n [] a = tt
test_range n (p ∷ ps) a = and_both (within 1 n p) _ (and_both (leb 1 p) _ (le→leb 1 p a.0.0) (le→leb p n a.0.1)) (test_range n ps a.1)

pub placed_places : (used : ℕ → Bool) (n : ℕ) (ps : List ℕ) → T (placed used n ps) → Places used n ps
unfolding placed
placed_places used n ps t =
    record {
      once = once_test used n ps (and_right (all (within 1 n) ps) _ t);
      range = counted_all (λ q. (1 ≤ q) × (q ≤ n)) ps (range_test n ps (and_left (all (within 1 n) ps) _ t));
    }

pub places_placed : (used : ℕ → Bool) (n : ℕ) (ps : List ℕ) → Places used n ps → T (placed used n ps)
unfolding placed
places_placed used n ps p =
    and_both (all (within 1 n) ps) _ (test_range n ps (all_counted (λ q. (1 ≤ q) × (q ≤ n)) ps p.range)) (test_once used n ps p.once)
