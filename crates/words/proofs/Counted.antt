-- How often a number stands in a list, and sums over the numbers 1 to n: that a place is used once or free is said by numbers, and `omega` does the rest.
-- Assumes nothing.
use Prim.Native.Nat.{ℕ, zero, suc, ◌+◌, ◌≤◌, ◌<◌, zero-le}
use mathlib.Core.Path.{◌≡◌, refl, sym, ap, ◌∙◌}
use mathlib.Core.Logic.{◌≢◌}
use mathlib.Core.Bool.{Bool, true, false, cond}
use mathlib.Core.List.{List, [], ◌∷◌, ◌++◌}
use native.Mathlib.Omega.{arith}
use lib.Dec.{T, eqb}
use lib.ListN.{length}
use Rattle.words.specs.Lists.{All, filter, count, sum_to}
use Rattle.words.proofs.Tests.{by_test, eq_yes, eq_no, eq_of, ne_of}

-- 1 where the test holds, else 0
abbrev pub one : Bool → ℕ
one b = cond b 1 0

pub one_at_most : (b : Bool) → one b ≤ 1
one_at_most true = omega arith
one_at_most false = omega arith

pub count_append : (x : ℕ) (ys zs : List ℕ) → count x (ys ++ zs) ≡ count x ys + count x zs
unfolding count
count_append x [] zs = omega arith
count_append x (y ∷ ys) zs = omega (arith, count_append x ys zs)

pub count_same : (x : ℕ) (ys : List ℕ) → count x (x ∷ ys) ≡ 1 + count x ys
unfolding count
count_same x ys = rw (eq_yes x x refl)

pub count_other : (x y : ℕ) (ys : List ℕ) → x ≢ y → count x (y ∷ ys) ≡ count x ys
unfolding count
count_other x y ys h = rw (eq_no x y h) (omega arith)

-- a list of none, of one, of one more
pub count_nil : (x : ℕ) → count x [] ≡ 0
unfolding count
count_nil x = refl

pub count_one : (x y : ℕ) → x ≡ y → count x (y ∷ []) ≡ 1
unfolding count
count_one x y e = rw e (count_same y [])

pub count_not : (x y : ℕ) → x ≢ y → count x (y ∷ []) ≡ 0
unfolding count
count_not x y n = count_other x y [] n

pub count_cons : (x y : ℕ) (ys : List ℕ) → count x (y ∷ ys) ≡ count x (y ∷ []) + count x ys
unfolding count
count_cons x y ys = omega arith

-- x does not stand in a list: it is not the first, and not in the rest
pub count_none : (x y : ℕ) (ys : List ℕ) → count x (y ∷ ys) ≡ 0 → (y ≢ x) × (count x ys ≡ 0)
unfolding count
count_none x y ys h = (λ e. ne e, omega arith)
  where
    ne : y ≡ x → ⊥
    ne e = omega (arith, ap one (eq_yes x y (sym e)))

pub count_more : (x y : ℕ) (ys : List ℕ) → count x ys ≤ count x (y ∷ ys)
unfolding count
count_more x y ys = omega arith

-- what holds of all other numbers holds of a list in which x does not stand
pub all_off : (P : ℕ → Type 0) (x : ℕ) (ys : List ℕ) → count x ys ≡ 0 → ((y : ℕ) → y ≢ x → P y) → All P ys
all_off P x [] h f = tt
all_off P x (y ∷ ys) h f = let n = count_none x y ys h in (f y n.0, all_off P x ys n.1 f)

pub sum_same : (f g : ℕ → ℕ) (n : ℕ) → ((i : ℕ) → 1 ≤ i → i ≤ n → f i ≡ g i) → sum_to f n ≡ sum_to g n
unfolding sum_to
sum_same f g zero h = refl
sum_same f g (suc n) h = omega (arith, h (suc n) (omega arith) (omega arith), sum_same f g n (λ i a b. h i a (omega arith)))

pub sum_le : (f g : ℕ → ℕ) (n : ℕ) → ((i : ℕ) → 1 ≤ i → i ≤ n → f i ≤ g i) → sum_to f n ≤ sum_to g n
unfolding sum_to
sum_le f g zero h = omega arith
sum_le f g (suc n) h = omega (arith, h (suc n) (omega arith) (omega arith), sum_le f g n (λ i a b. h i a (omega arith)))

-- sums that are equal though no term is greater: each term is equal
pub sum_tight : (f g : ℕ → ℕ) (n : ℕ) → ((i : ℕ) → 1 ≤ i → i ≤ n → f i ≤ g i) → sum_to f n ≡ sum_to g n → (i : ℕ) → 1 ≤ i → i ≤ n → f i ≡ g i
unfolding sum_to
sum_tight f g zero h e i a b = absurd (omega arith)
sum_tight f g (suc n) h e i a b =
    let u = h (suc n) (omega arith) (omega arith) in
    let v = sum_le f g n (λ j c d. h j c (omega arith)) in
    by_test (eqb i (suc n))
    (λ t. let q = eq_of i (suc n) t in rw q (omega arith))
    (λ t. let q : (i ≡ suc n → ⊥) = ne_of i (suc n) t in sum_tight f g n (λ j c d. h j c (omega arith)) (omega arith) i a (omega arith))

pub sum_add : (f g : ℕ → ℕ) (n : ℕ) → sum_to (λ i. f i + g i) n ≡ sum_to f n + sum_to g n
unfolding sum_to
sum_add f g zero = refl
sum_add f g (suc n) = omega (arith, sum_add f g n)

sum_none : (x n : ℕ) → n < x → sum_to (λ i. one (eqb i x)) n ≡ 0
unfolding sum_to
sum_none x zero h = refl
sum_none x (suc n) h = rw (eq_no (suc n) x (omega arith)) (omega (arith, sum_none x n (omega arith)))

-- a number in range counts once
sum_one : (x n : ℕ) → 1 ≤ x → x ≤ n → sum_to (λ i. one (eqb i x)) n ≡ 1
unfolding sum_to
sum_one x zero a b = absurd (omega arith)
sum_one x (suc n) a b = by (eqb (suc n) x) refl (λ u. sum_one x n a u)
  where
    by : (t : Bool) → eqb (suc n) x ≡ t → (x ≤ n → sum_to (λ i. one (eqb i x)) n ≡ 1) → one (eqb (suc n) x) + sum_to (λ i. one (eqb i x)) n ≡ 1
    by true e r = rw e (omega (arith, sum_none x n (omega (arith, eq_of (suc n) x e))))
    by false e r = let ne : suc n ≢ x = ne_of (suc n) x e in rw e (omega (arith, r (omega arith)))

sum_zero : (n : ℕ) → sum_to (λ i. 0) n ≡ 0
unfolding sum_to
sum_zero zero = refl
sum_zero (suc n) = omega (arith, sum_zero n)

-- the counts of the numbers 1 to n add up to the length
pub sum_count : (ys : List ℕ) (n : ℕ) → All (λ y. (1 ≤ y) × (y ≤ n)) ys → sum_to (λ i. count i ys) n ≡ length ys
unfolding count
sum_count [] n h = sum_zero n
sum_count (y ∷ ys) n h = sum_add (λ i. one (eqb i y)) (λ i. count i ys) n ∙ omega (arith, sum_one y n h.0.0 h.0.1, sum_count ys n h.1)

-- numbers f 1 .. f n that sum to less than n: one of them is 0
pub pigeon : (f : ℕ → ℕ) (n : ℕ) → sum_to f n < n → (i : ℕ) × (1 ≤ i) × (i ≤ n) × (f i ≡ 0)
unfolding sum_to
pigeon f zero h = absurd (omega arith)
pigeon f (suc n) h = by (f (suc n)) refl (λ u. pigeon f n u)
  where
    by : (k : ℕ) → f (suc n) ≡ k → (sum_to f n < n → (i : ℕ) × (1 ≤ i) × (i ≤ n) × (f i ≡ 0)) → (i : ℕ) × (1 ≤ i) × (i ≤ suc n) × (f i ≡ 0)
    by zero e r = (suc n, omega arith, omega arith, e)
    by (suc k) e r = let x = r (omega arith) in (x.0, x.1, omega (arith, x.2), x.3)

pub sum_at_most : (f : ℕ → ℕ) (n : ℕ) → ((i : ℕ) → f i ≤ 1) → sum_to f n ≤ n
unfolding sum_to
sum_at_most f zero h = zero-le
sum_at_most f (suc n) h = omega (arith, h (suc n), sum_at_most f n h)

-- of three tests that exclude each other and each imply a fourth, at most one holds, and then the fourth does
pub one_of_three : (p q r s : Bool) → (T p → T s) → (T q → T s) → (T r → T s) → (T p → T q → ⊥) → (T p → T r → ⊥) → (T q → T r → ⊥) → one p + one q + one r ≤ one s
one_of_three true true r s a b c d e f = absurd (d tt tt)
one_of_three true false true s a b c d e f = absurd (e tt tt)
one_of_three true false false true a b c d e f = omega arith
one_of_three true false false false a b c d e f = absurd (a tt)
one_of_three false true true s a b c d e f = absurd (f tt tt)
one_of_three false true false true a b c d e f = omega arith
one_of_three false true false false a b c d e f = absurd (b tt)
one_of_three false false true true a b c d e f = omega arith
one_of_three false false true false a b c d e f = absurd (c tt)
one_of_three false false false s a b c d e f = omega arith

-- how many of a list pass a test: element by element
module _ {A : Type 0} where
  filter_cons : (p : A → Bool) (x : A) (xs : List A) → length (filter p (x ∷ xs)) ≡ one (p x) + length (filter p xs)
  unfolding filter
  filter_cons p x xs = by_test (p x) (λ h. rw h (omega arith)) (λ h. rw h (omega arith))

  pub filter_short : (p : A → Bool) (xs : List A) → length (filter p xs) ≤ length xs
  unfolding filter
  filter_short p [] = omega arith
  filter_short p (x ∷ xs) = omega (arith, filter_cons p x xs, one_at_most (p x), filter_short p xs)

  pub filter_three : (p q r s : A → Bool) → ((x : A) → one (p x) + one (q x) + one (r x) ≤ one (s x)) → (xs : List A)
      → length (filter p xs) + length (filter q xs) + length (filter r xs) ≤ length (filter s xs)
  unfolding filter
  filter_three p q r s f [] = omega arith
  filter_three p q r s f (x ∷ xs) =
      let n = filter_three p q r s f xs in
      let m = f x in
      omega (arith, filter_cons p x xs, filter_cons q x xs, filter_cons r x xs, filter_cons s x xs)
