-- A test and the statement that it decides. (A record, so that both can be read off where it is used.)
-- Assumes nothing.
use Prim.Native.Nat.{ℕ, ◌≤◌, ◌<◌, zero, suc}
use mathlib.Core.Path.{◌≡◌, refl, sym, ◌∙◌}
use mathlib.Core.Bool.{Bool, true, ◌&&◌, false, not, ◌||◌}
use mathlib.Core.List.{List, [], ◌∷◌}
use mathlib.Core.Logic.{◌⊎◌, inl, inr}
use lib.Dec.{T, leb, ltb, eqb, leb→le, ltb→lt, le→leb, lt→ltb, eqb→eq, eqb_refl}
use lib.ListN.{length, drop}
use native.Mathlib.Omega.{arith}
use Rattle.words.specs.Lists.{all, all_pairs, All, Pairs, some}
use Rattle.words.proofs.Tests.{both, and_left, and_right, and_both, T_of, of_T, no_t, off_t, T-off, or_cases, or_left, or_right, lt_yes, lt_no}

pub record Says (b : Bool) (M : Type 0) : Type 0 where
  pub yes_so : T b → M
  pub so_yes : M → T b

pub always : Says true (Unit {0})
always = record { yes_so = λ t. t; so_yes = λ t. t }

-- two tests that decide one statement are one
pub says_same : {a b : Bool} {M : Type 0} → Says a M → Says b M → a ≡ b
says_same {a} {b} e f = both a b (λ t. f.so_yes (e.yes_so t)) (λ t. e.so_yes (f.yes_so t))

pub says_iff : {b : Bool} {M N : Type 0} → Says b M → (M → N) → (N → M) → Says b N
says_iff e f g = record { yes_so = λ t. f (e.yes_so t); so_yes = λ n. e.so_yes (g n) }

pub and_says : {a b : Bool} {M N : Type 0} → Says a M → Says b N → Says (a && b) (M × N)
and_says {a} {b} e f =
    record { yes_so = λ t. (e.yes_so (and_left a b t), f.yes_so (and_right a b t)); so_yes = λ m. and_both a b (e.so_yes m.0) (f.so_yes m.1) }

-- the second test may lean on the first
pub then_says : {a b : Bool} {M N : Type 0} → Says a M → (M → Says b N) → Says (a && b) (M × N)
then_says {a} {b} e f =
    record {
      yes_so = λ t. let m = e.yes_so (and_left a b t) in (m, (f m).yes_so (and_right a b t));
      so_yes = λ m. and_both a b (e.so_yes m.0) ((f m.0).so_yes m.1);
    }

pub eq_says : (m n : ℕ) → Says (eqb m n) (m ≡ n)
eq_says m n = record { yes_so = λ t. eqb→eq m n t; so_yes = λ e. rw e (eqb_refl n) }

pub lt_says : (m n : ℕ) → Says (ltb m n) (m < n)
lt_says m n = record { yes_so = λ t. ltb→lt m n t; so_yes = λ e. lt→ltb m n e }

pub le_says : (m n : ℕ) → Says (leb m n) (m ≤ n)
le_says m n = record { yes_so = λ t. leb→le m n t; so_yes = λ e. le→leb m n e }

module _ {A : Type 0} where
  pub all_says : {p : A → Bool} {M : A → Type 0} → ((x : A) → Says (p x) (M x)) → (xs : List A) → Says (all p xs) (All M xs)
  unfolding all
  all_says e [] = always
  all_says e (x ∷ xs) = and_says (e x) (all_says e xs)

  pub pairs_say : {r : A → A → Bool} {M : A → A → Type 0} → ((x y : A) → Says (r x y) (M x y)) → (xs : List A) → Says (all_pairs r xs) (Pairs M xs)
  unfolding all_pairs
  pairs_say e [] = always
  pairs_say e (x ∷ xs) = and_says (all_says (e x) xs) (pairs_say e xs)

-- either test; not the test
pub or_says : {a b : Bool} {M N : Type 0} → Says a M → Says b N → Says (a || b) (M ⊎ N)
or_says {a} {b} {M} {N} e f = record { yes_so = λ t. or_cases a b t (λ u. inl (e.yes_so u)) (λ u. inr (f.yes_so u)); so_yes = back }
  where
    back : M ⊎ N → T (a || b)
    back (inl m) = or_left a b (e.so_yes m)
    back (inr n) = or_right a b (f.so_yes n)

pub not_T : (b : Bool) → T (not b) → T b → ⊥
not_T true t u = t
not_T false t u = u

pub not_says : {a : Bool} {M : Type 0} → Says a M → Says (not a) (M → ⊥)
not_says {a} e = record { yes_so = λ t m. not_T a t (e.so_yes m); so_yes = λ n. T-off (off_t a (λ t. n (e.yes_so t))) }

-- a test that came out, and what it then says
pub true_so : {b : Bool} {M : Type 0} → Says b M → b ≡ true → M
true_so {b} e h = e.yes_so (T_of h)

pub so_true : {b : Bool} {M : Type 0} → Says b M → M → b ≡ true
so_true {b} e m = of_T b (e.so_yes m)

pub false_so : {b : Bool} {M : Type 0} → Says b M → b ≡ false → M → ⊥
false_so e h m = no_t h (e.so_yes m)

pub so_false : {b : Bool} {M : Type 0} → Says b M → (M → ⊥) → b ≡ false
so_false {b} e n = off_t b (λ t. n (e.yes_so t))

-- two tests on numbers that hold together
pub eq_same : (a b c d : ℕ) → (a ≡ b → c ≡ d) → (c ≡ d → a ≡ b) → eqb a b ≡ eqb c d
eq_same a b c d f g = says_same (eq_says a b) (says_iff (eq_says c d) g f)

pub lt_same : (a b c d : ℕ) → (a < b → c < d) → (c < d → a < b) → ltb a b ≡ ltb c d
lt_same a b c d f g = says_same (lt_says a b) (says_iff (lt_says c d) g f)

module _ {A : Type 0} where
  -- something is left behind the first n exactly where there are more than n
  pub some_drop : (n : ℕ) (xs : List A) → some (drop n xs) ≡ ltb n (length xs)
  unfolding some
  some_drop zero [] = refl
  some_drop zero (x ∷ xs) = sym (lt_yes 0 (suc (length xs)) (omega arith))
  some_drop (suc n) [] = sym (lt_no (suc n) 0 (omega arith))
  some_drop (suc n) (x ∷ xs) = some_drop n xs ∙ lt_same n (length xs) (suc n) (suc (length xs)) (λ h. omega arith) (λ h. omega arith)
