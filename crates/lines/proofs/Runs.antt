-- The digits at a place of a text, as they are read: their number from the first on, and where they end.
-- Assumes nothing.
use Prim.Native.Nat.{ℕ, ◌+◌, ◌-◌, ◌*◌, ◌≤◌, ◌<◌}
use mathlib.Core.Path.{◌≡◌, refl, sym, ap, ◌∙◌}
use mathlib.Core.Logic.{◌≢◌}
use mathlib.Core.Bool.{Bool, true, false}
use mathlib.Core.List.{List, [], ◌∷◌}
use lib.Dec.{ltb}
use lib.ListN.{length, drop, get_or, get_or-eq_default, drop_of_length-le}
use lib.Seq.{drop-cons}
use native.Mathlib.Omega.{arith}
use native.Mathlib.Numerals.{add-one}
use Rattle.words.specs.Lists.{take_while}
use Rattle.words.proofs.Tests.{of_T, off_t, by_test, lt_of, nlt_of}
use Rattle.lines.specs.Text.{is_digit, value_from, value, small, is_number}
use Rattle.lines.specs.Reads.{NoNumber, ReadsNumber}
use Rattle.lines.proofs.Digits.{Digits, digit_of, digit_yes, value_step, value_least, small_says, number_of_lem, number_none, number_zero, number_led, number_run}

-- a byte that is not 0 stands in the text
pub byte_in : (text : List ℕ) (i : ℕ) → 1 ≤ get_or text i 0 → i < length text
byte_in text i h =
    by_test (ltb i (length text)) (λ t. lt_of i (length text) t)
    (λ t. let o = nlt_of i (length text) t in let z : get_or text i 0 ≡ 0 = get_or-eq_default text 0 o in absurd (omega arith))

pub digit_in : (text : List ℕ) (i : ℕ) → is_digit (get_or text i 0) ≡ true → i < length text
digit_in text i d = byte_in text i (omega (arith, digit_of (get_or text i 0) d))

-- the digits from a place on
abbrev pub run : List ℕ → ℕ → List ℕ
run text i = take_while is_digit (drop i text)

pub run_all : (bs : List ℕ) → Digits (take_while is_digit bs)
unfolding take_while
run_all [] = tt
run_all (b ∷ bs) = by_test (is_digit b) (λ t. rw t (t, run_all bs)) (λ t. rw t tt)

pub run_more : (text : List ℕ) (i : ℕ) → is_digit (get_or text i 0) ≡ true → run text i ≡ get_or text i 0 ∷ run text (i + 1)
unfolding take_while
run_more text i d = rw (drop-cons text i 0 (digit_in text i d), add-one, d)

pub run_none : (text : List ℕ) (i : ℕ) → is_digit (get_or text i 0) ≡ false → run text i ≡ []
unfolding take_while
run_none text i d =
    by_test (ltb i (length text))
    (λ t. rw (drop-cons text i 0 (lt_of i (length text) t), d))
    (λ t. rw (drop_of_length-le text (nlt_of i (length text) t)))

-- the digits from `at` to i were read and make v
pub record Counted (text : List ℕ) (at v i : ℕ) : Type 0 where
  pub total : value (run text at) ≡ value_from v (run text i)
  pub ends : at + length (run text at) ≡ i + length (run text i)

pub counted_none : (text : List ℕ) (at : ℕ) → Counted text at 0 at
counted_none text at = record { total = refl; ends = refl }

pub counted_more : (text : List ℕ) (at b v i : ℕ) → b ≡ get_or text i 0 → is_digit b ≡ true → Counted text at v i → Counted text at (10 * v + (b - 48)) (i + 1)
counted_more text at b v i e d c =
    let r = run_more text i (rw e at d) ∙ ap (◌∷ run text (i + 1)) (sym e) in
    record {
      total = c.total ∙ ap (value_from v) r ∙ value_step v b (run text (i + 1)) d;
      ends = c.ends ∙ ap (λ l. i + length l) r ∙ omega arith;
    }

-- NO NUMBER
pub too_large : (text : List ℕ) (at v i : ℕ) → Counted text at v i → 4294967295 < v → NoNumber text at
too_large text at v i c h =
    off_t _ (λ t. omega (arith, (number_of_lem (run text at) (of_T _ t)).1, c.total, value_least v (run text i)))

pub none_there : (text : List ℕ) (at : ℕ) → is_digit (get_or text at 0) ≡ false → NoNumber text at
none_there text at d = ap is_number (run_none text at d) ∙ number_none

zero_run : (text : List ℕ) (at : ℕ) → get_or text at 0 ≡ 48 → run text at ≡ 48 ∷ run text (at + 1)
zero_run text at z = run_more text at (ap is_digit z ∙ digit_yes 48 (omega arith) (omega arith)) ∙ ap (◌∷ run text (at + 1)) z

pub led : (text : List ℕ) (at : ℕ) → get_or text at 0 ≡ 48 → is_digit (get_or text (at + 1) 0) ≡ true → NoNumber text at
led text at z d = ap is_number (zero_run text at z ∙ ap (48 ∷◌) (run_more text (at + 1) d)) ∙ number_led (get_or text (at + 1) 0) (run text (at + 1 + 1))

-- A NUMBER
pub reads_zero : (text : List ℕ) (at : ℕ) → get_or text at 0 ≡ 48 → is_digit (get_or text (at + 1) 0) ≡ false → ReadsNumber text at 0 (at + 1)
unfolding value_from is_digit
reads_zero text at z d =
    let e : run text at ≡ 48 ∷ [] = zero_run text at z ∙ ap (48 ∷◌) (run_none text (at + 1) d) in
    record { is = ap is_number e ∙ number_zero; number = sym (ap value e); ends = omega (arith, ap length e) }

pub reads_all : (text : List ℕ) (at v i : ℕ) → get_or text at 0 ≢ 48 → at ≢ i → v ≤ 4294967295 → Counted text at v i → is_digit (get_or text i 0) ≡ false → ReadsNumber text at v i
unfolding value_from
reads_all text at v i z ne h c d =
    record {
      is = first (is_digit (get_or text at 0)) refl;
      number = sym total;
      ends = omega (arith, c.ends, ap length none);
    }
  where
    none : run text i ≡ []
    none = run_none text i d

    total : value (run text at) ≡ v
    total = c.total ∙ ap (value_from v) none

    first : (t : Bool) → is_digit (get_or text at 0) ≡ t → is_number (run text at) ≡ true
    first true t =
        let e = run_more text at t in
        let l : Digits (get_or text at 0 ∷ run text (at + 1)) = (t, run_all (drop (at + 1) text)) in
        ap is_number e
        ∙ number_run (get_or text at 0) (run text (at + 1)) l z
        ∙ ap (λ l. small (value l)) (sym e)
        ∙ ap small total
        ∙ of_T _ ((small_says v).so_yes h)
    first false t = absurd (ne (omega (arith, c.ends, ap length none, ap length (run_none text at t))))
