-- Numbers and their digits: what stands in a decimal, and which digits are one.
-- Assumes nothing.
use Prim.Native.Nat.{ℕ, zero, suc, ◌+◌, ◌-◌, ◌*◌, ◌/◌, ◌%◌, ◌^◌, ◌≤◌, ◌<◌}
use mathlib.Core.Path.{◌≡◌, refl, sym, ap, ap₂, ◌∙◌}
use mathlib.Core.Logic.{◌≢◌}
use mathlib.Core.Bool.{true, false, ◌&&◌}
use mathlib.Core.List.{List, [], ◌∷◌, ◌++◌, append_assoc, append-nil}
use lib.Dec.{T, leb, ltb, eqb}
use lib.ListN.{length, get_or, length-append}
use native.Mathlib.Omega.{arith}
use native.Mathlib.Nat.{pow-suc}
use Rattle.words.specs.Lists.{All}
use Rattle.words.proofs.Tests.{T_of, of_T, off_t, by_test, either, and_left, and_right, and_false, eq_of, eq_yes, lt_of, nlt_of, le_of, lt_yes, lt_no, le_yes, le_no}
use Rattle.words.proofs.Listed.{all_append}
use Rattle.words.proofs.Says.{Says, le_says}
use Rattle.lines.specs.Text.{is_digit, digits, decimal, value_from, value, same, small, is_number}

abbrev pub Digits : List ℕ → Type 0
Digits bs = All (λ b. is_digit b ≡ true) bs

pub digit_of : (b : ℕ) → is_digit b ≡ true → (48 ≤ b) × (b ≤ 57)
unfolding is_digit
digit_of b h =
    let t = T_of h in
    (le_of 48 b (of_T _ (and_left (leb 48 b) (leb b 57) t)), le_of b 57 (of_T _ (and_right (leb 48 b) (leb b 57) t)))

pub digit_yes : (b : ℕ) → 48 ≤ b → b ≤ 57 → is_digit b ≡ true
unfolding is_digit
digit_yes b h k = rw (le_yes 48 b h, le_yes b 57 k)

pub digit_low : (b : ℕ) → b < 48 → is_digit b ≡ false
unfolding is_digit
digit_low b h = rw (le_no 48 b h)

-- VALUES
pub value_step : (v b : ℕ) (bs : List ℕ) → is_digit b ≡ true → value_from v (b ∷ bs) ≡ value_from (10 * v + (b - 48)) bs
unfolding value_from
value_step v b bs h = rw h

pub value_stop : (v b : ℕ) (bs : List ℕ) → is_digit b ≡ false → value_from v (b ∷ bs) ≡ v
unfolding value_from
value_stop v b bs h = rw h

pub value_on : (v : ℕ) (xs ys : List ℕ) → Digits xs → value_from v (xs ++ ys) ≡ value_from (value_from v xs) ys
unfolding value_from
value_on v [] ys h = refl
value_on v (x ∷ xs) ys h = rw h.0 (value_on (10 * v + (x - 48)) xs ys h.1)

-- more digits, no smaller number
pub value_least : (v : ℕ) (bs : List ℕ) → v ≤ value_from v bs
unfolding value_from
value_least v [] = omega arith
value_least v (b ∷ bs) = either (λ n. v ≤ n) (is_digit b) _ _ (λ h. omega (arith, value_least (10 * v + (b - 48)) bs)) (λ h. omega arith)

-- DECIMALS
pub digits_all : (k n : ℕ) → Digits (digits k n)
unfolding digits
digits_all zero n = tt
digits_all (suc k) n =
    either Digits (ltb n 10) _ _
    (λ h. (digit_yes (48 + n) (omega arith) (omega (arith, lt_of n 10 h)), tt))
    (λ h. all_append (λ b. is_digit b ≡ true) (digits k (n / 10)) _ (digits_all k (n / 10)) (digit_yes (48 + n % 10) (omega arith) (omega arith), tt))

pub digits_value : (k n : ℕ) → n < 10 ^ k → value (digits k n) ≡ n
unfolding digits value_from
digits_value zero n h = omega arith
digits_value (suc k) n h =
    by_test (ltb n 10)
    (λ t. rw t (value_step 0 (48 + n) [] (digit_yes (48 + n) (omega arith) (omega (arith, lt_of n 10 t))) ∙ omega arith))
    (λ t. rw t (
    value_on 0 (digits k (n / 10)) ((48 + n % 10) ∷ []) (digits_all k (n / 10))
    ∙ value_step _ (48 + n % 10) [] (digit_yes (48 + n % 10) (omega arith) (omega arith))
    ∙ omega (arith, digits_value k (n / 10) (omega (arith, pow-suc 10 k)))))

pub digits_few : (k n : ℕ) → length (digits k n) ≤ k
unfolding digits
digits_few zero n = omega arith
digits_few (suc k) n =
    by_test (ltb n 10) (λ t. rw t (omega arith)) (λ t. rw t (simp length-append (omega (arith, digits_few k (n / 10)))))

-- the first digit of a number that is not 0 is not 0
lead_on : (xs ys : List ℕ) → get_or xs 0 48 ≢ 48 → get_or (xs ++ ys) 0 48 ≢ 48
lead_on [] ys h = absurd (h refl)
lead_on (x ∷ xs) ys h = h

digits_lead : (k n : ℕ) → 1 ≤ n → n < 10 ^ k → get_or (digits k n) 0 48 ≢ 48
unfolding digits
digits_lead zero n g h = absurd (omega arith)
digits_lead (suc k) n g h =
    by_test (ltb n 10)
    (λ t. rw t (λ e. omega arith))
    (λ t. let u = nlt_of n 10 t in rw t (lead_on (digits k (n / 10)) _ (digits_lead k (n / 10) (omega arith) (omega (arith, pow-suc 10 k)))))

-- a number takes no more digits than it needs
digits_more : (k n : ℕ) → 1 ≤ n → n < 10 ^ k → digits (suc k) n ≡ digits k n
unfolding digits
digits_more zero n g h = absurd (omega arith)
digits_more (suc k) n g h =
    by_test (ltb n 10)
    (λ t. rw t)
    (λ t. let u = nlt_of n 10 t in rw t (ap (◌++ ((48 + n % 10) ∷ [])) (digits_more k (n / 10) (omega arith) (omega (arith, pow-suc 10 k)))))

-- a number of more than one digit: those of its tenth, and the last
pub decimal_ten : (n : ℕ) → 10 ≤ n → n ≤ 4294967295 → decimal n ≡ decimal (n / 10) ++ ((48 + n % 10) ∷ [])
unfolding decimal digits
decimal_ten n g h = rw (lt_no n 10 g) (ap (◌++ ((48 + n % 10) ∷ [])) (sym (digits_more 9 (n / 10) (omega arith) (omega arith))))

-- and of one
pub decimal_one : (n : ℕ) → n < 10 → decimal n ≡ (48 + n) ∷ []
unfolding decimal digits
decimal_one n h = rw (lt_yes n 10 h)

-- one digit more behind a number that is not 0
decimal_grow : (v b : ℕ) → 1 ≤ v → is_digit b ≡ true → 10 * v + (b - 48) ≤ 4294967295 → decimal (10 * v + (b - 48)) ≡ decimal v ++ (b ∷ [])
decimal_grow v b g d h =
    let u = digit_of b d in
    let q : (10 * v + (b - 48)) / 10 ≡ v = omega arith in
    let r : 48 + (10 * v + (b - 48)) % 10 ≡ b = omega arith in
    decimal_ten (10 * v + (b - 48)) (omega arith) h ∙ ap₂ (λ m c. decimal m ++ (c ∷ [])) q r

-- bytes and the same bytes
pub same_of : (xs ys : List ℕ) → T (same xs ys) → xs ≡ ys
unfolding same
same_of [] [] h = refl
same_of [] (y ∷ ys) h = absurd h
same_of (x ∷ xs) [] h = absurd h
same_of (x ∷ xs) (y ∷ ys) h =
    let e = eq_of x y (of_T _ (and_left (eqb x y) (same xs ys) h)) in
    let r = same_of xs ys (and_right (eqb x y) (same xs ys) h) in
    cc

pub same_self : (xs : List ℕ) → same xs xs ≡ true
unfolding same
same_self [] = refl
same_self (x ∷ xs) = rw (eq_yes x x refl, same_self xs)

pub same_says : (xs ys : List ℕ) → Says (same xs ys) (xs ≡ ys)
same_says xs ys = record { yes_so = λ t. same_of xs ys t; so_yes = λ e. rw e (T_of (same_self ys)) }

-- NUMBERS
-- more digits behind a number that is not 0
pub decimal_run : (v : ℕ) (bs : List ℕ) → 1 ≤ v → Digits bs → value_from v bs ≤ 4294967295 → decimal (value_from v bs) ≡ decimal v ++ bs
unfolding value_from
decimal_run v [] g d h = sym (append-nil (decimal v))
decimal_run v (b ∷ bs) g d h =
    let w = 10 * v + (b - 48) in
    let s : value_from v (b ∷ bs) ≡ value_from w bs = value_step v b bs d.0 in
    let f : value_from w bs ≤ 4294967295 = omega arith in
    ap decimal s
    ∙ decimal_run w bs (omega arith) d.1 f
    ∙ ap (◌++ bs) (decimal_grow v b g d.0 (omega (arith, value_least w bs)))
    ∙ append_assoc (decimal v) (b ∷ []) bs

pub decimal_value : (n : ℕ) → n ≤ 4294967295 → value (decimal n) ≡ n
unfolding decimal
decimal_value n h = digits_value 10 n (omega arith)

pub decimal_all : (n : ℕ) → Digits (decimal n)
unfolding decimal
decimal_all n = digits_all 10 n

pub decimal_few : (n : ℕ) → length (decimal n) ≤ 10
unfolding decimal
decimal_few n = digits_few 10 n

pub small_says : (n : ℕ) → Says (small n) (n ≤ 4294967295)
unfolding small
small_says n = le_says n 4294967295

pub number_of_lem : (bs : List ℕ) → is_number bs ≡ true → (bs ≡ decimal (value bs)) × (value bs ≤ 4294967295)
unfolding is_number
number_of_lem bs h =
    let t = T_of h in
    let d = decimal (value bs) in
    (same_of bs d (and_left (same bs d) (small (value bs)) t), (small_says (value bs)).yes_so (and_right (same bs d) (small (value bs)) t))

-- digits are no number: none at all; behind a leading 0
pub number_none : is_number [] ≡ false
unfolding is_number same decimal digits value_from
number_none = refl

pub number_zero : is_number (48 ∷ []) ≡ true
unfolding is_number same decimal digits value_from small is_digit
number_zero = refl

pub number_led : (c : ℕ) (cs : List ℕ) → is_number (48 ∷ c ∷ cs) ≡ false
unfolding decimal digits
number_led c cs = off_t _ (λ t. wrong (of_T _ t))
  where
    alone : (n : ℕ) → 48 ∷ c ∷ cs ≡ decimal n → n ≤ 4294967295 → ⊥
    alone zero e h = omega (arith, ap length e)
    alone (suc n) e h = digits_lead 10 (suc n) (omega arith) (omega arith) (ap (λ l. get_or l 0 48) (sym e))

    wrong : is_number (48 ∷ c ∷ cs) ≡ true → ⊥
    wrong h = let w = number_of_lem (48 ∷ c ∷ cs) h in alone (value (48 ∷ c ∷ cs)) w.0 w.1

-- any others are a number where it is not too large
pub number_run : (b : ℕ) (bs : List ℕ) → Digits (b ∷ bs) → b ≢ 48 → is_number (b ∷ bs) ≡ small (value (b ∷ bs))
unfolding is_number
number_run b bs d ne = by_test (small (value (b ∷ bs))) (λ h. rw h (fits ((small_says _).yes_so (T_of h)))) (λ h. rw (h, and_false))
  where
    v : value_from 0 (b ∷ bs) ≡ value_from (b - 48) bs
    v = value_step 0 b bs d.0 ∙ ap (λ n. value_from n bs) (omega arith)

    fits : value (b ∷ bs) ≤ 4294967295 → (same (b ∷ bs) (decimal (value (b ∷ bs))) && true) ≡ true
    fits h =
        let u = digit_of b d.0 in
        let o : 48 + (b - 48) ≡ b = omega arith in
        let e : decimal (value (b ∷ bs)) ≡ b ∷ bs =
        ap decimal v ∙ decimal_run (b - 48) bs (omega arith) d.1 (omega (arith, v)) ∙ ap (◌++ bs) (decimal_one (b - 48) (omega arith)) ∙ ap (◌∷ bs) o in
        rw (e, same_self (b ∷ bs))

pub number_back : (n : ℕ) → n ≤ 4294967295 → is_number (decimal n) ≡ true
unfolding is_number
number_back n h = rw (decimal_value n h, same_self (decimal n)) (of_T _ ((small_says n).so_yes h))
