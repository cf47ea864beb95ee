-- Numbers and lines as they are put into a buffer: what is left to put there, from the last digit to the first, and from the first number to the last.
-- Assumes nothing.
use Prim.Native.Nat.{ℕ, zero, suc, ◌+◌, ◌-◌, ◌*◌, ◌/◌, ◌%◌, ◌≤◌, ◌<◌}
use mathlib.Core.Path.{◌≡◌, refl, sym, ap, ap₂, ◌∙◌}
use mathlib.Core.List.{List, [], ◌∷◌, ◌++◌}
use lib.Dec.{ltb}
use lib.ListN.{length, take, drop, get_or, set, length-append, length-take, length-drop, length-set, drop_of_length-le}
use lib.Seq.{sets, length-sets, drop-cons, get_or-take}
use native.Mathlib.Omega.{arith}
use native.Mathlib.Numerals.{add-one}
use native.Mathlib.Nat.{div-div-eq-div-mul, div-eq_of_lt, le-div_iff_mul-le, div-le_self}
use Rattle.words.proofs.Tests.{by_test, lt_of, nlt_of}
use Rattle.words.proofs.Written.{set_beside, sets_append}
use Rattle.lines.specs.Text.{digits, decimal, line}
use Rattle.lines.specs.Reads.{PutsLine}
use Rattle.lines.specs.Breaks.{break_behind}
use Rattle.lines.proofs.Digits.{decimal_few, decimal_one, decimal_ten}
use Rattle.lines.proofs.Written.{line_more, line_one}

-- DIGITS: the last k of a number
unfoldable pub last_digits : ℕ → ℕ → List ℕ
last_digits zero n = []
last_digits (suc k) n = last_digits k (n / 10) ++ ((48 + n % 10) ∷ [])

last_all : (k n : ℕ) → last_digits (length (digits k n)) n ≡ digits k n
unfolding digits last_digits
last_all zero n = refl
last_all (suc k) n =
    by_test (ltb n 10)
    (λ t. let u = lt_of n 10 t in let e : n % 10 ≡ n = omega arith in rw (t, e))
    (λ t. rw (t, length-append, add-one) (ap (◌++ ((48 + n % 10) ∷ [])) (last_all k (n / 10))))

pub decimal_last : (n : ℕ) → last_digits (length (decimal n)) n ≡ decimal n
unfolding decimal
decimal_last n = last_all 10 n

last_long : (k n : ℕ) → length (last_digits k n) ≡ k
unfolding last_digits
last_long zero n = refl
last_long (suc k) n = length-append (last_digits k (n / 10)) _ ∙ omega (arith, last_long k (n / 10))

-- the last digit, and then those in front of it
pub last_put : (out : List ℕ) (at i n b : ℕ) → at < i → b ≡ 48 + n % 10 → sets (set out (i - 1) b) at (last_digits (i - 1 - at) (n / 10)) ≡ sets out at (last_digits (i - at) n)
unfolding last_digits
last_put out at i n b h e =
    let k = i - 1 - at in
    let xs = last_digits k (n / 10) in
    let long = last_long k (n / 10) in
    let all : suc k ≡ i - at = omega arith in
    sym (set_beside xs out at (i - 1) b (λ j j< z. omega arith))
    ∙ sets_append out at (i - 1) xs (b ∷ []) (omega arith)
    ∙ ap (λ c. sets out at (xs ++ (c ∷ []))) e
    ∙ ap (λ j. sets out at (last_digits j n)) all

-- HOW MANY digits a number takes: one, and those of its tenth, unless that is 0
unfoldable pub front : ℕ → ℕ
front zero = 0
front (suc r) = length (decimal (suc r))

front_some : (r : ℕ) → 1 ≤ r → front r ≡ length (decimal r)
unfolding front
front_some zero h = absurd (omega arith)
front_some (suc r) h = refl

front_first : (n : ℕ) → n ≤ 4294967295 → length (decimal n) ≡ 1 + front (n / 10)
unfolding front
front_first n h =
    by_test (ltb n 10)
    (λ t. let u = lt_of n 10 t in let e : n / 10 ≡ 0 = omega arith in ap length (decimal_one n u) ∙ ap (λ r. 1 + front r) (sym e))
    (λ t. let u = nlt_of n 10 t in ap length (decimal_ten n u h) ∙ length-append (decimal (n / 10)) _ ∙ omega (arith, front_some (n / 10) (omega arith)))

-- k digits were counted, down to a power of ten
pub record Placed (n k power : ℕ) : Type 0 where
  pub least : 10 ≤ power
  pub count : length (decimal n) ≡ k + front (n / power)

pub placed_first : (n : ℕ) → n ≤ 4294967295 → Placed n 1 10
placed_first n h = record { least = omega arith; count = front_first n h }

pub placed_next : (n k power : ℕ) → n ≤ 4294967295 → power ≤ n → Placed n k power → Placed n (k + 1) (power * 10)
placed_next n k power h l p =
    let f = p.least in
    let r = n / power in
    let some : 1 ≤ r = (le-div_iff_mul-le {k = power} (omega arith)).1 (omega arith) in
    let tenth : r / 10 ≡ n / (power * 10) = div-div-eq-div-mul n power 10 in
    record {
      least = omega arith;
      count = p.count ∙ omega (arith, front_some r some, front_first r (omega (arith, div-le_self n power)), ap front tenth);
    }

pub placed_last : (n k power : ℕ) → n < power → Placed n k power → k ≡ length (decimal n)
unfolding front
placed_last n k power l p = sym (p.count ∙ ap (λ r. k + front r) (div-eq_of_lt l) ∙ omega arith)

-- LINES: what is left to put, where so many numbers are left
unfoldable pub line_left : List ℕ → List ℕ
line_left [] = []
line_left (n ∷ ns) = line (n ∷ ns)

left_first : (n : ℕ) (ns : List ℕ) → line_left (n ∷ ns) ≡ decimal n ++ (break_behind (length ns) ∷ line_left ns)
unfolding line_left break_behind
left_first n [] = line_one n
left_first n (m ∷ ms) = line_more n m ms

pub record Putting (out₀ : List ℕ) (at k : ℕ) (ns out : List ℕ) (place i : ℕ) : Type 0 where
  pub put : sets out place (line_left (drop i (take k ns))) ≡ sets out₀ at (line (take k ns))
  pub ends : place + length (line_left (drop i (take k ns))) ≡ at + length (line (take k ns))
  pub long : length out ≡ length out₀
  pub room : place + 11 * (k - i) ≤ length out₀

pub putting_first : (out : List ℕ) (at k : ℕ) (ns : List ℕ) → 1 ≤ k → 1 ≤ length ns → at + 11 * k ≤ length out → Putting out at k ns out at 0
unfolding line_left
putting_first out at zero ns g h r = absurd (omega arith)
putting_first out at (suc k) [] g h r = absurd (omega arith)
putting_first out at (suc k) (n ∷ ns) g h r = record { put = refl; ends = refl; long = refl; room = omega arith }

pub putting_last : (out₀ : List ℕ) (at k : ℕ) (ns out : List ℕ) (place : ℕ) → Putting out₀ at k ns out place k → PutsLine out₀ at k ns place out
unfolding line_left
putting_last out₀ at k ns out place p =
    let e : drop k (take k ns) ≡ [] = drop_of_length-le (take k ns) {i = k} (simp length-take (omega arith)) in
    record {
      put = ap (λ l. sets out place (line_left l)) (sym e) ∙ p.put;
      ends = omega arith ∙ ap (λ l. place + length (line_left l)) (sym e) ∙ p.ends;
    }

module _ (out₀ : List ℕ) (at k : ℕ) (ns out : List ℕ) (place i : ℕ) (p : Putting out₀ at k ns out place i) (l : i < k) (m : k ≤ length ns) where
  next : drop i (take k ns) ≡ get_or ns i 0 ∷ drop (i + 1) (take k ns)
  next = drop-cons (take k ns) i 0 (simp length-take (omega arith)) ∙ ap₂ ◌∷◌ (get_or-take k ns i 0 l) (ap (λ j. drop j (take k ns)) (sym (add-one i)))

  behind : length (drop (i + 1) (take k ns)) ≡ k - (i + 1)
  behind = simp (length-drop, length-take) (omega arith)

  -- the number was put, and its break is
  module _ (out' : List ℕ) (to n : ℕ) (e : n ≡ get_or ns i 0) (f : out' ≡ sets out place (decimal n)) (g : to ≡ place + length (decimal n)) where
    long' : length out' ≡ length out₀
    long' = ap length f ∙ length-sets out place (decimal n) ∙ p.long

    pub putting_room : to < length out'
    putting_room = let r = p.room in let w = long' in omega (arith, decimal_few n)

    pub putting_next : (b : ℕ) → b ≡ break_behind (k - (i + 1)) → Putting out₀ at k ns (set out' to b) (to + 1) (i + 1)
    putting_next b h =
        let rest = drop (i + 1) (take k ns) in
        let whole : line_left (drop i (take k ns)) ≡ decimal n ++ (b ∷ line_left rest) =
        ap line_left next
        ∙ left_first (get_or ns i 0) rest
        ∙ ap₂ (λ d j. decimal d ++ (break_behind j ∷ line_left rest)) (sym e) behind
        ∙ ap (λ c. decimal n ++ (c ∷ line_left rest)) (sym h) in
        record {
          put =
              ap₂ (λ l j. sets (set l to b) j (line_left rest)) f (add-one to)
              ∙ sets_append out place to (decimal n) (b ∷ line_left rest) g
              ∙ ap (λ x. sets out place x) (sym whole)
              ∙ p.put;
          ends = omega (arith, g, ap length whole, length-append (decimal n) (b ∷ line_left rest)) ∙ p.ends;
          long = length-set out' to b ∙ long';
          room = omega (arith, p.room, decimal_few n);
        }
