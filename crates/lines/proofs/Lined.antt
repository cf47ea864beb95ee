-- Lines as a reader meets them.
-- Assumes nothing.
use Prim.Native.Nat.{ℕ, zero, suc, ◌+◌, ◌-◌, ◌≤◌, ◌<◌}
use mathlib.Core.Path.{◌≡◌, refl, sym, ap, ap₂, ◌∙◌}
use mathlib.Core.Logic.{◌≢◌}
use mathlib.Core.Bool.{Bool, true, false, ◌&&◌, true≢false}
use mathlib.Core.List.{List, [], ◌∷◌, ◌++◌, append_assoc, append-nil}
use lib.Dec.{eqb, eqb-suc-suc}
use lib.ListN.{length, take, drop, get_or, set, length-append}
use lib.Seq.{get_or-append_seam, drop-cons, take-suc-set, append_snoc, drop-drop, get_or-drop}
use native.Mathlib.Omega.{arith}
use native.Mathlib.Numerals.{add-one}
use Rattle.words.specs.Lists.{all, take_while}
use Rattle.words.proofs.Tests.{T_of, of_T, off_t, by_test, and_false, eq_no, eq_yes}
use Rattle.lines.specs.Text.{decimal, spaced, line, pieces, lines_of, first_of, numbers_of, same, small, is_line, is_newline, is_break, is_digit, value, is_number}
use Rattle.lines.specs.Reads.{NoNumber, ReadsNumber, NoLine, ReadsLine}
use Rattle.lines.specs.Breaks.{break_behind}
use Rattle.lines.proofs.Digits.{Digits, small_says, decimal_all, number_of_lem, number_back}
use Rattle.lines.proofs.Runs.{byte_in, run}
use Rattle.lines.proofs.Written.{first_front, pieces_on, first_on, Small, line_says, line_more, line_one, lined_back, numbers_cut, decimal_ends, space_breaks, newline_breaks}

-- nothing is no line
pub no_line : (k : ℕ) → is_line k [] ≡ false
unfolding is_line same line spaced pieces
no_line k = refl

-- a text that begins with a line goes on with the lines behind it
pub lines_on : (k : ℕ) (rest : List ℕ) → is_line k (first_of (lines_of rest)) ≡ true
    → (lines_of rest ≡ first_of (lines_of rest) ∷ lines_of (drop (length (first_of (lines_of rest))) rest)) × (length (first_of (lines_of rest)) ≤ length rest)
unfolding pieces first_of
lines_on k [] h = absurd (true≢false (sym h ∙ no_line k))
lines_on k (b ∷ bs) h =
    let rest = b ∷ bs in
    (pieces_on is_newline rest (omega arith), omega (arith, ap length (first_front is_newline rest), length-append (first_of (lines_of rest)) (drop (length (first_of (lines_of rest))) rest)))

-- WHILE A LINE IS READ: what is left of it where so many numbers are still to come, and whether that is right
unfoldable pub rest_line : ℕ → List ℕ → List ℕ
rest_line zero rest = []
rest_line (suc j) rest = first_of (lines_of rest)

unfoldable pub rest_ok : ℕ → List ℕ → Bool
rest_ok zero rest = true
rest_ok (suc j) rest = is_line (suc j) (first_of (lines_of rest))

break_is : (j : ℕ) → (is_break (break_behind j) ≡ true) × (is_digit (break_behind j) ≡ false)
unfolding break_behind
break_is zero = (newline_breaks.0, newline_breaks.1)
break_is (suc j) = (space_breaks.0, space_breaks.1)

pub break_last : (j : ℕ) → j ≡ 0 → 10 ≡ break_behind j
unfolding break_behind
break_last zero e = refl
break_last (suc j) e = absurd (omega arith)

pub break_more : (j : ℕ) → j ≢ 0 → 32 ≡ break_behind j
unfolding break_behind
break_more zero e = absurd (e refl)
break_more (suc j) e = refl

-- the same bytes in front do not matter
same_front : (xs ys zs : List ℕ) → same (xs ++ ys) (xs ++ zs) ≡ same ys zs
unfolding same
same_front [] ys zs = refl
same_front (x ∷ xs) ys zs = rw (eq_yes x x refl) (same_front xs ys zs)

rest_line_lem : (j n : ℕ) (more : List ℕ) → rest_line (suc j) (decimal n ++ (break_behind j ∷ more)) ≡ decimal n ++ (break_behind j ∷ rest_line j more)
unfolding rest_line break_behind pieces first_of is_newline
rest_line_lem zero n more = first_on is_newline (decimal n) (10 ∷ more) (decimal_ends n)
rest_line_lem (suc j) n more =
    first_on is_newline (decimal n) (32 ∷ more) (decimal_ends n) ∙ ap (decimal n ++◌) (first_on is_newline (32 ∷ []) more (space_breaks.2, tt))

-- a line without its first number
is_line_of : ℕ → List ℕ → List ℕ → Bool
is_line_of k l ns = same l (line ns) && (all small ns && eqb (length ns) k)

less : (j n : ℕ) (l ns : List ℕ) → n ≤ 4294967295 → is_line_of (suc (suc j)) (decimal n ++ (32 ∷ l)) (n ∷ ns) ≡ is_line_of (suc j) l ns
unfolding is_line_of all same
less j n l [] h = rw (eq_no 1 (suc (suc j)) (λ e. omega arith), eq_no 0 (suc j) (λ e. omega arith)) (simp and_false)
less j n l (m ∷ ms) h =
    rw (line_more, same_front, of_T (small n) ((small_says n).so_yes h), eqb-suc-suc (length (m ∷ ms)) (suc j))

line_less : (j n : ℕ) (l : List ℕ) → n ≤ 4294967295 → is_line (suc (suc j)) (decimal n ++ (32 ∷ l)) ≡ is_line (suc j) l
unfolding is_line is_line_of
line_less j n l h =
    ap (is_line_of (suc (suc j)) (decimal n ++ (32 ∷ l))) (numbers_cut n 32 l h space_breaks.0 space_breaks.1) ∙ less j n l (numbers_of l) h

-- a number and its break: the line goes on behind them
pub record Goes (j n : ℕ) (rest more : List ℕ) : Type 0 where
  pub ok : rest_ok (suc j) rest ≡ rest_ok j more
  pub numbers : numbers_of (rest_line (suc j) rest) ≡ n ∷ numbers_of (rest_line j more)
  pub long : length (rest_line (suc j) rest) ≡ length (decimal n) + 1 + length (rest_line j more)

goes_ok : (j n : ℕ) (more : List ℕ) → n ≤ 4294967295 → rest_ok (suc j) (decimal n ++ (break_behind j ∷ more)) ≡ rest_ok j more
unfolding rest_ok rest_line break_behind
goes_ok zero n more h = ap (is_line 1) (rest_line_lem zero n more ∙ sym (line_one n)) ∙ lined_back n [] (h, tt)
goes_ok (suc j) n more h = ap (is_line (suc (suc j))) (rest_line_lem (suc j) n more) ∙ line_less j n (first_of (lines_of more)) h

pub goes_on : (j n : ℕ) (rest more : List ℕ) → n ≤ 4294967295 → rest ≡ decimal n ++ (break_behind j ∷ more) → Goes j n rest more
goes_on j n rest more h e =
    rw e
    (record {
      ok = goes_ok j n more h;
      numbers = ap numbers_of (rest_line_lem j n more) ∙ numbers_cut n (break_behind j) (rest_line j more) h (break_is j).0 (break_is j).1;
      long = ap length (rest_line_lem j n more) ∙ simp length-append (omega arith);
    })

-- a line of numbers begins with the first of them and its break
leads : (j : ℕ) (ns : List ℕ) → length ns ≡ suc j → Small ns → (n : ℕ) × (more : List ℕ) × (n ≤ 4294967295) × (line ns ≡ decimal n ++ (break_behind j ∷ more))
unfolding break_behind
leads j [] e h = absurd (omega arith)
leads zero (n ∷ []) e h = (n, [], h.0, line_one n)
leads zero (n ∷ m ∷ ms) e h = absurd (omega arith)
leads (suc j) (n ∷ []) e h = absurd (omega arith)
leads (suc j) (n ∷ m ∷ ms) e h = (n, line (m ∷ ms), h.0, line_more n m ms)

-- and so does a text that begins with a line
begins : (j : ℕ) (rest : List ℕ) → rest_ok (suc j) rest ≡ true → (n : ℕ) × (more : List ℕ) × (n ≤ 4294967295) × (rest ≡ decimal n ++ (break_behind j ∷ more))
unfolding rest_ok
begins j rest h =
    let first = first_of (lines_of rest) in
    let m = (line_says (suc j) first).yes_so (T_of h) in
    let x = leads j (numbers_of first) m.many m.bounded in
    let behind = drop (length first) rest in (
      x.0,
      x.1 ++ behind,
      x.2,
      first_front is_newline rest ∙ ap (◌++ behind) (m.written ∙ x.3) ∙ append_assoc (decimal x.0) (break_behind j ∷ x.1) behind,
    )

-- THE DIGITS IN FRONT
run_is : (xs : List ℕ) (b : ℕ) (ys : List ℕ) → Digits xs → is_digit b ≡ false → take_while is_digit (xs ++ (b ∷ ys)) ≡ xs
unfolding take_while
run_is [] b ys h d = rw d
run_is (x ∷ xs) b ys h d = rw h.0 (ap (x ∷◌) (run_is xs b ys h.1 d))

run_front : (rest : List ℕ) → rest ≡ take_while is_digit rest ++ drop (length (take_while is_digit rest)) rest
unfolding take_while
run_front [] = refl
run_front (b ∷ bs) = by_test (is_digit b) (λ t. rw t (ap (b ∷◌) (run_front bs))) (λ t. rw t)

run_of : (j n : ℕ) (rest more : List ℕ) → n ≤ 4294967295 → rest ≡ decimal n ++ (break_behind j ∷ more)
    → (is_number (take_while is_digit rest) ≡ true) × (get_or rest (length (take_while is_digit rest)) 0 ≡ break_behind j)
run_of j n rest more h e =
    rw (e, run_is (decimal n) (break_behind j) more (decimal_all n) (break_is j).1) (number_back n h, get_or-append_seam (decimal n) (break_behind j) more 0)

pub begins_run : (j : ℕ) (rest : List ℕ) → rest_ok (suc j) rest ≡ true
    → (is_number (take_while is_digit rest) ≡ true) × (get_or rest (length (take_while is_digit rest)) 0 ≡ break_behind j)
begins_run j rest h = let x = begins j rest h in run_of j x.0 rest x.1 x.2 x.3

pub break_some : (j : ℕ) → 1 ≤ break_behind j
unfolding break_behind
break_some zero = omega arith
break_some (suc j) = omega arith

pub run_begins : (j : ℕ) (rest : List ℕ) → is_number (take_while is_digit rest) ≡ true → get_or rest (length (take_while is_digit rest)) 0 ≡ break_behind j
    → rest ≡ decimal (value (take_while is_digit rest)) ++ (break_behind j ∷ drop (suc (length (take_while is_digit rest))) rest)
run_begins j rest h e =
    let i = length (take_while is_digit rest) in
    run_front rest
    ∙ ap₂ ◌++◌ (number_of_lem (take_while is_digit rest) h).0 (drop-cons rest i 0 (byte_in rest i (omega (arith, e, break_some j))) ∙ ap (◌∷ drop (suc i) rest) e)

-- NUMBER BY NUMBER: i numbers of k were read, and the next stands at `place`
pub record Reading (text : List ℕ) (at k i place : ℕ) (ns : List ℕ) : Type 0 where
  pub decides : is_line k (first_of (lines_of (drop at text))) ≡ rest_ok (k - i) (drop place text)
  pub numbers : numbers_of (first_of (lines_of (drop at text))) ≡ take i ns ++ numbers_of (rest_line (k - i) (drop place text))
  pub ends : at + length (first_of (lines_of (drop at text))) ≡ place + length (rest_line (k - i) (drop place text))

pub reading_first : (text : List ℕ) (at k : ℕ) (ns : List ℕ) → 1 ≤ k → Reading text at k 0 at ns
unfolding rest_ok rest_line
reading_first text at zero ns h = absurd (omega arith)
reading_first text at (suc j) ns h =
    let e : suc j - 0 ≡ suc j = omega arith in
    record { decides = rw e; numbers = rw e; ends = rw e }

pub reading_last : (text : List ℕ) (at k place : ℕ) (ns : List ℕ) → Reading text at k k place ns → ReadsLine text at k ns place
unfolding rest_ok rest_line pieces
reading_last text at k place ns c =
    let e : k - k ≡ 0 = omega arith in
    record {
      is = c.decides ∙ ap (λ j. rest_ok j (drop place text)) e;
      numbers = sym (c.numbers ∙ ap (λ j. take k ns ++ numbers_of (rest_line j (drop place text))) e ∙ append-nil (take k ns));
      ends = sym (c.ends ∙ ap (λ j. place + length (rest_line j (drop place text))) e ∙ omega arith);
    }

module _ (text : List ℕ) (at k i place : ℕ) (ns : List ℕ) (c : Reading text at k i place ns) (l : i < k) where
  left : k - i ≡ suc (k - (i + 1))
  left = omega arith

  fails : (rest_ok (suc (k - (i + 1))) (drop place text) ≡ true → ⊥) → NoLine text at k
  fails f = off_t _ (λ t. f (ap (λ j. rest_ok j (drop place text)) (sym left) ∙ sym c.decides ∙ of_T _ t))

  pub no_number_there : NoNumber text place → NoLine text at k
  no_number_there f = fails (λ t. true≢false (sym (begins_run _ (drop place text) t).0 ∙ f))

  module _ (n next : ℕ) (r : ReadsNumber text place n next) where
    at_next : get_or (drop place text) (length (run text place)) 0 ≡ get_or text next 0
    at_next = get_or-drop place text (length (run text place)) 0 ∙ ap (λ j. get_or text j 0) (sym r.ends)

    pub no_break_there : get_or text next 0 ≢ break_behind (k - (i + 1)) → NoLine text at k
    no_break_there b = fails (λ t. b (sym at_next ∙ (begins_run _ (drop place text) t).1))

    written : run text place ≡ decimal n
    written = (number_of_lem (run text place) r.is).0 ∙ ap decimal (sym r.number)

    goes : get_or text next 0 ≡ break_behind (k - (i + 1)) → Goes (k - (i + 1)) n (drop place text) (drop (next + 1) text)
    goes b =
        let small = (number_of_lem (run text place) r.is).1 in
        let far : place + suc (length (run text place)) ≡ next + 1 = omega (arith, r.ends) in
        let behind = drop-drop (suc (length (run text place))) place text ∙ ap (λ j. drop j text) far in
        goes_on (k - (i + 1)) n (drop place text) (drop (next + 1) text) (omega (arith, small, r.number))
        (run_begins _ (drop place text) r.is (at_next ∙ b)
        ∙ ap₂ (λ m more. decimal m ++ (break_behind (k - (i + 1)) ∷ more)) (sym r.number) behind)

    pub reading_next : i < length ns → get_or text next 0 ≡ break_behind (k - (i + 1)) → Reading text at k (i + 1) (next + 1) (set ns i n)
    reading_next s b =
        let g = goes b in
        let rest = rest_line (k - (i + 1)) (drop (next + 1) text) in
        record {
          decides = c.decides ∙ ap (λ j. rest_ok j (drop place text)) left ∙ g.ok;
          numbers =
              c.numbers
              ∙ ap (λ j. take i ns ++ numbers_of (rest_line j (drop place text))) left
              ∙ ap (take i ns ++◌) g.numbers
              ∙ sym (append_snoc (take i ns) n (numbers_of rest))
              ∙ ap (◌++ numbers_of rest) (sym (take-suc-set ns i n s) ∙ ap (λ j. take j (set ns i n)) (sym (add-one i)));
          ends = c.ends ∙ ap (λ j. place + length (rest_line j (drop place text))) left ∙ omega (arith, g.long, ap length written, r.ends);
        }
