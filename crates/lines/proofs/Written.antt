-- Lines as they are written: what is read from one is what was written.
-- Assumes nothing.
use Prim.Native.Nat.{ℕ, ◌≤◌}
use mathlib.Core.Path.{◌≡◌, refl, sym, ap, ◌∙◌}
use mathlib.Core.Bool.{Bool, true, false}
use mathlib.Core.List.{List, [], ◌∷◌, ◌++◌, append_assoc}
use lib.ListN.{length, drop}
use native.Mathlib.Omega.{arith}
use Rattle.words.specs.Lists.{All}
use Rattle.words.proofs.Tests.{of_T, by_test, eq_no}
use Rattle.words.proofs.Listed.{all_mono, all_append}
use Rattle.words.proofs.Says.{Says, says_iff, and_says, all_says, eq_says}
use Rattle.lines.specs.Text.{is_digit, is_newline, is_break, decimal, spaced, line, pieces, lines_of, in_front, first_of, value, numbers_of, is_line}
use Rattle.lines.proofs.Digits.{digit_of, value_on, value_stop, decimal_value, decimal_all, same_says, small_says}

-- A TEXT IN PIECES: the first of them, and what follows
first_in : (b : ℕ) (ps : List (List ℕ)) → first_of (in_front b ps) ≡ b ∷ first_of ps
unfolding first_of in_front
first_in b [] = refl
first_in b (p ∷ ps) = refl

module _ (cut : ℕ → Bool) where
  -- a text begins with its first piece
  pub first_front : (text : List ℕ) → text ≡ first_of (pieces cut text) ++ drop (length (first_of (pieces cut text))) text
  unfolding pieces first_of
  first_front [] = refl
  first_front (b ∷ bs) = by_test (cut b) (λ t. rw t) (λ t. rw (t, first_in) (ap (b ∷◌) (first_front bs)))

  -- and goes on with the other pieces
  pub pieces_on : (text : List ℕ) → 1 ≤ length text → pieces cut text ≡ first_of (pieces cut text) ∷ pieces cut (drop (length (first_of (pieces cut text))) text)
  unfolding pieces first_of in_front
  pieces_on [] h = absurd (omega arith)
  pieces_on (b ∷ []) h = by_test (cut b) (λ t. rw t) (λ t. rw t)
  pieces_on (b ∷ c ∷ cs) h = by_test (cut b) (λ t. rw t) (λ t. rw (t, first_in) (ap (in_front b) (pieces_on (c ∷ cs) (omega arith))))

  -- bytes without a cut in front of a text
  pub first_on : (xs ys : List ℕ) → All (λ b. cut b ≡ false) xs → first_of (pieces cut (xs ++ ys)) ≡ xs ++ first_of (pieces cut ys)
  unfolding pieces
  first_on [] ys h = refl
  first_on (x ∷ xs) ys h = rw (h.0, first_in) (ap (x ∷◌) (first_on xs ys h.1))

  -- and with one behind them
  piece_cut : (xs : List ℕ) (b : ℕ) (ys : List ℕ) → All (λ c. cut c ≡ false) xs → cut b ≡ true → pieces cut (xs ++ (b ∷ ys)) ≡ (xs ++ (b ∷ [])) ∷ pieces cut ys
  unfolding pieces in_front
  piece_cut [] b ys h t = rw t
  piece_cut (x ∷ xs) b ys h t = rw (h.0, piece_cut xs b ys h.1 t)

-- NUMBERS WITH THEIR BREAKS
abbrev pub Small : List ℕ → Type 0
Small ns = All (λ n. n ≤ 4294967295) ns

-- a digit is no break
digit_breaks : (b : ℕ) → is_digit b ≡ true → is_break b ≡ false
unfolding is_break is_newline
digit_breaks b h = let u = digit_of b h in rw (eq_no b 32 (λ e. omega arith), eq_no b 10 (λ e. omega arith))

digit_ends : (b : ℕ) → is_digit b ≡ true → is_newline b ≡ false
unfolding is_newline
digit_ends b h = let u = digit_of b h in eq_no b 10 (λ e. omega arith)

pub decimal_breaks : (n : ℕ) → All (λ b. is_break b ≡ false) (decimal n)
decimal_breaks n = all_mono (λ b h. digit_breaks b h) (decimal n) (decimal_all n)

pub decimal_ends : (n : ℕ) → All (λ b. is_newline b ≡ false) (decimal n)
decimal_ends n = all_mono (λ b h. digit_ends b h) (decimal n) (decimal_all n)

-- a number and its break in front of a text
pub numbers_cut : (n b : ℕ) (ys : List ℕ) → n ≤ 4294967295 → is_break b ≡ true → is_digit b ≡ false → numbers_of (decimal n ++ (b ∷ ys)) ≡ n ∷ numbers_of ys
numbers_cut n b ys h c d =
    rw (piece_cut is_break (decimal n) b ys (decimal_breaks n) c)
    (ap (◌∷ numbers_of ys) (value_on 0 (decimal n) (b ∷ []) (decimal_all n) ∙ value_stop (value (decimal n)) b [] d ∙ decimal_value n h))

-- a line of more than one number, and of one
pub line_more : (n m : ℕ) (ms : List ℕ) → line (n ∷ m ∷ ms) ≡ decimal n ++ (32 ∷ line (m ∷ ms))
unfolding line spaced
line_more n m ms = append_assoc (decimal n) (32 ∷ spaced (m ∷ ms)) (10 ∷ [])

pub line_one : (n : ℕ) → line (n ∷ []) ≡ decimal n ++ (10 ∷ [])
unfolding line spaced
line_one n = refl

pub space_breaks : (is_break 32 ≡ true) × (is_digit 32 ≡ false) × (is_newline 32 ≡ false)
unfolding is_break is_digit is_newline
space_breaks = (refl, refl, refl)

pub newline_breaks : (is_break 10 ≡ true) × (is_digit 10 ≡ false) × (is_newline 10 ≡ true)
unfolding is_break is_digit is_newline
newline_breaks = (refl, refl, refl)

numbers_back : (n : ℕ) (ns : List ℕ) → Small (n ∷ ns) → numbers_of (line (n ∷ ns)) ≡ n ∷ ns
unfolding pieces
numbers_back n [] h = ap numbers_of (line_one n) ∙ numbers_cut n 10 [] h.0 newline_breaks.0 newline_breaks.1
numbers_back n (m ∷ ms) h =
    ap numbers_of (line_more n m ms) ∙ numbers_cut n 32 (line (m ∷ ms)) h.0 space_breaks.0 space_breaks.1 ∙ ap (n ∷◌) (numbers_back m ms h.1)

-- what `is_line` decides
pub record Lined (k : ℕ) (l : List ℕ) : Type 0 where
  pub written : l ≡ line (numbers_of l)
  pub bounded : Small (numbers_of l)
  pub many : length (numbers_of l) ≡ k

pub line_says : (k : ℕ) (l : List ℕ) → Says (is_line k l) (Lined k l)
unfolding is_line
line_says k l =
    says_iff (and_says (same_says l (line (numbers_of l))) (and_says (all_says small_says (numbers_of l)) (eq_says (length (numbers_of l)) k)))
    (λ m. record { written = m.0; bounded = m.1.0; many = m.1.1 })
    (λ m. (m.written, (m.bounded, m.many)))

pub lined_back : (n : ℕ) (ns : List ℕ) → Small (n ∷ ns) → is_line (length (n ∷ ns)) (line (n ∷ ns)) ≡ true
lined_back n ns h =
    let e = numbers_back n ns h in
    of_T _ ((line_says _ _).so_yes (record { written = ap line (sym e); bounded = rw e h; many = ap length e }))

spaced_ends : (ns : List ℕ) → All (λ b. is_newline b ≡ false) (spaced ns)
unfolding spaced
spaced_ends [] = tt
spaced_ends (n ∷ []) = decimal_ends n
spaced_ends (n ∷ m ∷ ms) = all_append _ (decimal n) (32 ∷ spaced (m ∷ ms)) (decimal_ends n) (space_breaks.2, spaced_ends (m ∷ ms))

lines_back : (ns text : List ℕ) → lines_of (line ns ++ text) ≡ line ns ∷ lines_of text
unfolding line
lines_back ns text = ap lines_of (append_assoc (spaced ns) (10 ∷ []) text) ∙ piece_cut is_newline (spaced ns) 10 text (spaced_ends ns) newline_breaks.2

-- A LINE THAT WAS WRITTEN IS READ BACK: its numbers are those that were written, it is a line of so many, and the lines of a text behind it follow
pub line_back : (ns : List ℕ) → 1 ≤ length ns → Small ns
    → (numbers_of (line ns) ≡ ns) × (is_line (length ns) (line ns) ≡ true) × ((text : List ℕ) → lines_of (line ns ++ text) ≡ line ns ∷ lines_of text)
line_back [] g h = absurd (omega arith)
line_back (n ∷ ns) g h = (numbers_back n ns h, lined_back n ns h, lines_back (n ∷ ns))
