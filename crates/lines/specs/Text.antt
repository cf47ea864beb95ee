-- Document 01, "The listing and its program": numbers as text. Decimal, no leading zeros, one space between them, each line ended by a newline.
-- One definition for both directions: a line is written by `line`, and read bytes are a line where they are the `line` of the numbers that stand in them.
-- Assumes nothing.
use Rattle.std.specs.Prelude.{ℕ, zero, suc, ◌+◌, ◌-◌, ◌*◌, ◌/◌, ◌%◌, Bool, true, false, ◌&&◌, ◌||◌, cond, List, [], ◌∷◌, ◌++◌, map, leb, ltb, eqb, length}
use Rattle.words.specs.Lists.{all}

-- the bytes between numbers and at the end of a line, and a digit
abbrev pub space : ℕ
space = 32

abbrev pub newline : ℕ
newline = 10

unfoldable pub is_digit : ℕ → Bool
is_digit b = leb 48 b && leb b 57

unfoldable pub is_newline : ℕ → Bool
is_newline b = eqb b newline

unfoldable pub is_break : ℕ → Bool
is_break b = eqb b space || is_newline b

-- the largest number that a line may have
abbrev pub most : ℕ
most = 4294967295

-- WRITTEN: a number in at most so many digits, none of them a leading zero. The largest number takes ten
unfoldable pub digits : ℕ → ℕ → List ℕ
digits zero n = []
digits (suc k) n = cond (ltb n 10) ((48 + n) ∷ []) (digits k (n / 10) ++ ((48 + n % 10) ∷ []))

unfoldable pub decimal : ℕ → List ℕ
decimal n = digits 10 n

-- numbers with one space between, and as a line
unfoldable pub spaced : List ℕ → List ℕ
spaced [] = []
spaced (n ∷ []) = decimal n
spaced (n ∷ m ∷ ns) = decimal n ++ (space ∷ spaced (m ∷ ns))

unfoldable pub line : List ℕ → List ℕ
line ns = spaced ns ++ (newline ∷ [])

-- READ: a text in pieces, cut behind every byte that passes a test
unfoldable pub in_front : ℕ → List (List ℕ) → List (List ℕ)
in_front b [] = (b ∷ []) ∷ []
in_front b (p ∷ ps) = (b ∷ p) ∷ ps

unfoldable pub pieces : (ℕ → Bool) → List ℕ → List (List ℕ)
pieces cut [] = []
pieces cut (b ∷ bs) = cond (cut b) ((b ∷ []) ∷ pieces cut bs) (in_front b (pieces cut bs))

-- its lines, each with the newline that ends it; what stands behind the last newline is a line that lacks one
abbrev pub lines_of : List ℕ → List (List ℕ)
lines_of text = pieces is_newline text

-- the first line; empty, and so in no form, where there is none
unfoldable pub first_of : List (List ℕ) → List ℕ
first_of [] = []
first_of (l ∷ ls) = l

unfoldable pub rest_of : List (List ℕ) → List (List ℕ)
rest_of [] = []
rest_of (l ∷ ls) = ls

-- what the digits in front make, behind those that made v
unfoldable pub value_from : ℕ → List ℕ → ℕ
value_from v [] = v
value_from v (b ∷ bs) = cond (is_digit b) (value_from (10 * v + (b - 48)) bs) v

abbrev pub value : List ℕ → ℕ
value bs = value_from 0 bs

-- the numbers that stand in a line, if it is one
abbrev pub numbers_of : List ℕ → List ℕ
numbers_of l = map value (pieces is_break l)

-- the same bytes
unfoldable pub same : List ℕ → List ℕ → Bool
same [] [] = true
same [] (y ∷ ys) = false
same (x ∷ xs) [] = false
same (x ∷ xs) (y ∷ ys) = eqb x y && same xs ys

unfoldable pub small : ℕ → Bool
small n = leb n most

-- a number by itself: bytes that are its decimal
unfoldable pub is_number : List ℕ → Bool
is_number bs = same bs (decimal (value bs)) && small (value bs)

-- a line of k numbers: the line of the numbers that stand in it, which are k and none too large
unfoldable pub is_line : ℕ → List ℕ → Bool
is_line k l = same l (line (numbers_of l)) && (all small (numbers_of l) && eqb (length (numbers_of l)) k)
