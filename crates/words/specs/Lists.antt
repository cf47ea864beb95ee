-- Lists and tests, over any element: the few words in which all other definitions are written.
-- Assumes nothing.
use Rattle.std.specs.Prelude.{ℕ, zero, suc, ◌+◌, ◌≡◌, ◌⊎◌, Bool, true, false, ◌&&◌, cond, List, [], ◌∷◌, eqb}

module _ {A : Type 0} where
  -- those that pass a test, in their order
  unfoldable pub filter : (A → Bool) → List A → List A
  filter p [] = []
  filter p (x ∷ xs) = cond (p x) (x ∷ filter p xs) (filter p xs)

  -- the longest beginning whose elements pass a test, and what follows it
  unfoldable pub take_while : (A → Bool) → List A → List A
  take_while p [] = []
  take_while p (x ∷ xs) = cond (p x) (x ∷ take_while p xs) []

  unfoldable pub drop_while : (A → Bool) → List A → List A
  drop_while p [] = []
  drop_while p (x ∷ xs) = cond (p x) (drop_while p xs) (x ∷ xs)

  -- is there any element
  unfoldable pub some : List A → Bool
  some [] = false
  some (x ∷ xs) = true

  -- does every element pass; does every pair, the earlier one first
  unfoldable pub all : (A → Bool) → List A → Bool
  all p [] = true
  all p (x ∷ xs) = p x && all p xs

  unfoldable pub all_pairs : (A → A → Bool) → List A → Bool
  all_pairs r [] = true
  all_pairs r (x ∷ xs) = all (r x) xs && all_pairs r xs

  -- the same as statements
  abbrev pub All : (A → Type 0) → List A → Type 0
  All P [] = Unit {0}
  All P (x ∷ xs) = P x × All P xs

  abbrev pub Pairs : (A → A → Type 0) → List A → Type 0
  Pairs R [] = Unit {0}
  Pairs R (x ∷ xs) = All (R x) xs × Pairs R xs

  -- an element stands in a list
  abbrev pub In : A → List A → Type 0
  In x [] = ⊥
  In x (y ∷ ys) = (x ≡ y) ⊎ In x ys

  -- the last element, or the one given where there is none
  unfoldable pub last_or : A → List A → A
  last_or d [] = d
  last_or d (x ∷ xs) = last_or x xs

-- how often a number stands in a list
unfoldable pub count : ℕ → List ℕ → ℕ
count n [] = 0
count n (m ∷ ms) = cond (eqb n m) 1 0 + count n ms

-- the sum of a list
unfoldable pub sum : List ℕ → ℕ
sum [] = 0
sum (n ∷ ns) = n + sum ns

-- tests in the order in which they are made, each with its number: the number of the first that holds, 0 where none does
unfoldable pub first_no : List (Bool × ℕ) → ℕ
first_no [] = 0
first_no (t ∷ ts) = cond t.0 t.1 (first_no ts)

-- f 1 + .. + f n
unfoldable pub sum_to : (ℕ → ℕ) → ℕ → ℕ
sum_to f zero = 0
sum_to f (suc n) = f (suc n) + sum_to f n
