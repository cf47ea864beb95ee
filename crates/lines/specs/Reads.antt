-- What the readers and the writer of lines promise.
-- Assumes nothing.
use Rattle.std.specs.Prelude.{ℕ, ◌+◌, ◌≡◌, true, false, List, length, take, drop}
use Rattle.std.proofs.lemmas.List.Edits.{sets}
use Rattle.words.specs.Lists.{take_while}
use Rattle.lines.specs.Text.{is_digit, value, is_number, lines_of, first_of, numbers_of, is_line, line}

-- the digits from place `at` of a text on, where they are no number
abbrev pub NoNumber : List ℕ → ℕ → Type 0
NoNumber text at = is_number (take_while is_digit (drop at text)) ≡ false

-- where they are one: which, and where they end
pub record ReadsNumber (text : List ℕ) (at : ℕ) (n next : ℕ) : Type 0 where
  pub is : is_number (take_while is_digit (drop at text)) ≡ true
  pub number : n ≡ value (take_while is_digit (drop at text))
  pub ends : next ≡ at + length (take_while is_digit (drop at text))

-- the line from place `at` of a text on, where it is none of k numbers
abbrev pub NoLine : List ℕ → ℕ → ℕ → Type 0
NoLine text at k = is_line k (first_of (lines_of (drop at text))) ≡ false

-- where it is one: which numbers, and where the next line stands
pub record ReadsLine (text : List ℕ) (at k : ℕ) (ns : List ℕ) (next : ℕ) : Type 0 where
  pub is : is_line k (first_of (lines_of (drop at text))) ≡ true
  pub numbers : take k ns ≡ numbers_of (first_of (lines_of (drop at text)))
  pub ends : next ≡ at + length (first_of (lines_of (drop at text)))

-- the line of the first k of the given numbers, from place `at` of a buffer on; its other bytes stay
pub record PutsLine (out : List ℕ) (at k : ℕ) (ns : List ℕ) (next : ℕ) (out' : List ℕ) : Type 0 where
  pub put : out' ≡ sets out at (line (take k ns))
  pub ends : next ≡ at + length (line (take k ns))
