-- A part by its number: its words, and where they stand in the buffer.
-- Assumes nothing.
use Rattle.std.specs.Prelude.{ℕ, ◌+◌, ◌*◌, ◌≤◌, ◌≡◌, List, [], length, take, drop}
use Rattle.std.specs.Borrow.{Bor}
use Rattle.regions.specs.Limits.{buffer_words, last_seat, most_a_round}
use Rattle.regions.specs.Numbers.{unless}
use Rattle.regions.specs.Desk.{seat_word}

-- a part's words, by the number
abbrev pub part_words : ℕ → List ℕ → ℕ → ℕ → List ℕ
part_words number b i n = unless number (take (4 * n) (drop (seat_word i) b)) []

-- where a lent slice's word w stands: in the slice's own block, 4 bytes a word behind the slice's place
abbrev pub word_at : Bor (List ℕ) → ℕ → ℕ × ℕ
word_at lent w = (lent.ref_ptr.0, lent.ref_ptr.1 + 4 * w)

-- a part by the number: its words, and where they stand in the buffer where it is 0
pub record PartBy (number : ℕ) (buffer : Bor (List ℕ)) (i n : ℕ) (r : Bor (List ℕ)) : Type 0 where
  pub words_are : r.now ≡ part_words number buffer.now i n
  pub place_is : number ≡ 0 → r.ref_ptr ≡ word_at buffer (seat_word i)

-- where the number is 0, the words are there
abbrev pub PartThere : ℕ → List ℕ → ℕ → ℕ → Type 0
PartThere number b i n = number ≡ 0 → (length b ≡ buffer_words) × (i ≤ last_seat) × (n ≤ most_a_round)
