-- Document 01, "Calls": the desk's calls, their promises. Each fixes the answer and every lent word afterwards, refusals included.
-- Assumes nothing.
use Rattle.std.specs.Prelude.{ℕ, ◌≡◌, not, ◌&&◌, List, [], ◌∷◌, ltb, map, set, replicate, Result, Ok, Err}
use Rattle.std.specs.Borrow.{Bor}
use Rattle.words.specs.Lists.{first_no}
use Rattle.regions.specs.Limits.{last_seat}
use Rattle.regions.specs.Numbers.{SEAT, DESK, unless, image_first}
use Rattle.regions.specs.Desk.{closed, opened, desk_fits, turned, counts, served, seat_word, part, open_desk_no, open_seat_no, close_seat_no, round_no, part_no}
use Rattle.regions.specs.declared.Kind.{Kind}
use Rattle.regions.specs.declared.Seat.{Seat}
use Rattle.regions.specs.declared.Refusal.{Refusal}
use Rattle.image.specs.Read.{set_of}
use Rattle.image.specs.Valid.{valid}
use Rattle.parts.specs.Lent.{word_at}

-- the place of seat i among eight that break no range
unfoldable pub place_no : List Seat → ℕ → ℕ
place_no ds i = first_no ((not (desk_fits ds), DESK) ∷ (ltb last_seat i, SEAT) ∷ [])

-- all eight seats are closed, whatever stood there
pub record OpensDesk (ds : List Seat) (number : ℕ) (ds' : List Seat) : Type 0 where
  pub number_is : number ≡ open_desk_no ds
  pub desk_is : ds' ≡ unless number (replicate 8 closed) ds

-- the one seat is opened; its mark starts fresh, limit 0 is the house limit
pub record OpensSeat (ds : List Seat) (i account : ℕ) (kind : Kind) (limit number : ℕ) (ds' : List Seat) : Type 0 where
  pub number_is : number ≡ open_seat_no ds i account limit
  pub desk_is : ds' ≡ unless number (set ds i (opened account kind limit)) ds

pub record ClosesSeat (ds : List Seat) (i number : ℕ) (ds' : List Seat) : Type 0 where
  pub number_is : number ≡ close_seat_no ds i
  pub desk_is : ds' ≡ unless number (set ds i closed) ds

-- the counts that a round's answer tells
abbrev pub counts_told : Result (List ℕ) Refusal → List ℕ
counts_told (Ok cs) = cs
counts_told (Err _) = replicate 8 0

-- IMAGE is tested before DESK; a refused round counts eight times 0 and changes no word
pub record Rounds (outer inner : List ℕ) (ds : List Seat) (b : List ℕ) (number : ℕ) (cs : List ℕ) (ds' : List Seat) (b' : List ℕ) : Type 0 where
  pub number_is : number ≡ image_first (valid outer && valid inner) (round_no ds b)
  pub counts_are : cs ≡ unless number (counts (set_of outer) (set_of inner) ds) (replicate 8 0)
  pub desk_is : ds' ≡ unless number (map (turned (set_of outer) (set_of inner)) ds) ds
  pub buffer_is : b' ≡ unless number (served (set_of outer) (set_of inner) ds b) b

-- a part's words; none where it is refused
pub record Parts (ds : List Seat) (b : List ℕ) (i n : ℕ) (words : List ℕ) : Type 0 where
  pub words_are : words ≡ part ds b i n

-- a part is the lent words themselves, not equal ones elsewhere: it stands in the buffer, at the seat's first word. Of a refused one, which is empty, no place is promised
pub record LendsPart (ds : List Seat) (buffer : Bor (List ℕ)) (i n : ℕ) (r : Bor (List ℕ)) : Type 0 where
  pub part_is : Parts ds buffer.now i n r.now
  pub place_is : part_no ds buffer.now i n ≡ 0 → r.ref_ptr ≡ word_at buffer (seat_word i)

-- the number that a second call tells
pub record PartNumber (ds : List Seat) (b : List ℕ) (i n number : ℕ) : Type 0 where
  pub number_is : number ≡ part_no ds b i n
