-- The desk over the border: its promises in terms of seats told in numbers.
-- Assumes nothing.
use Rattle.std.specs.Prelude.{ℕ, ◌*◌, ◌≡◌, List, map, length, take, drop}
use Rattle.regions.specs.Numbers.{unless}
use Rattle.regions.specs.Desk.{seat_word}
use Rattle.flat.specs.Numbers.{kind_of}
use Rattle.regions.specs.declared.Seat.{Seat}
use Rattle.desk.specs.Promises.{OpensDesk, OpensSeat, ClosesSeat, Rounds, Parts, PartNumber}
use Rattle.flat.specs.declared.FlatSeat.{FlatSeat}
use Rattle.flat.specs.Seats.{seat_of, flat_seat}

-- THE PROMISES. The seats meant are changed as the desk's own promise says, and told in numbers; a refusal leaves all numbers as they were
abbrev pub Left : ℕ → List FlatSeat → List Seat → List FlatSeat → Type 0
Left number fs seats fs' = fs' ≡ unless number (map flat_seat seats) fs

-- whatever stood there
pub record OpensFlatDesk (fs' : List FlatSeat) : Type 0 where
  pub seats : List Seat
  pub opens : (ds : List Seat) → length ds ≡ 8 → OpensDesk ds 0 seats
  pub left : fs' ≡ map flat_seat seats

pub record OpensFlatSeat (fs : List FlatSeat) (i account kind limit number : ℕ) (fs' : List FlatSeat) : Type 0 where
  pub seats : List Seat
  pub opens : OpensSeat (map seat_of fs) i account (kind_of kind) limit number seats
  pub left : Left number fs seats fs'

pub record ClosesFlatSeat (fs : List FlatSeat) (i number : ℕ) (fs' : List FlatSeat) : Type 0 where
  pub seats : List Seat
  pub closes : ClosesSeat (map seat_of fs) i number seats
  pub left : Left number fs seats fs'

pub record RoundsFlat (outer inner : List ℕ) (fs : List FlatSeat) (b : List ℕ) (number : ℕ) (cs : List ℕ) (fs' : List FlatSeat) (b' : List ℕ) : Type 0 where
  pub seats : List Seat
  pub rounds : Rounds outer inner (map seat_of fs) b number cs seats b'
  pub left : Left number fs seats fs'

-- the words from the first on, so many of them, are the part
pub record PartsFlat (fs : List FlatSeat) (b : List ℕ) (i count number first words : ℕ) : Type 0 where
  pub number_is : PartNumber (map seat_of fs) b i count number
  pub part_is : Parts (map seat_of fs) b i count (take words (drop first b))
  pub first_is : first ≡ unless number (seat_word i) 0
  pub words_are : words ≡ unless number (4 * count) 0
