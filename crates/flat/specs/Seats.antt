-- A seat as seven numbers: what they mean, and how a seat is told in them.
-- Assumes nothing.
use Rattle.std.specs.Prelude.{ℕ}
use Rattle.regions.specs.declared.Mark.{Mark}
use Rattle.regions.specs.declared.Mark.TheVariants.{Fresh, Last}
use Rattle.regions.specs.declared.Open.{Open}
use Rattle.regions.specs.declared.State.{State}
use Rattle.regions.specs.declared.State.TheVariants.{Closed, Open as Opened}
use Rattle.regions.specs.declared.Seat.{Seat}
use Rattle.flat.specs.Numbers.{kind_number, seat_of_numbers}
use Rattle.flat.specs.declared.FlatSeat.{FlatSeat}

-- WHAT SEVEN NUMBERS MEAN
abbrev pub seat_of : FlatSeat → Seat
seat_of f = seat_of_numbers f.opened f.account f.kind f.limit f.marked f.a f.d

-- A SEAT IN NUMBERS
unfoldable pub flat_marked : ℕ → ℕ → ℕ → Mark → FlatSeat
flat_marked account kind limit Fresh = record { opened = 1; account = account; kind = kind; limit = limit; marked = 0; a = 0; d = 0 }
flat_marked account kind limit (Last a d) = record { opened = 1; account = account; kind = kind; limit = limit; marked = 1; a = a; d = d }

unfoldable pub flat_open : Open → FlatSeat
flat_open o = flat_marked o.account (kind_number o.kind) o.limit o.mark

unfoldable pub flat_state : State → FlatSeat
flat_state Closed = record { opened = 0; account = 0; kind = 0; limit = 0; marked = 0; a = 0; d = 0 }
flat_state (Opened o) = flat_open o

abbrev pub flat_seat : Seat → FlatSeat
flat_seat s = flat_state s.state
