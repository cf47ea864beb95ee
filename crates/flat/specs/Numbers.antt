-- Kinds, marks and seats in plain numbers, as whoever has only numbers to hand hands them over: a program in C, or a script.
-- Assumes nothing.
use Rattle.std.specs.Prelude.{ℕ, cond, eqb}
use Rattle.regions.specs.Desk.{closed, open_at}
use Rattle.regions.specs.declared.Choice.{Choice}
use Rattle.regions.specs.declared.Choice.TheVariants.{Strict, WithSelf}
use Rattle.regions.specs.declared.Kind.{Kind}
use Rattle.regions.specs.declared.Kind.TheVariants.{Ancestor, Parent, AncestorOrSelf}
use Rattle.regions.specs.declared.Mark.{Mark}
use Rattle.regions.specs.declared.Mark.TheVariants.{Fresh, Last}
use Rattle.regions.specs.declared.Seat.{Seat}

-- 0 is by ancestor, 2 by ancestor or self, all else by parent
unfoldable pub kind_of : ℕ → Kind
kind_of k = cond (eqb k 0) Ancestor (cond (eqb k 2) AncestorOrSelf Parent)

-- 0 is strict, all else with self
unfoldable pub choice_of_number : ℕ → Choice
choice_of_number n = cond (eqb n 0) Strict WithSelf

unfoldable pub kind_number : Kind → ℕ
kind_number Ancestor = 0
kind_number Parent = 1
kind_number AncestorOrSelf = 2

unfoldable pub mark_of : ℕ → ℕ → ℕ → Mark
mark_of marked a d = cond (eqb marked 0) Fresh (Last a d)

-- closed where opened is 0, and then the other six mean nothing
unfoldable pub seat_of_numbers : ℕ → ℕ → ℕ → ℕ → ℕ → ℕ → ℕ → Seat
seat_of_numbers opened account kind limit marked a d =
    cond (eqb opened 0) closed (open_at (record { account = account; kind = kind_of kind; limit = limit; mark = mark_of marked a d }))
