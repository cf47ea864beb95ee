-- For C-23: the pairs that a seat is handed from its opening on, round after round, whatever other calls come between.
-- Assumes nothing.
use Rattle.std.specs.Prelude.{ℕ, ◌≡◌, Bool, true, false, not, ◌&&◌, ◌||◌, List, [], ◌∷◌, ◌++◌, eqb, length, get_or}
use Rattle.words.specs.Lists.{filter, All}
use Rattle.regions.specs.Numbers.{DONE}
use Rattle.regions.specs.Calls.{Pair}
use Rattle.regions.specs.Desk.{later, seat_at, handed}
use Rattle.plainruns.specs.Calls.{Which, State, set_of, Call, answer, next, Done}
use Rattle.plainruns.specs.Calls.Call.{save, delete, look, round, open_seat, close_seat, ask_part, ask_part_no, no_batch}
use Rattle.plainruns.specs.Held.{is_which, is_round}

-- the same pair, by its two starts; that pair or one later
unfoldable pub is_pair : Pair → Pair → Bool
is_pair q p = eqb q.a.start p.a.start && eqb q.d.start p.d.start

unfoldable pub reaches : Pair → Pair → Bool
reaches q p = is_pair q p || later q.a.start q.d.start p

-- ONE OPENING of seat i: no call closes the seat
abbrev pub keeps_open : ℕ → Call → Bool
keeps_open i (save w a r) = true
keeps_open i (delete w a p) = true
keeps_open i (look a o) = true
keeps_open i (round u v) = true
keeps_open i (open_seat j a k l) = true
keeps_open i (close_seat j) = not (eqb j i)
keeps_open i (ask_part j n) = true
keeps_open i (ask_part_no j n) = true
keeps_open i (no_batch v ws places) = true

abbrev pub Kept : ℕ → List Call → Type 0
Kept i cs = All (λ c. keeps_open i c ≡ true) cs

-- and every round is over the sets x and y
abbrev pub is_over : Which → Which → Call → Bool
is_over x y (save w a r) = true
is_over x y (delete w a p) = true
is_over x y (look a o) = true
is_over x y (round u v) = is_which u x && is_which v y
is_over x y (open_seat j a k l) = true
is_over x y (close_seat j) = true
is_over x y (ask_part j n) = true
is_over x y (ask_part_no j n) = true
is_over x y (no_batch v ws places) = true

abbrev pub Over : Which → Which → List Call → Type 0
Over x y cs = All (λ c. is_over x y c ≡ true) cs

-- what one call hands seat i, and what some calls do, one after the other
abbrev pub handed_by : ℕ → Call → State → List Pair
handed_by i (save w a r) s = []
handed_by i (delete w a p) s = []
handed_by i (look a o) s = []
handed_by i (round u v) s = handed (set_of u s) (set_of v s) (seat_at s.desk i)
handed_by i (open_seat j a k l) s = []
handed_by i (close_seat j) s = []
handed_by i (ask_part j n) s = []
handed_by i (ask_part_no j n) s = []
handed_by i (no_batch v ws places) s = []

abbrev pub handed_in : ℕ → List Call → State → List Pair
handed_in i [] s = []
handed_in i (c ∷ cs) s = handed_by i c s ++ handed_in i cs (next c s)

-- the words that an answer hands seat i
abbrev pub told_to : ℕ → Done → List ℕ
told_to i d = get_or d.told.shown.hands i []

abbrev pub rounds_in : List Call → ℕ
rounds_in cs = length (filter is_round cs)

-- a save or delete of an account; none of the calls is one that is not refused
abbrev pub touches : ℕ → Call → Bool
touches a (save w b r) = eqb b a
touches a (delete w b p) = eqb b a
touches a (look b o) = false
touches a (round u v) = false
touches a (open_seat j b k l) = false
touches a (close_seat j) = false
touches a (ask_part j n) = false
touches a (ask_part_no j n) = false
touches a (no_batch v ws places) = false

abbrev pub Quiet : ℕ → List Call → State → Type 0
Quiet a [] s = Unit {0}
Quiet a (c ∷ cs) s = (touches a c ≡ true → (answer c s).number ≡ DONE → ⊥) × Quiet a cs (next c s)
