-- Document 01, "Calls", of the desk: marks, seats, the round over eight seats and the buffer's words, a part.
-- Assumes nothing.
use Rattle.std.specs.Prelude.{ℕ, suc, ◌*◌, Bool, true, false, not, ◌&&◌, ◌||◌, cond, leb, ltb, eqb, length, take, drop, get_or}
use mathlib.Core.List.{List, [], ◌∷◌, map, flat_map}
use Rattle.std.proofs.lemmas.List.Edits.{sets}
use Rattle.words.specs.Lists.{filter, all, last_or, first_no}
use Rattle.regions.specs.Limits.{buffer_words, house_limit, last_account, last_seat, most_a_round, seat_count, seat_width}
use Rattle.regions.specs.Positions.{account}
use Rattle.regions.specs.Sets.{Set}
use Rattle.regions.specs.Numbers.{ACCOUNT, SEAT, LIMIT, DESK, unless}
use Rattle.regions.specs.Calls.{Pair, joined, pair_words}
use Rattle.regions.specs.declared.Kind.{Kind}
use Rattle.regions.specs.declared.Mark.{Mark}
use Rattle.regions.specs.declared.Mark.TheVariants.{Fresh, Last}
use Rattle.regions.specs.declared.Open.{Open}
use Rattle.regions.specs.declared.State.{State}
use Rattle.regions.specs.declared.State.TheVariants.{Closed, Open as Opened}
use Rattle.regions.specs.declared.Seat.{Seat}

-- MARKS. A pair is later than two starts by the join's order: d's start, then a's
unfoldable pub later : ℕ → ℕ → Pair → Bool
later a d q = ltb d q.d.start || (eqb d q.d.start && ltb a q.a.start)

unfoldable pub is_past : Mark → Pair → Bool
is_past Fresh q = true
is_past (Last a d) q = later a d q

-- what is left past a mark
abbrev pub past : Mark → List Pair → List Pair
past m qs = filter (is_past m) qs

-- the mark behind some handed pairs: the last of them, or as it was
unfoldable pub mark_behind : Mark → List Pair → Mark
mark_behind m [] = m
mark_behind m (q ∷ qs) = Last (last_or q qs).a.start (last_or q qs).d.start

-- SEATS
abbrev pub closed : Seat
closed = record { state = Closed }

abbrev pub open_at : Open → Seat
open_at o = record { state = Opened o }

abbrev pub limit_asked : ℕ → ℕ
limit_asked l = cond (eqb l 0) house_limit l

-- a seat just opened
abbrev pub opened : ℕ → Kind → ℕ → Seat
opened a k l = open_at (record { account = a; kind = k; limit = limit_asked l; mark = Fresh })

-- an open seat's ranges
unfoldable pub mark_fits : ℕ → Mark → Bool
mark_fits a Fresh = true
mark_fits a (Last x y) = eqb (account x) a && eqb (account y) a

unfoldable pub state_fits : State → Bool
state_fits Closed = true
state_fits (Opened o) = (leb o.account last_account && (leb 1 o.limit && leb o.limit most_a_round)) && mark_fits o.account o.mark

abbrev pub seat_fits : Seat → Bool
seat_fits s = state_fits s.state

-- eight seats, and none breaks its ranges; 1,024 words
unfoldable pub desk_fits : List Seat → Bool
desk_fits desk = eqb (length desk) seat_count && all seat_fits desk

unfoldable pub buffer_fits : List ℕ → Bool
buffer_fits buffer = eqb (length buffer) buffer_words

unfoldable pub state_open : State → Bool
state_open Closed = false
state_open (Opened o) = true

abbrev pub is_open : Seat → Bool
is_open s = state_open s.state

unfoldable pub state_limit : State → ℕ
state_limit Closed = 0
state_limit (Opened o) = o.limit

abbrev pub limit_of : Seat → ℕ
limit_of s = state_limit s.state

abbrev pub seat_at : List Seat → ℕ → Seat
seat_at desk i = get_or desk i closed

-- OPENING THE DESK, OPENING AND CLOSING A SEAT, in the order DESK, SEAT, ACCOUNT, LIMIT
unfoldable pub open_desk_no : List Seat → ℕ
open_desk_no desk = first_no ((not (eqb (length desk) seat_count), DESK) ∷ [])

unfoldable pub open_seat_no : List Seat → ℕ → ℕ → ℕ → ℕ
open_seat_no desk i a l =
    first_no ((not (desk_fits desk), DESK) ∷ (ltb last_seat i || is_open (seat_at desk i), SEAT) ∷ (ltb last_account a, ACCOUNT) ∷ (ltb most_a_round l, LIMIT) ∷ [])

unfoldable pub close_seat_no : List Seat → ℕ → ℕ
close_seat_no desk i = first_no ((not (desk_fits desk), DESK) ∷ (ltb last_seat i || not (is_open (seat_at desk i)), SEAT) ∷ [])

-- A SEAT'S TURN: the next pairs past its mark, as many as its limit; the seat afterwards; the count told
unfoldable pub state_handed : Set → Set → State → List Pair
state_handed X Y Closed = []
state_handed X Y (Opened o) = take o.limit (past o.mark (joined X Y o.account o.kind))

abbrev pub handed : Set → Set → Seat → List Pair
handed X Y s = state_handed X Y s.state

unfoldable pub state_turned : Set → Set → State → State
state_turned X Y Closed = Closed
state_turned X Y (Opened o) =
    Opened (record { account = o.account; kind = o.kind; limit = o.limit; mark = mark_behind o.mark (state_handed X Y (Opened o)) })

abbrev pub turned : Set → Set → Seat → Seat
turned X Y s = record { state = state_turned X Y s.state }

abbrev pub handed_words : Set → Set → Seat → List ℕ
handed_words X Y s = flat_map pair_words (handed X Y s)

abbrev pub count_handed : Set → Set → Seat → ℕ
count_handed X Y s = length (handed X Y s)

-- THE ROUND: seat after seat, seat i from word 128 i on; words past those handed stay
abbrev pub seat_word : ℕ → ℕ
seat_word i = seat_width * i

unfoldable pub poured : {X : Type 0} → (Seat → List X) → ℕ → List Seat → List X → List X
poured words i [] buffer = buffer
poured words i (s ∷ desk) buffer = poured words (suc i) desk (sets buffer (seat_word i) (words s))

abbrev pub served : Set → Set → List Seat → List ℕ → List ℕ
served X Y desk buffer = poured (handed_words X Y) 0 desk buffer

abbrev pub counts : Set → Set → List Seat → List ℕ
counts X Y desk = map (count_handed X Y) desk

unfoldable pub round_no : List Seat → List ℕ → ℕ
round_no desk buffer = first_no ((not (desk_fits desk && buffer_fits buffer), DESK) ∷ [])

-- A PART: the seat's words of so many pairs, from its first word on. Tested in the order DESK, SEAT, LIMIT
unfoldable pub part_no : List Seat → List ℕ → ℕ → ℕ → ℕ
part_no desk buffer i n =
    first_no
    ((not (desk_fits desk && buffer_fits buffer), DESK) ∷
    (ltb last_seat i || not (is_open (seat_at desk i)), SEAT) ∷
    (ltb (limit_of (seat_at desk i)) n, LIMIT) ∷
    [])

unfoldable pub part : List Seat → List ℕ → ℕ → ℕ → List ℕ
part desk buffer i n = unless (part_no desk buffer i n) (take (4 * n) (drop (seat_word i) buffer)) []
