-- What the calls do with one seat by value, and the number of a round.
-- Assumes nothing.
use Rattle.std.specs.Prelude.{ℕ, ◌+◌, ◌*◌, ◌-◌, ◌≡◌, Bool, not, ◌&&◌, cond, List, [], ◌∷◌, ltb, eqb, get_or, Result, Ok, Err}
use Rattle.words.specs.Lists.{first_no}
use Rattle.regions.specs.Limits.{buffer_words, last_account, most_a_round, pair_width}
use Rattle.regions.specs.Numbers.{SEAT, ACCOUNT, LIMIT, DESK, unless, image_first}
use Rattle.regions.specs.Desk.{closed, opened, open_at, state_open, state_limit}
use Rattle.regions.specs.declared.Kind.{Kind}
use Rattle.regions.specs.declared.Mark.{Mark}
use Rattle.regions.specs.declared.Mark.TheVariants.{Last}
use Rattle.regions.specs.declared.Open.{Open}
use Rattle.regions.specs.declared.State.{State}
use Rattle.regions.specs.declared.Seat.{Seat}
use Rattle.regions.specs.declared.Refusal.{Refusal}

-- the seat that an answer leaves: the new one, or on a refusal the one that was there
abbrev pub seat_left : Seat → Result Seat Refusal → Seat
seat_left s (Ok t) = t
seat_left s (Err _) = s

-- OPENING one seat: its number behind the tests of the desk and of i, and the seat afterwards
abbrev pub opens_no : State → ℕ → ℕ → ℕ
opens_no t a l = first_no ((state_open t, SEAT) ∷ (ltb last_account a, ACCOUNT) ∷ (ltb most_a_round l, LIMIT) ∷ [])

pub record Opens (s : Seat) (a : ℕ) (k : Kind) (l number : ℕ) (s' : Seat) : Type 0 where
  pub number_is : number ≡ opens_no s.state a l
  pub seat_is : s' ≡ unless number (opened a k l) s

-- CLOSING one
abbrev pub closes_no : State → ℕ
closes_no t = first_no ((not (state_open t), SEAT) ∷ [])

pub record Closes (s : Seat) (number : ℕ) (s' : Seat) : Type 0 where
  pub number_is : number ≡ closes_no s.state
  pub seat_is : s' ≡ unless number closed s

-- A ROUND'S number: images, desk, words of the buffer
abbrev pub rounds_no : Bool → Bool → ℕ → ℕ
rounds_no images desk words = image_first images (first_no ((not (desk && eqb words buffer_words), DESK) ∷ []))

-- the mark behind n pairs that stand as words from `first` on, by the last one's words 0 and 2
unfoldable pub mark_read : Mark → List ℕ → ℕ → ℕ → Mark
mark_read m ws first n = cond (eqb n 0) m (Last (get_or ws (first + pair_width * (n - 1)) 0) (get_or ws (first + pair_width * (n - 1) + 2) 0))

-- an open seat with another mark
abbrev pub moved : Open → Mark → Seat
moved o m = open_at (record { account = o.account; kind = o.kind; limit = o.limit; mark = m })

-- A PART asked of one seat
abbrev pub asked_no : State → ℕ → ℕ
asked_no t n = first_no ((not (state_open t), SEAT) ∷ (ltb (state_limit t) n, LIMIT) ∷ [])
