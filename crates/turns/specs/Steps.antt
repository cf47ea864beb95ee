-- What a seat's turn asks and leaves, and what all eight do.
-- Assumes nothing.
use Rattle.std.specs.Prelude.{ℕ, ◌<◌, ◌≡◌, true, List, map, length}
use Rattle.std.proofs.lemmas.List.Edits.{sets}
use Rattle.regions.specs.Limits.{buffer_words, seat_count}
use Rattle.regions.specs.Sets.{Set}
use Rattle.regions.specs.Desk.{open_at, seat_fits, desk_fits, seat_word, turned, handed_words, count_handed, counts, served}
use Rattle.regions.specs.declared.Open.{Open}
use Rattle.regions.specs.declared.Seat.{Seat}
use Rattle.image.specs.Valid.{valid}

-- A SEAT'S TURN: what it asks, and what it leaves
pub record MayTurn (outer inner : List ℕ) (s : Seat) (b : List ℕ) (i : ℕ) : Type 0 where
  pub outer_valid : valid outer ≡ true
  pub inner_valid : valid inner ≡ true
  pub words : length b ≡ buffer_words
  pub seat : i < seat_count
  pub fits : seat_fits s ≡ true

-- an open seat's pairs, from its first word on, and how many they are
pub record Hands (X Y : Set) (o : Open) (b : List ℕ) (i n : ℕ) (b' : List ℕ) : Type 0 where
  pub count : n ≡ count_handed X Y (open_at o)
  pub words : b' ≡ sets b (seat_word i) (handed_words X Y (open_at o))

pub record Turns (X Y : Set) (s : Seat) (b : List ℕ) (i : ℕ) (s' : Seat) (n : ℕ) (b' : List ℕ) : Type 0 where
  pub seat_is : s' ≡ turned X Y s
  pub count_is : n ≡ count_handed X Y s
  pub buffer_is : b' ≡ sets b (seat_word i) (handed_words X Y s)

-- ALL EIGHT TURNS
pub record MayServe (outer inner : List ℕ) (ds : List Seat) (b : List ℕ) : Type 0 where
  pub outer_valid : valid outer ≡ true
  pub inner_valid : valid inner ≡ true
  pub fits : desk_fits ds ≡ true
  pub words : length b ≡ buffer_words

pub record Serves (X Y : Set) (ds : List Seat) (b : List ℕ) (ds' : List Seat) (cs b' : List ℕ) : Type 0 where
  pub desk_is : ds' ≡ map (turned X Y) ds
  pub counts_are : cs ≡ counts X Y ds
  pub buffer_is : b' ≡ served X Y ds b
