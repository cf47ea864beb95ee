-- What each change of a key's list promises, for every key that the words hold.
-- Assumes nothing.
use Rattle.std.specs.Prelude.{ℕ, ◌+◌, ◌≤◌, List, [], ◌∷◌, ◌++◌, length, take, drop}
use Rattle.words.specs.Lists.{take_while, drop_while, count}
use Rattle.pages.specs.Layout.{record_count}
use Rattle.regions.specs.Positions.{stabs}
use Rattle.regions.specs.declared.Region.{Region}
use Rattle.xrtree.specs.Tree.{Key}
use Rattle.xrtree.specs.Moves.{key_with, moved_places, kept_places, put, out}
use Rattle.pages.specs.declared.KeyWords.{KeyWords}
use Rattle.holding.specs.Held.{KeyHeld}
use Rattle.records.specs.Touched.{Touched, Uses}
use Rattle.records.specs.Ways.{before}
use Rattle.records.specs.declared.Lifted.{Lifted}

-- A REGION CAME in, into a record that was free: `of` says the key by that record's place
pub record Came (w w' : List ℕ) (qs : List ℕ) (of : ℕ → Key) (t : KeyWords) : Type 0 where
  pub place : ℕ
  pub low : 1 ≤ place
  pub high : place ≤ record_count
  pub touched : Touched w w' (place ∷ qs)
  pub uses : Uses w w' (place ∷ []) []
  pub held : KeyHeld w' t (of place)

abbrev pub pushed_key : Key → Region → ℕ → Key
pushed_key k r q = key_with k.key (q ∷ k.places) (r ∷ k.list)

-- the places of a list's beginning whose regions start before s, and of the rest
abbrev pub front_places : ℕ → Key → List ℕ
front_places s k = take (length (take_while (before s) k.list)) k.places

abbrev pub back_places : ℕ → Key → List ℕ
back_places s k = drop (length (take_while (before s) k.list)) k.places

abbrev pub entered_key : Key → Region → ℕ → Key
entered_key k r q = key_with k.key (front_places r.start k ++ q ∷ back_places r.start k) (put r k.list)

-- A REGION WENT, the first that does not start before s
abbrev pub left_key : Key → ℕ → Key
left_key k s = key_with k.key (front_places s k ++ drop 1 (back_places s k)) (out s k.list)

pub record Went (w w' : List ℕ) (k : Key) (s : ℕ) (t : KeyWords) : Type 0 where
  pub touched : Touched w w' k.places
  pub uses : Uses w w' [] (take 1 (back_places s k))
  pub held : KeyHeld w' t (left_key k s)

-- A BEGINNING OF a's LIST, as far as x stabs, went in front of b's list
pub record Lifts (w w' : List ℕ) (a b : Key) (x : ℕ) (t : Lifted) : Type 0 where
  pub touched : Touched w w' a.places
  pub uses : Uses w w' [] []
  pub from_held : KeyHeld w' t.from (key_with a.key (kept_places x a.list a.places) (drop_while (stabs x) a.list))
  pub to_held : KeyHeld w' t.to (key_with b.key (moved_places x a.list a.places ++ b.places) (take_while (stabs x) a.list ++ b.list))

-- no place stands in both lists
abbrev pub Apart : List ℕ → List ℕ → Type 0
Apart ps qs = (q : ℕ) → count q ps + count q qs ≤ 1

-- ALL RECORDS of a list were given back
pub record Dropped (w w' : List ℕ) (qs : List ℕ) : Type 0 where
  pub touched : Touched w w' qs
  pub uses : Uses w w' [] qs
