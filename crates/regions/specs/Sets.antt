-- Document 01, "Calls", of what they are made on: a set, which is sixteen shares and the regions held, in ascending start. What it holds, what a save and a delete leave of it.
-- Assumes nothing.
use Rattle.std.specs.Prelude.{ℕ, Bool, not, List, [], ◌∷◌, ◌++◌, leb, ltb, eqb, length, get_or}
use Rattle.words.specs.Lists.{filter, some}
use Rattle.regions.specs.Positions.{account, crosses, contradicts}
use Rattle.regions.specs.declared.Region.{Region}

pub record Set : Type 0 where
  pub shares : List ℕ
  pub regions : List Region

-- the set that an opening leaves
abbrev pub empty_set : List ℕ → Set
empty_set shares = record { shares = shares; regions = [] }

-- a region of an account; the set with one account's regions only
unfoldable pub of : ℕ → Region → Bool
of a r = eqb (account r.start) a

abbrev pub only : ℕ → Set → Set
only a S = record { shares = S.shares; regions = filter (of a) S.regions }

-- how many regions an account holds, and its share
abbrev pub held_by : ℕ → Set → ℕ
held_by a S = length (filter (of a) S.regions)

abbrev pub share_of : ℕ → Set → ℕ
share_of a S = get_or S.shares a 0

-- some region of the set starts there; some region of the set is crossed; the level of some region of the set is contradicted
unfoldable pub is_at : ℕ → Region → Bool
is_at s r = eqb r.start s

abbrev pub held_at : ℕ → Set → Bool
held_at s S = some (filter (is_at s) S.regions)

abbrev pub crossed : Region → Set → Bool
crossed r S = some (filter (crosses r) S.regions)

abbrev pub contradicted : Region → Set → Bool
contradicted r S = some (filter (contradicts r) S.regions)

-- SAVE: the region stands behind those that start before it and before those that start behind it
unfoldable pub starts_before : ℕ → Region → Bool
starts_before s r = ltb r.start s

unfoldable pub starts_behind : ℕ → Region → Bool
starts_behind s r = ltb s r.start

-- (at a position or behind it: what a walk that begins there has ahead)
unfoldable pub starts_from : ℕ → Region → Bool
starts_from s r = leb s r.start

unfoldable pub saved : Region → Set → Set
saved r S =
    record {
      shares = S.shares;
      regions = filter (starts_before r.start) S.regions ++ r ∷ filter (starts_behind r.start) S.regions;
    }

-- DELETE: all but the region with that start
abbrev pub is_not_at : ℕ → Region → Bool
is_not_at s r = not (is_at s r)

unfoldable pub deleted : ℕ → Set → Set
deleted s S = record { shares = S.shares; regions = filter (is_not_at s) S.regions }
