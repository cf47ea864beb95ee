-- Document 01, "Bench examples": its rows P1 to P12 as questions to one set, and the answers it gives.
-- Assumes nothing.
use Rattle.std.specs.Prelude.{ℕ, List, [], ◌∷◌, map}
use Rattle.regions.specs.Sets.{Set}
use Rattle.regions.specs.Numbers.{DONE, HELD, CROSS, unless}
use Rattle.regions.specs.Calls.{point_no, ancestors, parent, bounds_no, descendants, save_no}
use Rattle.regions.specs.declared.Region.{Region}
use Rattle.regions.specs.declared.Choice.TheVariants.{Strict}

abbrev pub region : ℕ → ℕ → ℕ → ℕ → Region
region s e l n = record { start = s; end = e; level = l; reference = n }

-- the listing's outer set: ten regions allowed to account 0, none to the other fifteen
abbrev pub bench_set : Set
bench_set =
    record {
      shares = 10 ∷ 0 ∷ 0 ∷ 0 ∷ 0 ∷ 0 ∷ 0 ∷ 0 ∷ 0 ∷ 0 ∷ 0 ∷ 0 ∷ 0 ∷ 0 ∷ 0 ∷ 0 ∷ [];
      regions = region 10 90 1 101 ∷ region 20 50 2 102 ∷ region 30 40 3 103 ∷ region 60 80 2 104 ∷ [];
    }

-- what a row asks of it, always by account 0
pub data Question : Type 0 where
  ancestors_at : ℕ → Question
  descendants_of : ℕ → ℕ → Question
  parent_at : ℕ → ℕ → Question
  save : ℕ → ℕ → Question

-- a search's number, and the starts of what it lists
abbrev told : ℕ → List Region → List ℕ
told number found = number ∷ unless number (map (λ (r : Region). r.start) found) []

-- a save has its number only; a region's level, where the row names none, is 5
unfoldable pub ask : Question → List ℕ
ask (ancestors_at p) = told (point_no 0 p) (ancestors Strict p bench_set)
ask (descendants_of s e) = told (bounds_no 0 s e) (descendants s e 0 bench_set)
ask (parent_at p l) = told (point_no 0 p) (parent p l bench_set)
ask (save s e) = save_no bench_set 0 (region s e 5 0) ∷ []

-- the table, P1 to P12 in turn: each row's question, and its answer
abbrev pub rows : List (Question × List ℕ)
rows =
    (ancestors_at 35, DONE ∷ 10 ∷ 20 ∷ 30 ∷ []) ∷
    (ancestors_at 30, DONE ∷ 10 ∷ 20 ∷ []) ∷
    (ancestors_at 40, DONE ∷ 10 ∷ 20 ∷ []) ∷
    (ancestors_at 10, DONE ∷ []) ∷
    (ancestors_at 90, DONE ∷ []) ∷
    (descendants_of 10 90, DONE ∷ 20 ∷ 30 ∷ 60 ∷ []) ∷
    (descendants_of 20 50, DONE ∷ 30 ∷ []) ∷
    (parent_at 35 4, DONE ∷ 30 ∷ []) ∷
    (parent_at 35 1, DONE ∷ []) ∷
    (save 30 45, HELD ∷ []) ∷
    (save 45 55, CROSS ∷ []) ∷
    (save 50 55, CROSS ∷ []) ∷
    []

abbrev pub questions : List Question
questions = map (λ (r : Question × List ℕ). r.0) rows

abbrev pub answers : List (List ℕ)
answers = map (λ (r : Question × List ℕ). r.1) rows
