-- The regions that reach a position from the left, and what the innermost of them says of a crossing and of levels.
-- Assumes nothing.
use Rattle.std.specs.Prelude.{ℕ, Bool, false, ◌&&◌, List, [], ◌∷◌, leb, ltb}
use Rattle.words.specs.Lists.{filter, last_or}
use Rattle.regions.specs.Sets.{Set}
use Rattle.regions.specs.declared.Region.{Region}

-- start < x ≤ end
unfoldable pub reaches : ℕ → Region → Bool
reaches x r = ltb r.start x && leb x r.end

abbrev pub reach : ℕ → Set → List Region
reach x S = filter (reaches x) S.regions

-- of regions that lie one in the other, in ascending start: the last, as a list of none or one
unfoldable pub innermost : List Region → List Region
innermost [] = []
innermost (x ∷ xs) = last_or x xs ∷ []

-- of none or one region: it ends at or before e; it starts behind s; its level is l or above
unfoldable pub ends_by : ℕ → List Region → Bool
ends_by e [] = false
ends_by e (r ∷ rs) = leb r.end e

unfoldable pub starts_past : ℕ → List Region → Bool
starts_past s [] = false
starts_past s (r ∷ rs) = ltb s r.start

unfoldable pub level_from : ℕ → List Region → Bool
level_from l [] = false
level_from l (r ∷ rs) = leb l r.level
