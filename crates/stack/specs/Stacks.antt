-- The stack of the regions that hold a place: which they are, and how they stand in words.
-- Assumes nothing.
use Rattle.std.specs.Prelude.{ℕ, zero, suc, ◌+◌, ◌*◌, ◌<◌, Bool, ◌&&◌, List, [], ◌∷◌, ◌++◌, ltb, get_or}
use Rattle.words.specs.Lists.{Pairs}
use Rattle.regions.specs.Limits.{most_around, region_width}
use Rattle.regions.specs.declared.Region.{Region}

-- THOSE THAT HOLD A PLACE p: they start before s and end behind p. Strictly s is p, with self p + 1: the first start that comes too late
unfoldable pub holds_up_to : ℕ → ℕ → Region → Bool
holds_up_to s p r = ltb r.start s && ltb p r.end

unfoldable pub ends_behind : ℕ → Region → Bool
ends_behind q r = ltb q r.end

-- regions whose ends fall
abbrev pub Falling : List Region → Type 0
Falling rs = Pairs (λ x y. y.end < x.end) rs

-- IN WORDS: room for as many as can lie around one position. Region number i, and the first n of them, the top last
abbrev pub held_words : ℕ
held_words = region_width * most_around

unfoldable pub region_at : List ℕ → ℕ → Region
region_at ws i = record { start = get_or ws (4 * i) 0; end = get_or ws (4 * i + 1) 0; level = get_or ws (4 * i + 2) 0; reference = get_or ws (4 * i + 3) 0 }

unfoldable pub stacked : List ℕ → ℕ → List Region
stacked ws zero = []
stacked ws (suc n) = stacked ws n ++ region_at ws n ∷ []
