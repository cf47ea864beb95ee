-- What is counted beside an image, from save to save: the regions that each account holds.
-- Assumes nothing.
use Rattle.std.specs.Prelude.{ℕ, ◌<◌, ◌≡◌, List, length, get_or}
use Rattle.regions.specs.Limits.{account_count}
use Rattle.regions.specs.Sets.{held_by}
use Rattle.image.specs.Read.{set_of}

-- the held regions of the sixteen accounts are counted
abbrev pub Counted : List ℕ → List ℕ → Type 0
Counted held w = (length held ≡ account_count) × ((a : ℕ) → a < account_count → get_or held a 0 ≡ held_by a (set_of w))
