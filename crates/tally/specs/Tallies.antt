-- What a search has counted and written once it has met some regions in turn.
-- Assumes nothing.
use Rattle.std.specs.Prelude.{ℕ, ◌+◌, ◌<◌, ◌≡◌, List, [], ◌∷◌, length, Option, Some, None}
use Rattle.words.specs.Lists.{filter}
use Rattle.regions.specs.declared.Region.{Region}
use Rattle.regions.specs.Limits.{region_width}
use Rattle.regions.specs.Calls.{written, region_words}
use Rattle.answers.specs.Items.{written_from}
use Rattle.tally.specs.declared.Task.{Task}
use Rattle.tally.specs.declared.Tally.{Tally}
use Rattle.tally.specs.Tasks.{accepts}

-- none or one region
unfoldable pub found_list : Option Region → List Region
found_list None = []
found_list (Some a) = a ∷ []

-- the last of some regions, or what was found before
unfoldable pub last_found : Option Region → List Region → Option Region
last_found f [] = f
last_found f (a ∷ rest) = last_found (Some a) rest

-- those that the task accepts of the regions met
abbrev pub taken : Task → List Region → List Region
taken task met = filter (accepts task) met

-- from a tally t and an answer out: the regions rs were met, and n steps were made
pub record Tallied (task : Task) (out : List ℕ) (t : Tally) (rs : List Region) (n : ℕ) (out' : List ℕ) (t' : Tally) : Type 0 where
  pub words : out' ≡ written_from region_words region_width t.total out (taken task rs)
  pub total : t'.total ≡ t.total + length (taken task rs)
  pub steps : t'.steps ≡ t.steps + n
  pub last : t'.last ≡ last_found t.last (taken task rs)

-- one step more
abbrev pub stepped : Tally → Tally
stepped t = record { total = t.total; steps = t.steps + 1; last = t.last }

-- so small that no sum of a search wraps
abbrev pub Small : ℕ → Tally → Type 0
Small more t = (t.total < 1099511627776 + more) × (t.steps < 1099511627776 + more)

-- where a search begins
abbrev pub fresh_tally : Tally
fresh_tally = record { total = 0; steps = 0; last = None }

-- what ancestor search answers: the words, the total, the steps (and its tally's last)
pub record AncestorsFound (found : List Region) (n : ℕ) (out out' : List ℕ) (r : Tally) : Type 0 where
  pub words : out' ≡ written region_words region_width out found
  pub total : r.total ≡ length found
  pub steps : r.steps ≡ n
  pub last : r.last ≡ last_found None found
