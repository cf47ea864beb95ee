-- What goes over the border in another form than the calls have it: a region as four numbers, and the parent search's answer.
-- Assumes nothing.
use Rattle.std.specs.Prelude.{ℕ, ◌≡◌, Bool, List, [], ◌∷◌, Option, Result}
use Rattle.words.specs.Lists.{some}
use Rattle.regions.specs.Refusals.{number_told}
use Rattle.regions.specs.declared.Region.{Region}
use Rattle.regions.specs.declared.Refusal.{Refusal}
use Rattle.queries.specs.Searches.{FindsParent, parent_found}

abbrev pub region : ℕ → ℕ → ℕ → ℕ → Region
region start end level reference = record { start = start; end = end; level = level; reference = reference }

-- the region that is told of none or one: four zeros for none
unfoldable pub told : List Region → Region
told [] = region 0 0 0 0
told (r ∷ rs) = r

-- the answer of the call itself, and what is told of it: nothing of it is lost
pub record TellsParent (w : List ℕ) (account p level : ℕ) (number : ℕ) (found : Bool) (r : Region) : Type 0 where
  pub answer : Result (Option Region) Refusal
  pub finds : FindsParent w account p level answer
  pub number_is : number ≡ number_told answer
  pub found_is : found ≡ some (parent_found answer)
  pub region_is : r ≡ told (parent_found answer)
