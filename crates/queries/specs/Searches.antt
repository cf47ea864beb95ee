-- Document 01, "Calls": the four searches, their promises. None changes an image; each changes only the answer's words, and of those only the ones it writes.
-- Assumes nothing.
use Rattle.std.specs.Prelude.{ℕ, ◌≡◌, Bool, true, false, not, List, [], ◌∷◌, eqb, length, Option, Some, None, Result, Ok, Err}
use Rattle.regions.specs.Numbers.{image_first}
use Rattle.regions.specs.Limits.{region_width}
use Rattle.regions.specs.Calls.{region_words, written, count_written, more_remain, point_no, bounds_no, ancestors, parent, descendants, children}
use Rattle.regions.specs.Refusals.{number_told}
use Rattle.regions.specs.declared.Refusal.{Refusal}
use Rattle.regions.specs.declared.Region.{Region}
use Rattle.regions.specs.declared.Choice.{Choice}
use Rattle.xrtree.specs.Search.{steps}
use Rattle.image.specs.Read.{depth_of, tree_of, set_of}
use Rattle.image.specs.Valid.{valid}
use Rattle.inside.specs.declared.Listing.{Listing}
use Rattle.queries.specs.declared.Ancestors.{Ancestors}

-- the step count reads the image that it is given
abbrev pub step_count : List ℕ → Choice → ℕ → ℕ
step_count w ch p = steps (depth_of w) ch p (tree_of w)

-- what an answer tells: nothing on a refusal
abbrev pub total_told : Result Ancestors Refusal → ℕ
total_told (Ok a) = a.total
total_told (Err _) = 0

abbrev pub steps_told : Result Ancestors Refusal → ℕ
steps_told (Ok a) = a.steps
steps_told (Err _) = 0

abbrev pub count_told : Result Listing Refusal → ℕ
count_told (Ok l) = l.count
count_told (Err _) = 0

abbrev pub more_told : Result Listing Refusal → Bool
more_told (Ok l) = l.more
more_told (Err _) = false

-- by the choice, strict or with self (change request C-17)
pub record FindsAncestors (w : List ℕ) (account p : ℕ) (choice : Choice) (out : List ℕ) (number total steps_made : ℕ) (out' : List ℕ) : Type 0 where
  pub number_is : number ≡ image_first (valid w) (point_no account p)
  pub refused : (number ≡ 0 → ⊥) → (total ≡ 0) × (steps_made ≡ 0) × (out' ≡ out)
  pub done : number ≡ 0
      → (total ≡ length (ancestors choice p (set_of w))) × (steps_made ≡ step_count w choice p) × (out' ≡ written region_words region_width out (ancestors choice p (set_of w)))

-- the parent search's answer: none or one region, and whether it is a refusal
unfoldable pub parent_found : Result (Option Region) Refusal → List Region
parent_found (Err _) = []
parent_found (Ok None) = []
parent_found (Ok (Some r)) = r ∷ []

unfoldable pub is_refusal : Result (Option Region) Refusal → Bool
is_refusal (Err _) = true
is_refusal (Ok None) = false
is_refusal (Ok (Some r)) = false

-- the case of a refusal is told exactly where the number is not 0
pub record FindsParent (w : List ℕ) (account p level : ℕ) (answer : Result (Option Region) Refusal) : Type 0 where
  pub number_is : number_told answer ≡ image_first (valid w) (point_no account p)
  pub refused : (number_told answer ≡ 0 → ⊥) → parent_found answer ≡ []
  pub done : number_told answer ≡ 0 → parent_found answer ≡ parent p level (set_of w)
  pub case_is : is_refusal answer ≡ not (eqb (number_told answer) 0)

-- descendants and children: what they list is rs
pub record Lists (w : List ℕ) (account start end : ℕ) (rs : List Region) (out : List ℕ) (number count : ℕ) (more : Bool) (out' : List ℕ) : Type 0 where
  pub number_is : number ≡ image_first (valid w) (bounds_no account start end)
  pub refused : (number ≡ 0 → ⊥) → (count ≡ 0) × (more ≡ false) × (out' ≡ out)
  pub done : number ≡ 0 → (count ≡ count_written region_width out rs) × (more ≡ more_remain region_width out rs) × (out' ≡ written region_words region_width out rs)

abbrev pub FindsDescendants : List ℕ → ℕ → ℕ → ℕ → ℕ → List ℕ → ℕ → ℕ → Bool → List ℕ → Type 0
FindsDescendants w account start end after out number count more out' =
    Lists w account start end (descendants start end after (set_of w)) out number count more out'

abbrev pub FindsChildren : List ℕ → ℕ → ℕ → ℕ → ℕ → ℕ → List ℕ → ℕ → ℕ → Bool → List ℕ → Type 0
FindsChildren w account start end level after out number count more out' =
    Lists w account start end (children start end level after (set_of w)) out number count more out'
