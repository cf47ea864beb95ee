-- Document 01, "Calls": save and delete, their promises.
-- Assumes nothing.
use Rattle.std.specs.Prelude.{ℕ, ◌≡◌, true, List}
use Rattle.regions.specs.Numbers.{image_first}
use Rattle.regions.specs.Sets.{saved, deleted}
use Rattle.regions.specs.Calls.{save_no, delete_no}
use Rattle.regions.specs.declared.Region.{Region}
use Rattle.image.specs.Read.{set_of}
use Rattle.image.specs.Valid.{valid}

-- what is left of an image that a call has changed: a valid one, which means the new set. (Where its pages and records lie, which keys stand, how regions spread, and what stands in words that mean nothing is not said: no answer reads it but a step count)
pub record Saves (w : List ℕ) (account : ℕ) (r : Region) (number : ℕ) (w' : List ℕ) : Type 0 where
  pub number_is : number ≡ image_first (valid w) (save_no (set_of w) account r)
  pub refused : (number ≡ 0 → ⊥) → w' ≡ w
  pub done : number ≡ 0 → (valid w' ≡ true) × (set_of w' ≡ saved r (set_of w))

pub record Deletes (w : List ℕ) (account start : ℕ) (number : ℕ) (w' : List ℕ) : Type 0 where
  pub number_is : number ≡ image_first (valid w) (delete_no (set_of w) account start)
  pub refused : (number ≡ 0 → ⊥) → w' ≡ w
  pub done : number ≡ 0 → (valid w' ≡ true) × (set_of w' ≡ deleted start (set_of w))
