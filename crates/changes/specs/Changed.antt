-- Save and delete on an image that is known to be valid: their promises. (index has the public calls', which test the image first)
-- Assumes nothing.
use Rattle.std.specs.Prelude.{ℕ, ◌≡◌, List, T}
use Rattle.regions.specs.Sets.{saved, deleted}
use Rattle.regions.specs.Calls.{save_no, delete_no}
use Rattle.regions.specs.declared.Region.{Region}
use Rattle.image.specs.Read.{set_of}
use Rattle.image.specs.Valid.{valid}

pub record SavesIn (w : List ℕ) (account : ℕ) (r : Region) (number : ℕ) (w' : List ℕ) : Type 0 where
  pub number_is : number ≡ save_no (set_of w) account r
  pub refused : (number ≡ 0 → ⊥) → w' ≡ w
  pub done : number ≡ 0 → T (valid w') × (set_of w' ≡ saved r (set_of w))

pub record DeletesIn (w : List ℕ) (account start : ℕ) (number : ℕ) (w' : List ℕ) : Type 0 where
  pub number_is : number ≡ delete_no (set_of w) account start
  pub refused : (number ≡ 0 → ⊥) → w' ≡ w
  pub done : number ≡ 0 → T (valid w') × (set_of w' ≡ deleted start (set_of w))
