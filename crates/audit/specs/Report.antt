-- What the audit of an image says.
-- Assumes nothing.
use Rattle.std.specs.Prelude.{ℕ, ◌<◌, ◌≡◌, Bool, true, List, get_or}
use Rattle.regions.specs.Limits.{account_count}
use Rattle.regions.specs.Sets.{held_by}
use Rattle.image.specs.Read.{set_of}
use Rattle.image.specs.Valid.{valid}

-- valid or not, exactly; and how many regions each account holds
pub record Reports (w : List ℕ) (ok : Bool) (held : List ℕ) : Type 0 where
  pub decides : ok ≡ valid w
  pub counts : valid w ≡ true → (a : ℕ) → a < account_count → get_or held a 0 ≡ held_by a (set_of w)
