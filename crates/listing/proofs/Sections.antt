-- The section of regions: the first line that is refused ends it.
-- Assumes nothing.
use Prim.Native.Nat.{ℕ}
use mathlib.Core.Path.{◌≡◌}
use mathlib.Core.List.{List}
use lib.Dec.{T}
use Rattle.image.specs.Read.{set_of}
use Rattle.image.specs.Valid.{valid}
use Rattle.form.specs.Form.{section, region_no, saved_line}
use Rattle.form.specs.Steps.{place_at, heard}
use Rattle.listing.specs.Steps.{RegionsRead}

-- SHARES read, or refused at their count or at a line
module _ (text : List ℕ) (line at : ℕ) where
  pub regions_refused : (n k j : ℕ) (w w' : List ℕ) → section region_no saved_line 500 (set_of w) (place_at text line at) ≡ heard n k (set_of w', place_at text k j) → (n ≡ 0 → ⊥) → T (valid w')
      → RegionsRead text line at w n k j w'
  regions_refused n k j w w' e h v = record { is = e; goes = λ z. absurd (h z); stays_valid = v }
