-- The steps of reading a set into an image, and what each promises.
-- Assumes nothing.
use Rattle.std.specs.Prelude.{ℕ, ◌≡◌, List, T}
use Rattle.regions.specs.Limits.{most_regions}
use Rattle.image.specs.Read.{set_of}
use Rattle.image.specs.Valid.{valid}
use Rattle.form.specs.Form.{section, region_no, saved_line, set_at}
use Rattle.form.specs.Readers.{line_from, Behind}
use Rattle.changes.specs.Counts.{Counted}
use Rattle.form.specs.Steps.{place_at, Stands, heard}

-- one region line: refused with the image as it was, or saved and counted
pub record Takes (text : List ℕ) (at : ℕ) (w : List ℕ) (number next : ℕ) (held' : List ℕ) (w' : List ℕ) : Type 0 where
  pub number_is : number ≡ region_no (set_of w) (line_from text at)
  pub goes : number ≡ 0 → Behind text at next × (set_of w' ≡ saved_line (set_of w) (line_from text at)) × Counted held' w'
  pub stays_valid : T (valid w')

pub record RegionsRead (text : List ℕ) (line at : ℕ) (w : List ℕ) (number line' at' : ℕ) (w' : List ℕ) : Type 0 where
  pub is : section region_no saved_line most_regions (set_of w) (place_at text line at) ≡ heard number line' (set_of w', place_at text line' at')
  pub goes : number ≡ 0 → Stands text line' at'
  pub stays_valid : T (valid w')

pub record SetRead (text : List ℕ) (line at : ℕ) (number line' at' : ℕ) (w' : List ℕ) : Type 0 where
  pub is : set_at (place_at text line at) ≡ heard number line' (set_of w', place_at text line' at')
  pub goes : number ≡ 0 → Stands text line' at' × T (valid w')
