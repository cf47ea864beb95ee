-- What each reader of a line promises: a place in the bytes stands for the lines from there on.
-- Assumes nothing.
use Rattle.std.specs.Prelude.{ℕ, ◌<◌, ◌≤◌, ◌≡◌, true, false, List, length, drop}
use Rattle.regions.specs.Limits.{last_account}
use Rattle.regions.specs.declared.Region.{Region}
use Rattle.lines.specs.Text.{lines_of, first_of, rest_of, is_line}
use Rattle.form.specs.Form.{number_at, count_no, Shares, share_no, region_at}

-- the line at a byte, and reading's place there
abbrev pub line_from : List ℕ → ℕ → List ℕ
line_from text at = first_of (lines_of (drop at text))

-- a line read, and the byte behind it
abbrev pub Behind : List ℕ → ℕ → ℕ → Type 0
Behind text at next = (at < next) × (next ≤ length text) × (lines_of (drop next text) ≡ rest_of (lines_of (drop at text)))

pub record CountRead (text : List ℕ) (at most : ℕ) (number count next : ℕ) : Type 0 where
  pub number_is : number ≡ count_no most (line_from text at)
  pub count_is : number ≡ 0 → (count ≡ number_at 0 (line_from text at)) × (count ≤ most)
  pub goes : number ≡ 0 → Behind text at next

pub record ShareRead (text : List ℕ) (at : ℕ) (s : Shares) (number account share next : ℕ) : Type 0 where
  pub number_is : number ≡ share_no s (line_from text at)
  pub share_is : number ≡ 0 → (account ≡ number_at 0 (line_from text at)) × (share ≡ number_at 1 (line_from text at)) × (account ≤ last_account)
  pub goes : number ≡ 0 → Behind text at next

abbrev pub NoRegion : List ℕ → ℕ → Type 0
NoRegion text at = is_line 4 (line_from text at) ≡ false

pub record RegionRead (text : List ℕ) (at : ℕ) (r : Region) (next : ℕ) : Type 0 where
  pub is : is_line 4 (line_from text at) ≡ true
  pub region_is : r ≡ region_at (line_from text at)
  pub goes : Behind text at next
