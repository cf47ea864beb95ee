-- A place in the bytes and the lines from there on; the section of shares, and what its reader promises.
-- Assumes nothing.
use Rattle.std.specs.Prelude.{ℕ, suc, ◌≤◌, List, ◌≡◌, length, drop}
use Rattle.lines.specs.Text.{lines_of}
use Rattle.regions.specs.Limits.{account_count}
use Rattle.regions.specs.Numbers.{unless}
use Rattle.form.specs.Form.{Place, most_bytes, Reading, refused, read, section, Shares, no_shares, share_no, shared}

abbrev pub place_at : List ℕ → ℕ → ℕ → Place
place_at text line at = record { at = line; left = lines_of (drop at text) }

-- a place that the reader may stand at: inside a text that is not too long, and with no more lines before it than bytes, so that counting lines cannot wrap
abbrev pub Stands : List ℕ → ℕ → ℕ → Type 0
Stands text line at = (length text ≤ most_bytes) × (at ≤ length text) × (line ≤ suc at)

-- what came out: refused with its number at a line, or read
abbrev pub heard : {X : Type 0} → ℕ → ℕ → X → Reading X
heard number line x = unless number (read x) (refused number line)

-- the two sections, and a set
pub record SharesRead (text : List ℕ) (line at : ℕ) (number line' at' : ℕ) (s : Shares) : Type 0 where
  pub is : section share_no shared account_count no_shares (place_at text line at) ≡ heard number line' (s, place_at text line' at')
  pub goes : number ≡ 0 → Stands text line' at'
  pub sixteen_is : length s.sixteen ≡ account_count
  pub some_line : number ≡ 0 → 1 ≤ line'
