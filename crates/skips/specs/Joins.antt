-- Where the join begins, and how it comes to the next d.
-- Assumes nothing.
use Rattle.std.specs.Prelude.{ℕ, ◌≤◌, suc, max, List, ◌≡◌, Bool, true, false, cond, Option, Some, None}
use Rattle.words.specs.Lists.{filter, All}
use Rattle.regions.specs.Sets.{starts_from, of}
use Rattle.regions.specs.declared.Region.{Region}
use Rattle.regions.specs.declared.Choice.{Choice}
use Rattle.regions.specs.declared.Choice.TheVariants.{Strict, WithSelf}
use Rattle.regions.specs.declared.Mark.{Mark}
use Rattle.regions.specs.declared.Mark.TheVariants.{Fresh, Last}
use Rattle.regions.specs.Positions.{lowest, too_late}
use Rattle.image.specs.Read.{set_of}
use Rattle.leaves.specs.declared.Entry.{Entry}
use Rattle.leaves.specs.declared.Cursor.{Cursor}
use Rattle.leaves.specs.Faces.{Faces}

-- a cursor at a place that is not behind y
pub record Before (w : List ℕ) (y : ℕ) (c : Cursor) : Type 0 where
  pub at : ℕ
  pub far : at ≤ y
  pub faces : Faces w c (filter (starts_from at) (set_of w).regions)

-- where the pairs begin: at the account's first position, or at the marked d where that comes later
unfoldable pub first_position : ℕ → Mark → ℕ
first_position a Fresh = lowest a
first_position a (Last x y) = max (lowest a) y

-- a step to a region of the account; to that of another there is none
unfoldable pub own_step : ℕ → Option (Entry × Cursor) → Option (Entry × Cursor)
own_step a None = None
own_step a (Some s) = cond (of a s.0.region) (Some s) None

-- THE NEXT d. No region starts at p or behind it and before q
pub record Clear (rs : List Region) (p q : ℕ) : Type 0 where
  pub far : p ≤ q
  pub none : All (λ (r : Region). p ≤ r.start → q ≤ r.start) rs

-- the first position that a region may hold which starts at q: the next one, or with self q itself
unfoldable pub first_held : Choice → ℕ → ℕ
first_held Strict q = suc q
first_held WithSelf q = q

-- a cursor there, where no region starts that comes too late for p and before such a q
pub record Skipped (ch : Choice) (rs : List Region) (w : List ℕ) (p : ℕ) (r : Cursor) : Type 0 where
  pub reach : ℕ
  pub clear : Clear rs (too_late ch p) reach
  pub faces : Faces w r (filter (starts_from (first_held ch reach)) (set_of w).regions)

-- the cursor on, or one that skips
pub record Moved (ch : Choice) (rs : List Region) (w : List ℕ) (p : ℕ) (on : Cursor) (met : Bool) (r : Cursor) : Type 0 where
  pub kept : met ≡ true → r ≡ on
  pub skipped : met ≡ false → Skipped ch rs w p r
