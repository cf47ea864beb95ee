-- The pass over all regions of an image in ascending start.
-- Assumes nothing.
use Rattle.std.specs.Prelude.{ℕ, List, [], ◌∷◌, Option, Some, option_and_then}
use Rattle.regions.specs.declared.Region.{Region}
use Rattle.xrtree.specs.Tree.{regions}
use Rattle.image.specs.Read.{read_tree}
use Rattle.image.specs.Fills.{FillsFrom}
use Rattle.nesting.specs.Pass.{Passed, enter}

-- the regions below a place, from left to right
unfoldable pub regions_at : List ℕ → ℕ → ℕ → List Region
regions_at w h p = regions h (read_tree h w p)

-- the fills on the way down from a page that may hold as few as it likes: at most 8 everywhere, and at least 4 below it
unfoldable pub Fills : ℕ → List ℕ → ℕ → Type 0
Fills h w p = FillsFrom 0 h w p

-- the first region that is refused ends the pass
unfoldable pub pass : List Region → Passed → Option Passed
pass [] s = Some s
pass (r ∷ rs) s = option_and_then (pass rs) (enter r s)
