-- What a page, a leaf, a start or a key does to the state of the walk: the state behind it, or none where its test fails.
-- Assumes nothing.
use Rattle.std.specs.Prelude.{ℕ, ◌+◌, ◌-◌, Bool, ◌&&◌, ◌||◌, cond, leb, ltb, eqb, Option, Some, None}
use Rattle.passes.specs.declared.Passed.{Passed}

unfoldable pub step_page : Bool → Passed → Option Passed
step_page g s = cond (g && ltb 0 s.left) (Some (record { link = s.link; low = s.low; left = s.left - 1 })) None

unfoldable pub step_leaf : ℕ → ℕ → Passed → Option Passed
step_leaf p next s = cond (eqb s.link 0 || eqb s.link (p + 1)) (Some (record { link = next + 1; low = s.low; left = s.left })) None

unfoldable pub step_code : ℕ → Passed → Option Passed
step_code c s = cond (leb s.low c) (Some (record { link = s.link; low = c + 1; left = s.left })) None

-- at the end: the last leaf led nowhere, no page was left over
unfoldable pub finished : Passed → Bool
finished s = eqb s.link 1 && eqb s.left 0
