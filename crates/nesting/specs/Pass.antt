-- One region of the pass: it takes one of its account's share, and its end and level go onto a stack of those that have not ended.
-- Assumes nothing.
use Rattle.std.specs.Prelude.{ℕ, zero, suc, ◌-◌, cond, Bool, true, ◌&&◌, List, [], ◌∷◌, get_or, set, ltb, Option, Some, None}
use Rattle.regions.specs.Positions.{account, well_formed}
use Rattle.regions.specs.declared.Region.{Region}

-- what is kept of a region until it has ended
pub record Around : Type 0 where
  pub end : ℕ
  pub level : ℕ

abbrev pub kept : Region → Around
kept r = record { end = r.end; level = r.level }

-- those around a position, innermost first: those that end before a start are closed
unfoldable pub pop : ℕ → List Around → List Around
pop s [] = []
pop s (t ∷ ts) = cond (ltb t.end s) (pop s ts) (t ∷ ts)

-- a stack in the first places of two arrays, the innermost last
unfoldable pub stack_of : List ℕ → List ℕ → ℕ → List Around
stack_of ends levels zero = []
stack_of ends levels (suc k) = record { end = get_or ends k 0; level = get_or levels k 0 } ∷ stack_of ends levels k

-- a region ends before the innermost one around it, and its level is above that one's
unfoldable pub under : Region → List Around → Bool
under r [] = true
under r (t ∷ ts) = ltb r.end t.end && ltb t.level r.level

-- how far the pass has come: what has not ended, and what is left of each account's share
pub record Passed : Type 0 where
  pub around : List Around
  pub left : List ℕ

abbrev pub going : List Around → List ℕ → Passed
going around left = record { around = around; left = left }

-- what is left of the share of a region's account, and once the region has taken one
abbrev pub left_for : Region → List ℕ → ℕ
left_for r left = get_or left (account r.start) 0

abbrev pub take_one : Region → List ℕ → List ℕ
take_one r left = set left (account r.start) (left_for r left - 1)

-- the pass behind a region, or none where a test fails
unfoldable pub enter : Region → Passed → Option Passed
enter r s =
    cond (well_formed r && (ltb 0 (left_for r s.left) && under r (pop r.start s.around)))
    (Some (going (kept r ∷ pop r.start s.around) (take_one r s.left)))
    None
