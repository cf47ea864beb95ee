-- The owner of a region on the words of the pages of a path: the first key on its way down that is not below its start, if it is at most its end.
-- Assumes nothing.
use Rattle.std.specs.Prelude.{ℕ, zero, suc, Bool, ◌&&◌, cond, Option, Some, None, List, [], ◌∷◌, ltb, leb, get_or}
use Rattle.pages.specs.Layout.{page_of, fill_of, key_word}
use Rattle.owners.specs.declared.Spot.{Spot}

abbrev pub nobody : Option Spot
nobody = None

abbrev pub spot_at : ℕ → ℕ → Option Spot
spot_at q i = Some (record { page = q; key = i })

-- ON WORDS: of the m keys from key i on, the index of the first one that is not below s
unfoldable pub below_from : List ℕ → ℕ → ℕ → ℕ → ℕ
below_from ws s i zero = i
below_from ws s i (suc m) = cond (ltb (get_or ws (key_word i) 0) s) (below_from ws s (suc i) m) i

unfoldable pub below_in : List ℕ → ℕ → ℕ
below_in ws s = below_from ws s 0 (fill_of ws)

-- it is there, and owns
abbrev pub owns_at : List ℕ → ℕ → ℕ → ℕ → Bool
owns_at ws e n j = ltb j n && leb (get_or ws (key_word j) 0) e

unfoldable pub owner_along : List ℕ → ℕ → ℕ → List ℕ → Option Spot
owner_along w s e [] = nobody
owner_along w s e (p ∷ ps) = cond (owns_at (page_of w p) e (fill_of (page_of w p)) (below_in (page_of w p) s)) (spot_at p (below_in (page_of w p) s)) (owner_along w s e ps)
