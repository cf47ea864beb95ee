-- The path of a position: the pages from the root down to the leaf where it belongs.
-- Assumes nothing.
use Rattle.std.specs.Prelude.{ℕ, zero, suc, cond, List, [], ◌∷◌, ◌++◌, ltb, get_or, take}
use Rattle.xrtree.specs.Tree.{Key}
use Rattle.pages.specs.Layout.{root_of, page_of, fill_of, key_word, child_in}
use Rattle.image.specs.Read.{depth_of}

-- of the m keys from key i on, the index of the first one greater than x, or the index behind them
unfoldable pub rank_from : List ℕ → ℕ → ℕ → ℕ → ℕ
rank_from ws x i zero = i
rank_from ws x i (suc m) = cond (ltb x (get_or ws (key_word i) 0)) i (rank_from ws x (suc i) m)

-- the child for x: right of the last key that is at most x
unfoldable pub rank_in : List ℕ → ℕ → ℕ
rank_in ws x = rank_from ws x 0 (fill_of ws)

abbrev pub child_for : List ℕ → ℕ → ℕ → ℕ
child_for w x p = child_in (page_of w p) (rank_in (page_of w p) x)

-- page p and the h pages below it on x's path
unfoldable pub path_from : ℕ → List ℕ → ℕ → ℕ → List ℕ
path_from zero w x p = p ∷ []
path_from (suc h) w x p = p ∷ path_from h w x (child_for w x p)

abbrev pub path_of : List ℕ → ℕ → List ℕ
path_of w x = path_from (depth_of w) w x (root_of w)

-- the page j steps below page p on x's path
unfoldable pub down_to : ℕ → List ℕ → ℕ → ℕ → ℕ
down_to zero w x p = p
down_to (suc j) w x p = down_to j w x (child_for w x p)

-- a path in four words, 0 behind it
unfoldable pub padded : List ℕ → List ℕ
padded ps = take 4 (ps ++ 0 ∷ 0 ∷ 0 ∷ 0 ∷ [])

-- ON TREES: the child that a walk along the keys comes to
module _ {A : Type 0} where
  unfoldable pub kid_for : ℕ → List (A × Key) → A → A
  kid_for x [] last = last
  kid_for x (c ∷ cs) last = cond (ltb x c.1.key) c.0 (kid_for x cs last)
