-- The owner of a region on trees, and an entry in and out of its leaf.
-- Assumes nothing.
use Rattle.std.specs.Prelude.{ℕ, zero, suc, Bool, cond, Option, List, [], ◌∷◌, ◌++◌, ltb, leb, length, drop}
use Rattle.std.specs.Option.{is_some}
use Rattle.words.specs.Lists.{take_while, drop_while}
use Rattle.xrtree.specs.Tree.{Entry, Key, Tree}
use Rattle.pages.specs.Layout.{fill_of}
use Rattle.image.specs.Read.{entries_from}
use Rattle.path.specs.Path.{child_for}
use Rattle.owners.specs.declared.Spot.{Spot}
use Rattle.owners.specs.Owners.{nobody, spot_at}

-- the flag of an entry whose owner that is
abbrev pub flag_at : Option Spot → ℕ
flag_at x = cond (is_some x) 1 0

-- ON TREES: s the start, e the end
module _ {A : Type 0} (f : A → Option Spot) (s e q : ℕ) where
  unfoldable pub spot_kids : ℕ → List (A × Key) → A → Option Spot
  spot_kids i [] last = f last
  spot_kids i (c ∷ cs) last = cond (ltb c.1.key s) (spot_kids (suc i) cs last) (cond (leb c.1.key e) (spot_at q i) (f c.0))

unfoldable pub spot_of : ℕ → ℕ → (h : ℕ) → Tree h → Option Spot
spot_of s e zero t = nobody
spot_of s e (suc h) t = spot_kids (spot_of s e h) s e t.place 0 t.kids t.last

-- the inner pages of x's path from page p on, h of them
unfoldable pub inside_from : ℕ → List ℕ → ℕ → ℕ → List ℕ
inside_from zero w x p = []
inside_from (suc h) w x p = p ∷ inside_from h w x (child_for w x p)

-- A LEAF'S ENTRIES that start before s: how many come first
abbrev pub starts_before : ℕ → Entry → Bool
starts_before s e = ltb e.region.start s

unfoldable pub entries_before : List ℕ → ℕ → ℕ
entries_before ws s = length (take_while (starts_before s) (entries_from ws 0 (fill_of ws)))

-- an entry put in by its start, the entry with start s taken out
unfoldable pub put_entry : Entry → List Entry → List Entry
put_entry e es = take_while (starts_before e.region.start) es ++ e ∷ drop_while (starts_before e.region.start) es

unfoldable pub out_entry : ℕ → List Entry → List Entry
out_entry s es = take_while (starts_before s) es ++ drop 1 (drop_while (starts_before s) es)
