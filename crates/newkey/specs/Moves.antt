-- Regions of a leaf that come into a new key's list, and their flags.
-- Assumes nothing.
use Rattle.std.specs.Prelude.{ℕ, ◌≤◌, ◌+◌, Bool, ◌&&◌, List, [], ◌++◌, map, ◌≡◌, eqb, take, drop, length}
use Rattle.words.specs.Lists.{All, sum_to}
use Rattle.regions.specs.Positions.{stabs}
use Rattle.pages.specs.Layout.{mark_of, fill_of, next_of, record_count, image_words}
use Rattle.pages.specs.declared.KeyWords.{KeyWords}
use Rattle.xrtree.specs.Tree.{Entry}
use Rattle.xrtree.specs.Moves.{key_with, marked, fresh}
use Rattle.image.specs.Read.{entries_from}
use Rattle.newpages.specs.Pages.{entries_of, spares_of, IsLeaf}
use Rattle.holding.specs.Held.{KeyHeld}
use Rattle.records.specs.Touched.{Touched, Uses, in_use}

-- an entry in no list that k stabs
unfoldable pub fresh_at : ℕ → Entry → Bool
fresh_at k e = eqb e.flag 0 && stabs k e.region

-- GATHERED: the regions of the first n entries that are in no list and that k stabs are k's list, each in a record that was free
pub record Gathered (w w' : List ℕ) (k : ℕ) (es : List Entry) (t : KeyWords) : Type 0 where
  pub places : List ℕ
  pub range : All (λ q. (1 ≤ q) × (q ≤ record_count)) places
  pub touched : Touched w w' places
  pub uses : Uses w w' places []
  pub held : KeyHeld w' t (key_with k places (fresh k es))

-- FLAGGED: the first n entries that k stabs have flag 1
abbrev pub Flagged : List ℕ → ℕ → ℕ → List ℕ → Type 0
Flagged ws n k s = IsLeaf s (mark_of ws) (fill_of ws) (next_of ws) (map (marked k) (take n (entries_of ws)) ++ drop n (entries_of ws)) (spares_of ws)

-- how many records are in use
abbrev pub used_records : List ℕ → ℕ
used_records w = sum_to (in_use w) record_count

pub record GatherReady (w leaf : List ℕ) (n k : ℕ) : Type 0 where
  pub long : length w ≡ image_words
  pub few : n ≤ 9
  pub ends : All (λ (e : Entry). 1 ≤ e.region.end) (entries_from leaf 0 n)
  pub room : used_records w + length (fresh k (entries_from leaf 0 n)) ≤ record_count
