-- The pairs of one d with some regions, past a mark: written and counted, behind those that were written before.
-- Assumes nothing.
use Rattle.std.specs.Prelude.{ℕ, ◌+◌, ◌≤◌, min, ◌≡◌, Bool, cond, ◌&&◌, List, map, length}
use Rattle.words.specs.Lists.{filter}
use Rattle.regions.specs.Limits.{pair_width}
use Rattle.regions.specs.Calls.{Pair, room, pairs_with, pair_of, pair_words}
use Rattle.regions.specs.Desk.{is_past}
use Rattle.regions.specs.declared.Region.{Region}
use Rattle.regions.specs.declared.Kind.{Kind}
use Rattle.regions.specs.declared.Mark.{Mark}
use Rattle.answers.specs.Items.{written_from}

-- a pairs with d, and the pair comes past the mark
unfoldable pub paired : Kind → Mark → Region → Region → Bool
paired k m d a = pairs_with k d a && is_past m (pair_of d a)

abbrev pub pairs_past : Kind → Mark → Region → List Region → List Pair
pairs_past k m d rs = map (pair_of d) (filter (paired k m d) rs)

-- WHAT IS COUNTED of n pairs: all of them, or those that fit
abbrev pub counted : Bool → List ℕ → ℕ → ℕ
counted all out n = cond all n (min (room pair_width out) n)

-- from n pairs in out on
pub record PairedUp (rs : List Region) (k : Kind) (m : Mark) (d : Region) (all : Bool) (out : List ℕ) (n : ℕ) (out' : List ℕ) (n' : ℕ) : Type 0 where
  pub words : out' ≡ written_from pair_words pair_width n out (pairs_past k m d rs)
  pub total : counted all out n' ≡ counted all out (n + length (pairs_past k m d rs))
  pub few : n' ≤ n + length rs
