-- A key comes into a page, in front of what follows it there: what it takes from the next key's list, and what that key keeps.
-- Assumes nothing.
use Rattle.std.specs.Prelude.{ℕ, List, [], ◌++◌}
use Rattle.words.specs.Lists.{take_while, drop_while}
use Rattle.regions.specs.Positions.{stabs}
use Rattle.regions.specs.declared.Region.{Region}
use Rattle.xrtree.specs.Tree.{Key}
use Rattle.xrtree.specs.Moves.{key_with, moved_places, kept_places}
use Rattle.xrtree.specs.Holes.{Post}
use Rattle.xrtree.specs.Holes.Post.{at_key, at_end}

module _ {A : Type 0} where
  -- the new key k, whose own list is l at the places ps
  abbrev pub topped_list : ℕ → Post A → List Region → List Region
  topped_list k (at_key j cs last) l = take_while (stabs k) j.list ++ l
  topped_list k at_end l = l

  abbrev pub topped_places : ℕ → Post A → List ℕ → List ℕ
  topped_places k (at_key j cs last) ps = moved_places k j.list j.places ++ ps
  topped_places k at_end ps = ps

  abbrev pub topped : ℕ → Post A → List ℕ → List Region → Key
  topped k post ps l = key_with k (topped_places k post ps) (topped_list k post l)

  -- the next key
  abbrev pub next_cut : ℕ → Post A → Key
  next_cut k (at_key j cs last) = key_with j.key (kept_places k j.list j.places) (drop_while (stabs k) j.list)
  next_cut k at_end = key_with k [] []
