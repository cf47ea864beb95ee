-- Document 01, "Calls": the search of a tree for the ancestors of a position p, along p's path, and its step count. What holds p is said by the choice, strict or with self
-- (change request C-17), at all three places: stored pairs, stab lists, leaf entries.
-- Assumes nothing.
use Rattle.std.specs.Prelude.{ℕ, zero, suc, ◌+◌, Bool, ◌&&◌, cond, List, [], ◌∷◌, ◌++◌, map, ltb, eqb}
use Rattle.words.specs.Lists.{filter, take_while}
use Rattle.regions.specs.Positions.{spans, holds}
use Rattle.regions.specs.declared.Region.{Region}
use Rattle.regions.specs.declared.Choice.{Choice}
use Rattle.xrtree.specs.Tree.{Entry, Key, Tree, region_of}

-- p lies between the two positions of a key's stored pair
abbrev pub pair_holds : Choice → ℕ → Key → Bool
pair_holds ch p k = spans ch p k.pair_start k.pair_end

-- WHAT A KEY GIVES: where its stored pair holds p, its list from the head as long as the regions hold p
unfoldable pub run : Choice → ℕ → Key → List Region
run ch p k = cond (pair_holds ch p k) (take_while (holds ch p) k.list) []

-- how many stab records that takes: one for each region taken, and one more for the region that stops the walk, if any does
unfoldable pub looks : Choice → ℕ → List Region → ℕ
looks ch p [] = 0
looks ch p (r ∷ rs) = suc (cond (holds ch p r) (looks ch p rs) 0)

unfoldable pub cost : Choice → ℕ → Key → ℕ
cost ch p k = cond (pair_holds ch p k) (looks ch p k.list) 0

-- AN INNER PAGE: key by key from the left. A key beyond p is the last that is asked, since p's path leads into the child on its left; where there is none, it leads into the last child
module _ {A : Type 0} (child : A → List Region) (ch : Choice) (p : ℕ) where
  unfoldable pub find_kids : List (A × Key) → A → List Region
  find_kids [] last = child last
  find_kids (c ∷ cs) last = run ch p c.1 ++ cond (ltb p c.1.key) (child c.0) (find_kids cs last)

module _ {A : Type 0} (child : A → ℕ) (ch : Choice) (p : ℕ) where
  unfoldable pub steps_kids : List (A × Key) → A → ℕ
  steps_kids [] last = child last
  steps_kids (c ∷ cs) last = cost ch p c.1 + cond (ltb p c.1.key) (child c.0) (steps_kids cs last)

-- A LEAF: the entries in no stab list (flag 0) whose regions hold p
unfoldable pub holds_free : Choice → ℕ → Entry → Bool
holds_free ch p e = eqb e.flag 0 && holds ch p e.region

-- THE SEARCH: what it finds, in the order in which it finds it
unfoldable pub find : (h : ℕ) → Choice → ℕ → Tree h → List Region
find zero ch p t = map region_of (filter (holds_free ch p) t.entries)
find (suc h) ch p t = find_kids (find h ch p) ch p t.kids t.last

-- ITS STEPS: one for each page on the path, one for each stab record looked at
unfoldable pub steps : (h : ℕ) → Choice → ℕ → Tree h → ℕ
steps zero ch p t = 1
steps (suc h) ch p t = suc (steps_kids (steps h ch p) ch p t.kids t.last)
