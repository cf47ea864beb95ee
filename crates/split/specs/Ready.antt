-- What a split asks: the child in its page, room in the page above, a free page, for a leaf free records.
-- Assumes nothing.
use Rattle.std.specs.Prelude.{ℕ, suc, ◌+◌, ◌≤◌, ◌<◌, List, ◌++◌, eqb, length}
use Rattle.words.specs.Lists.{filter, Pairs}
use Rattle.pages.specs.Layout.{page_count, record_count}
use Rattle.xrtree.specs.Tree.{Entry, page_places, record_places}
use Rattle.xrtree.specs.Claims.{Over}
use Rattle.steps.specs.Steps.{ChildAt, page_here}

-- the entries that are in no list: each may need a record
abbrev pub unlisted : List Entry → ℕ
unlisted es = length (filter (λ (e : Entry). eqb e.flag 0) es)

-- a leaf with entries on both sides of the cut. (nested: rule 6 of the whole set)
pub record LeafReady (w : List ℕ) (q i c : ℕ) : Type 0 where
  pub child_at : ChildAt w 0 q i
  pub nested : Pairs Over child_at.rs
  pub room : length (page_here child_at).kids ≤ 8
  pub low : 1 ≤ c
  pub high : c < length child_at.child.entries
  pub free_page : length (page_places 1 (page_here child_at) ++ child_at.o.pages) < page_count
  pub free_records : length (record_places 1 (page_here child_at) ++ child_at.o.records) + unlisted child_at.child.entries ≤ record_count

-- an inner page, cut at its key c: either part may be left with no key and one child
pub record InnerReady (w : List ℕ) (h q i c : ℕ) : Type 0 where
  pub child_at : ChildAt w (suc h) q i
  pub nested : Pairs Over child_at.rs
  pub room : length (page_here child_at).kids ≤ 8
  pub high : c < length child_at.child.kids
  pub free_page : length (page_places (suc (suc h)) (page_here child_at) ++ child_at.o.pages) < page_count
