-- A part of a tree that stands rightly in an image while a save or delete is under way: all rules but the fills and the shares.
-- Assumes nothing.
use Rattle.std.specs.Prelude.{ℕ, zero, suc, ◌≤◌, ◌<◌, ◌≡◌, Bool, cond, List, [], ◌++◌, T, length}
use Rattle.words.specs.Lists.{All, Pairs, count}
use Rattle.regions.specs.declared.Region.{Region}
use Rattle.xrtree.specs.Tree.{Leaf, Tree, regions, leaves, page_places, record_places}
use Rattle.xrtree.specs.Rules.{linked}
use Rattle.xrtree.specs.Claims.{Over, Fits}
use Rattle.xrtree.specs.Local.{Here, Part}
use Rattle.pages.specs.Layout.{root_of, height_of, shares_of, page_of, record_of, page_used, record_used, image_words, page_count, record_count}
use Rattle.holding.specs.Held.{Held, EveryKid}

-- above every position
abbrev pub top : ℕ
top = 4294967296

-- what stands around a part of a tree: places of pages and of records, the leaves on its left and on its right
pub record Around : Type 0 where
  pub pages : List ℕ
  pub records : List ℕ
  pub before : List Leaf
  pub after : List Leaf

abbrev pub nothing_around : Around
nothing_around = record { pages = []; records = []; before = []; after = [] }

-- rule 7 by counts: each of the places 1 to n is listed once or free, and no other place is listed
pub record Places (used : ℕ → Bool) (n : ℕ) (ps : List ℕ) : Type 0 where
  pub once : (q : ℕ) → 1 ≤ q → q ≤ n → count q ps ≡ cond (used q) 1 0
  pub range : (q : ℕ) → 0 < count q ps → (1 ≤ q) × (q ≤ n)

-- no page holds more than it has room for
abbrev pub Roomy : (h : ℕ) → Tree h → Type 0
Roomy zero t = length t.entries ≤ 9
Roomy (suc h) t = (length t.kids ≤ 9) × EveryKid (Roomy h) t.kids t.last

pub record Stands (w : List ℕ) (rs : List Region) (h lo hi : ℕ) (t : Tree h) (o : Around) : Type 0 where
  pub long : length w ≡ image_words
  pub held : Held w h t
  pub roomy : Roomy h t
  pub part : Part rs h lo hi t
  pub near : Here rs lo hi (regions h t)
  pub pairs : Pairs Over (regions h t)
  pub well : All (Fits top) (regions h t)
  pub links : T (linked (o.before ++ (leaves h t ++ o.after)))
  pub pages : Places (page_used w) page_count (page_places h t ++ o.pages)
  pub records : Places (record_used w) record_count (record_places h t ++ o.records)

-- what a step on the part leaves as it was: the image's length, its header, the pages and records around
pub record Spares (w w' : List ℕ) (o : Around) : Type 0 where
  pub long : length w' ≡ length w
  pub root : root_of w' ≡ root_of w
  pub height : height_of w' ≡ height_of w
  pub shares : shares_of w' ≡ shares_of w
  pub pages : (q : ℕ) → 0 < count q o.pages → page_of w' q ≡ page_of w q
  pub records : (q : ℕ) → 0 < count q o.records → record_of w' q ≡ record_of w q
