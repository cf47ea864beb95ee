-- The entries of a set in order, along the leaves' links: what a cursor has before it, and what a step hands.
-- Assumes nothing.
use Rattle.std.specs.Prelude.{ℕ, zero, suc, ◌+◌, ◌≤◌, ◌<◌, ◌≡◌, Bool, cond, eqb, ltb, length, drop, Option, Some, None}
use mathlib.Core.List.{List, [], ◌∷◌, flat_map}
use Rattle.words.specs.Lists.{take_while}
use Rattle.xrtree.specs.Tree as tree
use Rattle.pages.specs.Layout.{page_count, page_of, fill_of, next_of}
use Rattle.image.specs.Read.{entry_at, entries_from, depth_of, tree_of}
use Rattle.leaves.specs.declared.Entry.{Entry}
use Rattle.leaves.specs.declared.Cursor.{Cursor}

-- THE ENTRIES OF A TREE, from left to right; of the leaf at place p
abbrev pub list_entries : tree.Listing tree.Entry
list_entries = record { on_leaf = λ l. l.entries; on_page = λ p n. []; on_key = λ k. [] }

unfoldable pub entries_of : List ℕ → List tree.Entry
entries_of w = tree.listed list_entries (depth_of w) (tree_of w)

unfoldable pub entries_in : List ℕ → ℕ → List tree.Entry
entries_in w p = entries_from (page_of w p) 0 (fill_of (page_of w p))

-- an entry that starts before y; how many of a leaf's entries stand before the first that does not
abbrev pub starts_below : ℕ → tree.Entry → Bool
starts_below y e = ltb e.region.start y

unfoldable pub entry_rank : List ℕ → ℕ → ℕ → ℕ
entry_rank w p y = length (take_while (starts_below y) (entries_in w p))

-- THE LEAVES from place p on, each named by the one before it: at most n, 0 ends them
unfoldable pub leaves_from : ℕ → List ℕ → ℕ → List ℕ
leaves_from zero w p = []
leaves_from (suc n) w p = cond (eqb p 0) [] (p ∷ leaves_from n w (next_of (page_of w p)))

-- a set has no more leaves than pages
abbrev pub leaves_at : List ℕ → ℕ → List ℕ
leaves_at w p = leaves_from page_count w p

-- leaves that end, each with 1 to 8 entries
pub data Chain (w : List ℕ) : ℕ → List ℕ → Type 0 where
  done : Chain w 0 []
  link : {q : ℕ} {qs : List ℕ} → 1 ≤ q → 1 ≤ fill_of (page_of w q) → fill_of (page_of w q) ≤ 8 → Chain w (next_of (page_of w q)) qs → Chain w q (q ∷ qs)

-- A CURSOR stands at an entry, or at the end: leaf 0. What it has before it
unfoldable pub left : List ℕ → Cursor → List tree.Entry
left w c = drop c.at (flat_map (entries_in w) (leaves_at w c.leaf))

pub record Ready (w : List ℕ) (c : Cursor) : Type 0 where
  pub chain : Chain w c.leaf (leaves_at w c.leaf)
  pub ended : c.leaf ≡ 0 → c.at ≡ 0
  pub inside : (c.leaf ≡ 0 → ⊥) → c.at < fill_of (page_of w c.leaf)

pub record Stands (w : List ℕ) (c : Cursor) (es : List tree.Entry) : Type 0 where
  pub ready : Ready w c
  pub ahead : left w c ≡ es

-- the cursor at entry i of the leaf at place p; behind its last entry at the first of the next one
unfoldable pub cursor_at : List ℕ → ℕ → ℕ → Cursor
cursor_at w p i =
    cond (ltb i (fill_of (page_of w p))) (record { leaf = p; at = i })
    (record { leaf = next_of (page_of w p); at = 0 })

-- the cursor moved on
abbrev pub moved_on : List ℕ → Cursor → Cursor
moved_on w c = cursor_at w c.leaf (c.at + 1)

-- the tree's entry as the code hands it
abbrev pub handed : tree.Entry → Entry
handed e = record { region = e.region; flag = e.flag }

-- A STEP hands the entry that the cursor stands at and the cursor moved on; at the end nothing
unfoldable pub step_from : List ℕ → Cursor → Option (Entry × Cursor)
step_from w c = cond (eqb c.leaf 0) None (Some (handed (entry_at (page_of w c.leaf) c.at), moved_on w c))

-- the start that it faces, by its step; the last position of all where there is none
unfoldable pub start_faced : Option (Entry × Cursor) → ℕ
start_faced None = 4294967295
start_faced (Some s) = s.0.region.start
