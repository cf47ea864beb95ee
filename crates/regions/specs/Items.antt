-- Change request C-14, a batch: saves and deletes as items in words, one after the other. The number of a batch, of each item, and what is left of a set.
-- Assumes nothing.
use Rattle.std.specs.Prelude.{ℕ, zero, suc, ◌/◌, ◌%◌, not, cond, List, [], ◌∷◌, ltb, eqb, length, get_or, drop}
use Rattle.words.specs.Lists.{first_no}
use Rattle.regions.specs.Limits.{item_width}
use Rattle.regions.specs.Sets.{Set, saved, deleted}
use Rattle.regions.specs.Numbers.{FORM, ROOM, unless}
use Rattle.regions.specs.Calls.{save_no, delete_no}
use Rattle.regions.specs.declared.Region.{Region}

-- AN ITEM names its account: a save with its region, a delete with its start, or neither of them, with the word that should say which
pub data Item : Type 0 where
  save_item : ℕ → Region → Item
  delete_item : ℕ → ℕ → Item
  unknown_item : ℕ → ℕ → Item

-- by its first word, its account and its region
unfoldable pub item : ℕ → ℕ → Region → Item
item k a r = cond (eqb k 0) (save_item a r) (cond (eqb k 1) (delete_item a r.start) (unknown_item a k))

-- the item that stands in front of some words, and its region
unfoldable pub item_region : List ℕ → Region
item_region ws = record { start = get_or ws 2 0; end = get_or ws 3 0; level = get_or ws 4 0; reference = get_or ws 5 0 }

unfoldable pub item_of : List ℕ → Item
item_of ws = item (get_or ws 0 0) (get_or ws 1 0) (item_region ws)

-- how many there are, the first n of them, and all
abbrev pub items_in : List ℕ → ℕ
items_in ws = length ws / item_width

unfoldable pub first_items : ℕ → List ℕ → List Item
first_items zero ws = []
first_items (suc n) ws = item_of ws ∷ first_items n (drop item_width ws)

abbrev pub items_of : List ℕ → List Item
items_of ws = first_items (items_in ws) ws

-- THE BATCH'S NUMBER, by how many words its items have and how many places there are for answers: the words are whole items, and each item has its place
unfoldable pub batch_no : ℕ → ℕ → ℕ
batch_no words places = first_no ((not (eqb (words % item_width) 0), FORM) ∷ (ltb places (words / item_width), ROOM) ∷ [])

-- AN ITEM'S NUMBER is that of the call it stands for, and what it leaves is what that call leaves
unfoldable pub item_no : Item → Set → ℕ
item_no (save_item a r) S = save_no S a r
item_no (delete_item a s) S = delete_no S a s
item_no (unknown_item a k) S = FORM

unfoldable pub behind : Item → Set → Set
behind (save_item a r) S = unless (save_no S a r) (saved r S) S
behind (delete_item a s) S = unless (delete_no S a s) (deleted s S) S
behind (unknown_item a k) S = S

-- ALL ITEMS in their order, each on what those before it have left, whether they were refused or not
unfoldable pub numbers_of : List Item → Set → List ℕ
numbers_of [] S = []
numbers_of (i ∷ is) S = item_no i S ∷ numbers_of is (behind i S)

unfoldable pub behind_all : List Item → Set → Set
behind_all [] S = S
behind_all (i ∷ is) S = behind_all is (behind i S)
