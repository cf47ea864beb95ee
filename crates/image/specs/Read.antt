-- What an image holds: the tree, by following places and working none of them out; the set that it means.
-- Assumes nothing.
use Rattle.std.specs.Prelude.{ℕ, zero, suc, ◌+◌, ◌-◌, cond, List, [], ◌∷◌, map, eqb, get_or}
use Rattle.regions.specs.Sets.{Set}
use Rattle.regions.specs.declared.Region.{Region}
use Rattle.xrtree.specs.Tree.{Entry, Key, Tree, regions}
use Rattle.pages.specs.Layout.{root_of, height_of, shares_of, page_of, fill_of, next_of, region_in, entry_word, flag_in, key_word, child_in, record_of, record_next}

-- a leaf's entries: m of them, from entry i on
abbrev pub entry_at : List ℕ → ℕ → Entry
entry_at ws i = record { region = region_in ws (entry_word i); flag = flag_in ws i }

unfoldable pub entries_from : List ℕ → ℕ → ℕ → List Entry
entries_from ws i zero = []
entries_from ws i (suc m) = entry_at ws i ∷ entries_from ws (suc i) m

-- a stab list: each record names the next one, 0 ends it. At most n are followed
unfoldable pub chain : ℕ → List ℕ → ℕ → List ℕ
chain zero w q = []
chain (suc n) w q = cond (eqb q 0) [] (q ∷ chain n w (record_next (record_of w q)))

-- no list of a valid image has more than 500 records, so 501 tell a list that is too long
abbrev pub list_places : List ℕ → ℕ → List ℕ
list_places w head = chain 501 w head

unfoldable pub record_region : List ℕ → ℕ → Region
record_region w q = region_in (record_of w q) 0

-- key i of a page's words, with its list
abbrev pub key_at : List ℕ → List ℕ → ℕ → Key
key_at w ws i =
    record {
      key = get_or ws (key_word i) 0;
      pair_start = get_or ws (key_word i + 1) 0;
      pair_end = get_or ws (key_word i + 2) 0;
      places = list_places w (get_or ws (key_word i + 3) 0);
      list = map (record_region w) (list_places w (get_or ws (key_word i + 3) 0));
    }

-- m keys from key i on, each with the child on its left
module _ {A : Type 0} (child : ℕ → A) (w ws : List ℕ) where
  unfoldable pub kids_from : ℕ → ℕ → List (A × Key)
  kids_from i zero = []
  kids_from i (suc m) = (child (child_in ws i), key_at w ws i) ∷ kids_from (suc i) m

-- the tree below place p whose leaves lie h pages deeper
unfoldable pub read_tree : (h : ℕ) → List ℕ → ℕ → Tree h
read_tree zero w p = record { place = p; next = next_of (page_of w p); entries = entries_from (page_of w p) 0 (fill_of (page_of w p)) }
read_tree (suc h) w p =
    record {
      place = p;
      kids = kids_from (read_tree h w) w (page_of w p) 0 (fill_of (page_of w p));
      last = read_tree h w (child_in (page_of w p) (fill_of (page_of w p)));
    }

-- pages below the root on a path
abbrev pub depth_of : List ℕ → ℕ
depth_of w = height_of w - 1

abbrev pub tree_of : (w : List ℕ) → Tree (depth_of w)
tree_of w = read_tree (depth_of w) w (root_of w)

-- the set that an image means
unfoldable pub set_of : List ℕ → Set
set_of w = record { shares = shares_of w; regions = regions (depth_of w) (tree_of w) }
