-- Document 01, "A valid image", of what its rules speak of: an XR-tree on plain values, as the image holds it: pages with their places, leaf entries with their flags, keys with their stored pairs and lists.
-- Assumes nothing.
use Rattle.std.specs.Prelude.{ℕ, zero, suc, Bool, ◌&&◌, List, [], ◌∷◌, ◌++◌, map, length}
use Rattle.regions.specs.declared.Region.{Region}

-- a leaf's entry; the flag says whether the region stands in a stab list
pub record Entry : Type 0 where
  pub region : Region
  pub flag : ℕ

-- a key, its stored pair, and its own list: the regions, and the places of their stab records
pub record Key : Type 0 where
  pub key : ℕ
  pub pair_start : ℕ
  pub pair_end : ℕ
  pub places : List ℕ
  pub list : List Region

-- a leaf page, with the place of the leaf on its right (0 for none)
pub record Leaf : Type 0 where
  pub place : ℕ
  pub next : ℕ
  pub entries : List Entry

-- an inner page: each key with the child on its left, then the last child
pub record Inner (A : Type 0) : Type 0 where
  pub place : ℕ
  pub kids : List (A × Key)
  pub last : A

-- a tree whose leaves all lie h pages below its root
abbrev pub Tree : ℕ → Type 0
Tree zero = Leaf
Tree (suc h) = Inner (Tree h)

-- WHAT STANDS IN A TREE, FROM LEFT TO RIGHT: what is listed of a leaf, of an inner page (place and number of keys) before its children, of a key
pub record Listing (B : Type 0) : Type 0 where
  pub on_leaf : Leaf → List B
  pub on_page : ℕ → ℕ → List B
  pub on_key : Key → List B

-- child, key, child, key, .., last child
module _ {A B : Type 0} (child : A → List B) (key : Key → List B) where
  unfoldable pub weave : List (A × Key) → A → List B
  weave [] last = child last
  weave (c ∷ cs) last = child c.0 ++ (key c.1 ++ weave cs last)

unfoldable pub listed : {B : Type 0} → Listing B → (h : ℕ) → Tree h → List B
listed L zero t = L.on_leaf t
listed L (suc h) t = L.on_page t.place (length t.kids) ++ weave (listed L h) L.on_key t.kids t.last

abbrev pub region_of : Entry → Region
region_of e = e.region

-- the regions: ascending starts in a valid tree
abbrev pub list_regions : Listing Region
list_regions = record { on_leaf = λ l. map region_of l.entries; on_page = λ p n. []; on_key = λ k. [] }

abbrev pub regions : (h : ℕ) → Tree h → List Region
regions h t = listed list_regions h t

-- all keys
abbrev pub list_keys : Listing ℕ
list_keys = record { on_leaf = λ l. []; on_page = λ p n. []; on_key = λ k. k.key ∷ [] }

abbrev pub keys_of : (h : ℕ) → Tree h → List ℕ
keys_of h t = listed list_keys h t

-- the leaves
abbrev pub list_leaves : Listing Leaf
list_leaves = record { on_leaf = λ l. l ∷ []; on_page = λ p n. []; on_key = λ k. [] }

abbrev pub leaves : (h : ℕ) → Tree h → List Leaf
leaves h t = listed list_leaves h t

-- starts and keys
pub data Item : Type 0 where
  start : ℕ → Item
  key : ℕ → Item

abbrev pub list_items : Listing Item
list_items = record { on_leaf = λ l. map (λ (e : Entry). start e.region.start) l.entries; on_page = λ p n. []; on_key = λ k. key k.key ∷ [] }

abbrev pub items : (h : ℕ) → Tree h → List Item
items h t = listed list_items h t

-- the places of all pages, and of all stab records
abbrev pub list_pages : Listing ℕ
list_pages = record { on_leaf = λ l. l.place ∷ []; on_page = λ p n. p ∷ []; on_key = λ k. [] }

abbrev pub page_places : (h : ℕ) → Tree h → List ℕ
page_places h t = listed list_pages h t

abbrev pub list_records : Listing ℕ
list_records = record { on_leaf = λ l. []; on_page = λ p n. []; on_key = λ k. k.places }

abbrev pub record_places : (h : ℕ) → Tree h → List ℕ
record_places h t = listed list_records h t

-- a page's keys, and its stab list: the lists of its keys, one after the other
module _ {A : Type 0} where
  unfoldable pub keys_in : List (A × Key) → List ℕ
  keys_in [] = []
  keys_in (c ∷ cs) = c.1.key ∷ keys_in cs

  unfoldable pub stab_list : List (A × Key) → List Region
  stab_list [] = []
  stab_list (c ∷ cs) = c.1.list ++ stab_list cs

  -- does every child pass
  unfoldable pub all_kids : (A → Bool) → List (A × Key) → A → Bool
  all_kids p [] last = p last
  all_kids p (c ∷ cs) last = p c.0 && all_kids p cs last
