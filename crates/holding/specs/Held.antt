-- The words of an image hold a tree of plain values: each page where the tree says it is, each key with its stored pair and its list.
-- Assumes nothing.
use Rattle.std.specs.Prelude.{ℕ, zero, suc, ◌≤◌, ◌≡◌, List, [], ◌∷◌, ◌++◌, map, length}
use Rattle.xrtree.specs.Tree.{Key, Leaf, Inner, Tree}
use Rattle.pages.specs.Layout.{page_of, fill_of, next_of, record_of, record_next, record_count}
use Rattle.pages.specs.declared.KeyWords.{KeyWords}
use Rattle.image.specs.Read.{entries_from, record_region}
use Rattle.image.specs.Decode.{keys_from, children_from}

-- a list in the words: its records' places from place q on, each within 1 to 500, 0 behind the last
pub data Chain (w : List ℕ) : ℕ → List ℕ → Type 0 where
  done : Chain w 0 []
  link : {q : ℕ} {ps : List ℕ} → 1 ≤ q → q ≤ record_count → Chain w (record_next (record_of w q)) ps → Chain w q (q ∷ ps)

-- four words that say a key
pub record KeyHeld (w : List ℕ) (words : KeyWords) (k : Key) : Type 0 where
  pub key_is : words.key ≡ k.key
  pub start_is : words.start ≡ k.pair_start
  pub end_is : words.end ≡ k.pair_end
  pub chain : Chain w words.head k.places
  pub list_is : k.list ≡ map (record_region w) k.places

module _ {A : Type 0} where
  -- the keys of a page, one by one
  abbrev pub KeysHeld : List ℕ → List KeyWords → List (A × Key) → Type 0
  KeysHeld w [] [] = Unit {0}
  KeysHeld w [] (c ∷ cs) = ⊥
  KeysHeld w (x ∷ xs) [] = ⊥
  KeysHeld w (x ∷ xs) (c ∷ cs) = KeyHeld w x c.1 × KeysHeld w xs cs

  -- the children's places, and a statement of every child
  abbrev pub kid_places : (A → ℕ) → List (A × Key) → A → List ℕ
  kid_places place [] last = place last ∷ []
  kid_places place (c ∷ cs) last = place c.0 ∷ kid_places place cs last

  abbrev pub EveryKid : (A → Type 0) → List (A × Key) → A → Type 0
  EveryKid P [] last = P last
  EveryKid P (c ∷ cs) last = P c.0 × EveryKid P cs last

-- where a tree's root page stands
abbrev pub place_of : (h : ℕ) → Tree h → ℕ
place_of zero t = t.place
place_of (suc h) t = t.place

-- a leaf's words, an inner page's words
pub record LeafHeld (ws : List ℕ) (t : Leaf) : Type 0 where
  pub entries_are : entries_from ws 0 (fill_of ws) ≡ t.entries
  pub next_is : next_of ws ≡ t.next

pub record PageHeld (w ws : List ℕ) (h : ℕ) (t : Inner (Tree h)) : Type 0 where
  pub fill_is : fill_of ws ≡ length t.kids
  pub children_are : children_from ws 0 (suc (fill_of ws)) ≡ kid_places (place_of h) t.kids t.last
  pub keys_held : KeysHeld w (keys_from ws 0 (fill_of ws)) t.kids

abbrev pub Held : List ℕ → (h : ℕ) → Tree h → Type 0
Held w zero t = LeafHeld (page_of w t.place) t
Held w (suc h) t = PageHeld w (page_of w t.place) h t × EveryKid (Held w h) t.kids t.last

-- the places of the keys' records of a page, without its children's
module _ {A : Type 0} where
  abbrev pub key_records : List (A × Key) → List ℕ
  key_records [] = []
  key_records (c ∷ cs) = c.1.places ++ key_records cs
