-- The local steps of a save or delete, each on one page and a child of it: what has to be there, and what is there afterwards.
-- Assumes nothing.
use Rattle.std.specs.Prelude.{ℕ, zero, suc, ◌+◌, ◌≡◌, List, [], ◌∷◌, ◌++◌, map, T, length, get_or}
use Rattle.words.specs.Lists.{last_or}
use Rattle.regions.specs.declared.Region.{Region}
use Rattle.xrtree.specs.Tree.{Entry, Key, Inner, Tree, regions, page_places, keys_in, all_kids}
use Rattle.xrtree.specs.Rules.{filled_below, key_between}
use Rattle.xrtree.specs.Holes.{Post, fill}
use Rattle.xrtree.specs.Holes.Post.{at_key, at_end}
use Rattle.standing.specs.Stands.{Around, Stands, Spares}

-- how many entries or keys a page holds; whether the pages below it hold 4 to 8
abbrev pub size : (h : ℕ) → Tree h → ℕ
size zero t = length t.entries
size (suc h) t = length t.kids

abbrev pub KidsFilled : (h : ℕ) → Tree h → Type 0
KidsFilled zero t = Unit {0}
KidsFilled (suc h) t = T (all_kids (filled_below h) t.kids t.last)

-- what follows a child, with another key in front (its list changed)
abbrev pub rekeyed : {A : Type 0} → Post A → Key → Post A
rekeyed (at_key k cs last) k' = at_key k' cs last
rekeyed at_end k' = at_end

-- it is the same key: only its list may have changed
abbrev pub SameKey : {A : Type 0} → Post A → Key → Type 0
SameKey (at_key k cs last) k' = k'.key ≡ k.key
SameKey at_end k' = Unit {0}

-- the places of the records of the key that follows a child
abbrev pub next_places : {A : Type 0} → Post A → List ℕ
next_places (at_key k cs last) = k.places
next_places at_end = []

-- a key goes up where an inner page is split, and comes down where two are merged
abbrev pub moved : ℕ → ℕ
moved zero = 0
moved (suc h) = 1

-- the starts of a leaf's entries
abbrev pub starts_of : List Entry → List ℕ
starts_of es = map (λ (e : Entry). e.region.start) es

-- RULE 2, the key k that a split makes. Between two leaves: by the left one's last start and the right one's first. An inner page passes a key of its own on, and its parts keep the others. (The size of the left part says which)
abbrev pub KeyMade : (h : ℕ) (child left right : Tree h) → ℕ → Type 0
KeyMade zero child left right k = k ≡ key_between (last_or 0 (starts_of left.entries)) (get_or (starts_of right.entries) 0 0)
KeyMade (suc h) child left right k = keys_in left.kids ++ k ∷ keys_in right.kids ≡ keys_in child.kids

-- A CHILD IN ITS PAGE: the page at place q stands, with child number i
pub record ChildAt (w : List ℕ) (h q i : ℕ) : Type 0 where
  pub rs : List Region
  pub lo : ℕ
  pub hi : ℕ
  pub o : Around
  pub pre : List (Tree h × Key)
  pub post : Post (Tree h)
  pub child : Tree h
  pub stands : Stands w rs (suc h) lo hi (fill q pre post child) o
  pub index : length pre ≡ i

abbrev pub page_here : {w : List ℕ} {h q i : ℕ} → ChildAt w h q i → Inner (Tree h)
page_here {q = q} s = fill q s.pre s.post s.child

-- SPLIT: the child keeps its first c entries or keys, the rest goes to a new page on its right
pub record Split (w w' : List ℕ) (h q i c : ℕ) (s : ChildAt w h q i) : Type 0 where
  pub left : Tree h
  pub right : Tree h
  pub key : Key
  pub key' : Key
  pub key_made : KeyMade h s.child left right key.key
  pub next_same : SameKey s.post key'
  pub stands : Stands w' s.rs (suc h) s.lo s.hi (fill q (s.pre ++ (left, key) ∷ []) (rekeyed s.post key') right) s.o
  pub same : regions (suc h) (fill q (s.pre ++ (left, key) ∷ []) (rekeyed s.post key') right) ≡ regions (suc h) (page_here s)
  pub spares : Spares w w' s.o
  pub size_left : size h left ≡ c
  pub size_right : c + moved h + size h right ≡ size h s.child
  pub kids_filled : KidsFilled h s.child → KidsFilled h left × KidsFilled h right
  pub one_page : length (page_places (suc h) (fill q (s.pre ++ (left, key) ∷ []) (rekeyed s.post key') right)) ≡ suc (length (page_places (suc h) (page_here s)))

-- TWO NEIGHBOURS: the children number j and j + 1 of the page at place q, and the key between them
pub record PairAt (w : List ℕ) (h q j : ℕ) : Type 0 where
  pub rs : List Region
  pub lo : ℕ
  pub hi : ℕ
  pub o : Around
  pub pre : List (Tree h × Key)
  pub post : Post (Tree h)
  pub left : Tree h
  pub key : Key
  pub right : Tree h
  pub stands : Stands w rs (suc h) lo hi (fill q (pre ++ (left, key) ∷ []) post right) o
  pub index : length pre ≡ j

-- MERGE: they become one
pub record Merged (w w' : List ℕ) (h q j : ℕ) (s : PairAt w h q j) : Type 0 where
  pub joined : Tree h
  pub key' : Key
  pub next_same : SameKey s.post key'
  pub stands : Stands w' s.rs (suc h) s.lo s.hi (fill q s.pre (rekeyed s.post key') joined) s.o
  pub same : regions (suc h) (fill q s.pre (rekeyed s.post key') joined) ≡ regions (suc h) (fill q (s.pre ++ (s.left, s.key) ∷ []) s.post s.right)
  pub spares : Spares w w' s.o
  pub size_joined : size h joined ≡ size h s.left + moved h + size h s.right
  pub kids_filled : KidsFilled h s.left → KidsFilled h s.right → KidsFilled h joined
  pub one_page : suc (length (page_places (suc h) (fill q s.pre (rekeyed s.post key') joined))) ≡ length (page_places (suc h) (fill q (s.pre ++ (s.left, s.key) ∷ []) s.post s.right))
