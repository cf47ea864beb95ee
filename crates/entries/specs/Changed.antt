-- What a save and a delete of one region need, and what they leave, before the fills are put right.
-- Assumes nothing.
use Rattle.std.specs.Prelude.{ℕ, zero, suc, ◌≤◌, ◌≡◌, List, [], ◌∷◌, ◌++◌, length}
use Rattle.words.specs.Lists.{All}
use Rattle.regions.specs.declared.Region.{Region}
use Rattle.xrtree.specs.Tree.{Key, Leaf, Inner, Tree, page_places}
use Rattle.xrtree.specs.Claims.{Proper}
use Rattle.xrtree.specs.Holes.{Post, fill}
use Rattle.xrtree.specs.Holes.Post.{at_key, at_end}
use Rattle.pages.specs.Layout.{root_of, shares_of}
use Rattle.holding.specs.Held.{place_of}
use Rattle.standing.specs.Stands.{top}
use Rattle.path.specs.Path.{path_from, padded}
use Rattle.records.specs.Touched.{Room}
use Rattle.roots.specs.WholeTree.{Whole}
use Rattle.entries.specs.Ways.{Greater, leaf_on}

-- THE SAME TREE BUT ALONG x's WAY: off the way the same children, and every key the same (its list may be another)
module _ {A : Type 0} where
  abbrev pub SameKids : List (A × Key) → List (A × Key) → Type 0
  SameKids [] [] = Unit {0}
  SameKids [] (d ∷ ds) = ⊥
  SameKids (c ∷ cs) [] = ⊥
  SameKids (c ∷ cs) (d ∷ ds) = (d.0 ≡ c.0) × (d.1.key ≡ c.1.key) × SameKids cs ds

  abbrev pub SamePost : Post A → Post A → Type 0
  SamePost (at_key k cs last) (at_key k' cs' last') = (k'.key ≡ k.key) × (cs' ≡ cs) × (last' ≡ last)
  SamePost (at_key k cs last) at_end = ⊥
  SamePost at_end (at_key k' cs' last') = ⊥
  SamePost at_end at_end = Unit {0}

-- an inner page on the way: the child on it, by G
pub record WayStep (x h : ℕ) (G : Tree h → Tree h → Type 0) (t t' : Inner (Tree h)) : Type 0 where
  pub pre : List (Tree h × Key)
  pub post : Post (Tree h)
  pub child : Tree h
  pub pre' : List (Tree h × Key)
  pub post' : Post (Tree h)
  pub child' : Tree h
  pub was : t ≡ fill t.place pre post child
  pub is : t' ≡ fill t.place pre' post' child'
  pub before : SameKids pre pre'
  pub after : SamePost post post'
  pub low : All (λ c. c.1.key ≤ x) pre
  pub high : Greater x post
  pub below : G child child'

abbrev pub Along : (Leaf → Leaf → Type 0) → ℕ → (h : ℕ) → Tree h → Tree h → Type 0
Along R x zero t t' = R t t'
Along R x (suc h) t t' = WayStep x h (Along R x h) t t'

-- the leaf at the end of the way has one entry more, or one less
abbrev pub OneMore : Leaf → Leaf → Type 0
OneMore l l' = (l'.place ≡ l.place) × (l'.next ≡ l.next) × (length l'.entries ≡ suc (length l.entries))

abbrev pub OneLess : Leaf → Leaf → Type 0
OneLess l l' = (l'.place ≡ l.place) × (l'.next ≡ l.next) × (suc (length l'.entries) ≡ length l.entries)

abbrev pub Grown : ℕ → (h : ℕ) → Tree h → Tree h → Type 0
Grown x h t t' = Along OneMore x h t t'

abbrev pub Shrunk : ℕ → (h : ℕ) → Tree h → Tree h → Type 0
Shrunk x h t t' = Along OneLess x h t t'

-- ENTER: r crosses nothing and stands between the earlier and the later regions; its leaf has room, and a record is free
pub record Entering (w path : List ℕ) (r : Region) : Type 0 where
  pub earlier : List Region
  pub later : List Region
  pub h : ℕ
  pub t : Tree h
  pub whole : Whole w (earlier ++ later) h t
  pub proper : Proper top (earlier ++ r ∷ later)
  pub flat : h ≤ 3
  pub path_is : path ≡ padded (path_from h w r.start (root_of w))
  pub fits : length (leaf_on r.start h t).entries ≤ 8
  pub room : Room w

pub record Entered (w w' : List ℕ) (r : Region) (earlier later : List Region) (h : ℕ) (t : Tree h) : Type 0 where
  pub tree : Tree h
  pub whole : Whole w' (earlier ++ r ∷ later) h tree
  pub grown : Grown r.start h t tree
  pub place : place_of h tree ≡ place_of h t
  pub pages : page_places h tree ≡ page_places h t
  pub shares : shares_of w' ≡ shares_of w
  pub path_same : path_from h w' r.start (root_of w') ≡ path_from h w r.start (root_of w)

-- LEAVE: the region that starts at `start` is in the set
pub record Leaving (w path : List ℕ) (start : ℕ) : Type 0 where
  pub earlier : List Region
  pub region : Region
  pub later : List Region
  pub h : ℕ
  pub t : Tree h
  pub whole : Whole w (earlier ++ region ∷ later) h t
  pub start_is : region.start ≡ start
  pub flat : h ≤ 3
  pub path_is : path ≡ padded (path_from h w start (root_of w))

pub record Left (w w' : List ℕ) (start : ℕ) (earlier later : List Region) (h : ℕ) (t : Tree h) : Type 0 where
  pub tree : Tree h
  pub whole : Whole w' (earlier ++ later) h tree
  pub shrunk : Shrunk start h t tree
  pub place : place_of h tree ≡ place_of h t
  pub pages : page_places h tree ≡ page_places h t
  pub shares : shares_of w' ≡ shares_of w
  pub path_same : path_from h w' start (root_of w') ≡ path_from h w start (root_of w)
