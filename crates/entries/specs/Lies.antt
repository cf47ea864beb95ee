-- A tree in the words, and what the two halves of a save or delete leave of it: the step on the leaf, and the step on the owner's list.
-- Assumes nothing.
use Rattle.std.specs.Prelude.{ℕ, ◌≤◌, ◌≡◌, Option, List, length, T}
use Rattle.regions.specs.declared.Region.{Region}
use Rattle.pages.specs.Layout.{root_of, height_of, shares_of, page_used, record_used, image_words, page_count, record_count}
use Rattle.xrtree.specs.Tree.{Key, Leaf, Tree, leaves, page_places, record_places}
use Rattle.xrtree.specs.Rules.{linked}
use Rattle.xrtree.specs.Moves.{own}
use Rattle.owners.specs.declared.Spot.{Spot}
use Rattle.holding.specs.Held.{place_of, Held}
use Rattle.standing.specs.Stands.{Places, Roomy}
use Rattle.entries.specs.Ways.{leaf_on, at_leaf}
use Rattle.entries.specs.Owners.{spot_of}

-- a tree in the words, without the rules on its regions
pub record Lies (w : List ℕ) (h : ℕ) (t : Tree h) : Type 0 where
  pub long : length w ≡ image_words
  pub held : Held w h t
  pub roomy : Roomy h t
  pub links : T (linked (leaves h t))
  pub pages : Places (page_used w) page_count (page_places h t)
  pub records : Places (record_used w) record_count (record_places h t)

-- w' has t' where w has t: the same pages, the same header
pub record Stepped (w w' : List ℕ) (h : ℕ) (t t' : Tree h) : Type 0 where
  pub lies : Lies w' h t'
  pub place : place_of h t' ≡ place_of h t
  pub pages : page_places h t' ≡ page_places h t
  pub root : root_of w' ≡ root_of w
  pub height : height_of w' ≡ height_of w
  pub shares : shares_of w' ≡ shares_of w

-- THE LEAF at the end of the way of s, at place p
pub record LeafReady (w : List ℕ) (p s : ℕ) : Type 0 where
  pub h : ℕ
  pub t : Tree h
  pub lies : Lies w h t
  pub place_is : p ≡ (leaf_on s h t).place

-- it has become another leaf
pub record LeafStep (w w' : List ℕ) (f : Leaf → Leaf) (s h : ℕ) (t : Tree h) : Type 0 where
  pub step : Stepped w w' h t (at_leaf f s h t)
  pub used : (q : ℕ) → record_used w' q ≡ record_used w q

-- THE OWNER of r, if there is one, stands at a spot
pub record OwnerReady (w : List ℕ) (x : Option Spot) (r : Region) : Type 0 where
  pub h : ℕ
  pub t : Tree h
  pub lies : Lies w h t
  pub spot_is : x ≡ spot_of r.start r.end h t
  pub ends : 1 ≤ r.end

-- its list has changed by g, if there is an owner
pub record ListStep (w w' : List ℕ) (g : List Region → List Region) (r : Region) (h : ℕ) (t : Tree h) : Type 0 where
  pub places : Key → List ℕ
  pub step : Stepped w w' h t (own g places r h t)
