-- A whole tree that stands in an image, with nothing around it; and what the steps on the root make of it.
-- Assumes nothing.
use Rattle.std.specs.Prelude.{ℕ, suc, ◌≤◌, ◌≡◌, false, List, [], length}
use Rattle.regions.specs.declared.Region.{Region}
use Rattle.xrtree.specs.Tree.{Tree, regions}
use Rattle.xrtree.specs.Claims.{page_at}
use Rattle.pages.specs.Layout.{root_of, height_of, shares_of, page_used, image_words, page_count}
use Rattle.holding.specs.Held.{place_of}
use Rattle.standing.specs.Stands.{top, nothing_around, Stands}

-- the image's own tree is t, and its regions are rs
pub record Whole (w : List ℕ) (rs : List Region) (h : ℕ) (t : Tree h) : Type 0 where
  pub stands : Stands w rs h 0 top t nothing_around
  pub same : regions h t ≡ rs
  pub root : root_of w ≡ place_of h t
  pub height : height_of w ≡ suc h

-- some page is free
pub record PageRoom (w : List ℕ) : Type 0 where
  pub place : ℕ
  pub low : 1 ≤ place
  pub high : place ≤ page_count
  pub free : page_used w place ≡ false

-- A ROOT MORE: a page that was free is the root, with no key and one child, the root before
pub record Grew (w w' : List ℕ) (rs : List Region) (h : ℕ) (t : Tree h) : Type 0 where
  pub place : ℕ
  pub whole : Whole w' rs (suc h) (page_at place [] t)
  pub shares : shares_of w' ≡ shares_of w

-- A ROOT LESS: the only child of a root with no key is the root
pub record Shrank (w w' : List ℕ) (rs : List Region) (h : ℕ) (t : Tree h) : Type 0 where
  pub whole : Whole w' rs h t
  pub shares : shares_of w' ≡ shares_of w

-- a root that can be freed: it is a page, and not a leaf
pub record RootIs (w : List ℕ) : Type 0 where
  pub long : length w ≡ image_words
  pub low : 1 ≤ root_of w
  pub high : root_of w ≤ page_count
  pub tall : 2 ≤ height_of w
