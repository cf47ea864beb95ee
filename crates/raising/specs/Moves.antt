-- Lists that go up to the middle key of a page, and a key that comes into a page.
-- Assumes nothing.
use Rattle.std.specs.Prelude.{ℕ, ◌≤◌, ◌+◌, ◌≡◌, List, ◌∷◌, ◌++◌, [], length, drop}
use Rattle.words.specs.Lists.{count}
use Rattle.xrtree.specs.Tree.{Key, Tree}
use Rattle.xrtree.specs.Claims.{pair_is}
use Rattle.holding.specs.Held.{KeysHeld, key_records, KeyHeld, place_of, PageHeld}
use Rattle.newpages.specs.Pages.{keys_of, children_of, IsInner}
use Rattle.regions.specs.declared.Region.{Region}
use Rattle.xrtree.specs.Moves.{key_with, trim, raised, raised_places}
use Rattle.xrtree.specs.Holes.{Post, fill_kids, fill}
use Rattle.pages.specs.Layout.{mark_of, fill_of, next_of}
use Rattle.pages.specs.declared.KeyWords.{KeyWords}
use Rattle.records.specs.Touched.{Touched, Uses}
use Rattle.steps.specs.Steps.{rekeyed, next_places}
use Rattle.raising.specs.Sides.{topped, next_cut}
use Rattle.raising.specs.declared.Risen.{Risen}

-- RAISED: of the lists of the keys left of key c, what key c stabs went in front of its own list
pub record RaiseReady (w page : List ℕ) (c h : ℕ) : Type 0 where
  pub ls : List (Tree h × Key)
  pub m : Tree h
  pub k : Key
  pub bs : List (Tree h × Key)
  pub index : length ls ≡ c
  pub keys_held : KeysHeld w (keys_of page) (ls ++ (m, k) ∷ bs)
  pub pair : pair_is k k.list
  pub once : (x : ℕ) → count x (key_records (ls ++ (m, k) ∷ bs)) ≤ 1

pub record Raised (w w' page : List ℕ) (c h : ℕ) (g : RaiseReady w page c h) (t : Risen) : Type 0 where
  pub keys : List KeyWords
  pub many : length keys ≡ c
  pub page_is : IsInner t.page (mark_of page) (fill_of page) (next_of page) (keys ++ drop c (keys_of page)) (children_of page)
  pub keys_held : KeysHeld w' keys (trim g.k.key g.ls)
  pub key_held : KeyHeld w' t.key (key_with g.k.key (raised_places g.k.key g.ls g.k.places) (raised g.k.key g.ls g.k.list))
  pub touched : Touched w w' (key_records g.ls)
  pub uses : Uses w w' [] []

-- ENTERED: a key with its own list came in as key i, took from the next key what it stabs, and has a new child on its right
pub record EnterReady (w page : List ℕ) (i : ℕ) (new : KeyWords) (h : ℕ) : Type 0 where
  pub q : ℕ
  pub pre : List (Tree h × Key)
  pub post : Post (Tree h)
  pub child : Tree h
  pub index : length pre ≡ i
  pub held : PageHeld w page h (fill q pre post child)
  pub k : ℕ
  pub places : List ℕ
  pub list : List Region
  pub key_held : KeyHeld w new (key_with k places list)
  pub once : (x : ℕ) → count x (key_records (fill_kids pre post child)) + count x places ≤ 1

pub record Entered (w w' page : List ℕ) (i : ℕ) (new : KeyWords) (r h : ℕ) (g : EnterReady w page i new h) (t : List ℕ) : Type 0 where
  pub touched : Touched w w' (next_places g.post)
  pub uses : Uses w w' [] []
  pub mark_is : mark_of t ≡ mark_of page
  pub held : (left right : Tree h) → place_of h left ≡ place_of h g.child → place_of h right ≡ r
      → PageHeld w' t h (fill g.q (g.pre ++ (left, topped g.k g.post g.places g.list) ∷ []) (rekeyed g.post (next_cut g.k g.post)) right)
