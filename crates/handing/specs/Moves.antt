-- A key leaves a page, or comes down beside one: what the keys around it take of its list, and what is left of it.
-- Assumes nothing.
use Rattle.std.specs.Prelude.{ℕ, suc, ◌+◌, ◌-◌, ◌≤◌, ◌≡◌, List, [], ◌∷◌, ◌++◌, length}
use Rattle.words.specs.Lists.{take_while, drop_while, count}
use Rattle.regions.specs.Positions.{stabs}
use Rattle.regions.specs.declared.Region.{Region}
use Rattle.xrtree.specs.Tree.{Key, Tree}
use Rattle.xrtree.specs.Claims.{pair_is}
use Rattle.xrtree.specs.Moves.{key_with, moved_places, kept_places, sunk, left_over, over_places}
use Rattle.xrtree.specs.Holes.{Post, fill_kids}
use Rattle.xrtree.specs.Holes.Post.{at_key, at_end}
use Rattle.pages.specs.Layout.{mark_of, fill_of, page_width}
use Rattle.pages.specs.declared.KeyWords.{KeyWords}
use Rattle.holding.specs.Held.{KeyHeld, KeysHeld, key_records}
use Rattle.newpages.specs.Pages.{taken_out, keys_of, children_of}
use Rattle.records.specs.Touched.{Touched, Uses}
use Rattle.steps.specs.Steps.{rekeyed}
use Rattle.handing.specs.declared.Handed.{Handed}

module _ {A : Type 0} where
  -- the key k leaves the page: the next key, with what it takes of k's list
  abbrev pub next_took : Post A → Key → Key
  next_took (at_key j cs last) k = key_with j.key (moved_places j.key k.list k.places ++ j.places) (take_while (stabs j.key) k.list ++ j.list)
  next_took at_end k = k

  -- what is left of k's list
  abbrev pub rest_list : Post A → Key → List Region
  rest_list (at_key j cs last) k = drop_while (stabs j.key) k.list
  rest_list at_end k = k.list

  abbrev pub rest_places : Post A → Key → List ℕ
  rest_places (at_key j cs last) k = kept_places j.key k.list k.places
  rest_places at_end k = k.places

  abbrev pub rest_key : Post A → Key → Key
  rest_key post k = key_with k.key (rest_places post k) (rest_list post k)

-- A PAGE'S WORDS WITH ITS KEY NUMBER j, no record listed twice
pub record Leaving (w ws : List ℕ) (j : ℕ) : Type 0 where
  pub h : ℕ
  pub pre : List (Tree h × Key)
  pub post : Post (Tree h)
  pub left : Tree h
  pub key : Key
  pub right : Tree h
  pub index : length pre ≡ j
  pub held : KeysHeld w (keys_of ws) (fill_kids (pre ++ (left, key) ∷ []) post right)
  pub first : pair_is key key.list
  pub once : (x : ℕ) → count x (key_records (fill_kids (pre ++ (left, key) ∷ []) post right)) ≤ 1

-- THE PAGE WITHOUT IT, and without the child on its right
pub record HandedOn (w w' ws : List ℕ) (j : ℕ) (s : Leaving w ws j) (r : Handed) : Type 0 where
  pub touched : Touched w w' s.key.places
  pub uses : Uses w w' [] []
  pub rest_held : KeyHeld w' r.rest (rest_key s.post s.key)
  pub keys_held : (t : Tree s.h) → KeysHeld w' (keys_of r.page) (fill_kids s.pre (rekeyed s.post (next_took s.post s.key)) t)
  pub long : length r.page ≡ page_width
  pub mark_is : mark_of r.page ≡ mark_of ws
  pub fill_is : fill_of r.page ≡ fill_of ws - 1
  pub children_are : children_of r.page ≡ taken_out (suc j) (children_of ws)

-- A PAGE'S WORDS AND A KEY beside them, n with the list l at the places ps
pub record Sinking (w ws : List ℕ) (k : KeyWords) : Type 0 where
  pub h : ℕ
  pub ls : List (Tree h × Key)
  pub n : ℕ
  pub ps : List ℕ
  pub l : List Region
  pub keys_held : KeysHeld w (keys_of ws) ls
  pub key_held : KeyHeld w k (key_with n ps l)
  pub once : (x : ℕ) → count x ps + count x (key_records ls) ≤ 1

-- THE KEY'S LIST HANDED DOWN
pub record Sank (w w' ws : List ℕ) (k : KeyWords) (s : Sinking w ws k) (r : Handed) : Type 0 where
  pub touched : Touched w w' s.ps
  pub uses : Uses w w' [] []
  pub rest_held : KeyHeld w' r.rest (key_with s.n (over_places s.ls s.l s.ps) (left_over s.ls s.l))
  pub keys_held : KeysHeld w' (keys_of r.page) (sunk s.ls s.l s.ps)
  pub mark_is : mark_of r.page ≡ mark_of ws
  pub fill_is : fill_of r.page ≡ fill_of ws
  pub children_are : children_of r.page ≡ children_of ws
