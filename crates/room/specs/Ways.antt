-- The way of a position x down a tree, and fills along it: all pages rightly filled but the leaf at the way's end. So stands a tree right after a save's entry came in or a delete's went out.
-- Then what spreading (save) and mending (delete) below a page leave of it, and the room that they need.
-- Assumes nothing.
use Rattle.std.specs.Prelude.{ℕ, zero, suc, ◌+◌, ◌≤◌, ◌<◌, ◌≡◌, Bool, List, [], ◌∷◌, ◌++◌, map, T, eqb, length}
use Rattle.words.specs.Lists.{All, filter}
use Rattle.pages.specs.Layout.{page_count, record_count}
use Rattle.regions.specs.declared.Region.{Region}
use Rattle.xrtree.specs.Tree.{Entry, Key, Tree, Listing, listed, region_of, regions, page_places}
use Rattle.xrtree.specs.Rules.{filled_below}
use Rattle.xrtree.specs.Local.{box}
use Rattle.xrtree.specs.Holes.{Post, Ctx}
use Rattle.xrtree.specs.Holes.Post.{at_key, at_end}
use Rattle.holding.specs.Held.{EveryKid, place_of}
use Rattle.standing.specs.Stands.{Around, Stands, Spares}
use Rattle.steps.specs.Steps.{size, KidsFilled}

-- a page, and all below it, hold 4 to 8
abbrev pub Filled : (h : ℕ) → Tree h → Type 0
Filled h t = T (filled_below h t)

-- AROUND A HOLE among a page's children: a statement of all other children; x belongs into the hole
module _ {A : Type 0} where
  abbrev pub Behind : (A → Type 0) → Post A → Type 0
  Behind P (at_key k cs last) = EveryKid P cs last
  Behind P at_end = Unit {0}

  abbrev pub Others : (A → Type 0) → List (A × Key) → Post A → Type 0
  Others P pre post = All (λ c. P c.0) pre × Behind P post

  abbrev pub Ahead : ℕ → Post A → Type 0
  Ahead x (at_key k cs last) = x < k.key
  Ahead x at_end = Unit {0}

  abbrev pub OnWay : ℕ → List (A × Key) → Post A → Type 0
  OnWay x pre post = All (λ c. c.1.key ≤ x) pre × Ahead x post

  -- how many keys stand behind the hole
  abbrev pub keys_behind : Post A → ℕ
  keys_behind (at_key k cs last) = suc (length cs)
  keys_behind at_end = 0

  -- Q of the child that x belongs to, P of every other one
  abbrev pub KidsBut : (A → Type 0) → (A → Type 0) → ℕ → List (A × Key) → A → Type 0
  KidsBut P Q x [] last = Q last
  KidsBut P Q x (c ∷ cs) last = (x < c.1.key → Q c.0 × EveryKid P cs last) × (c.1.key ≤ x → P c.0 × KidsBut P Q x cs last)

-- x belongs into every hole on the way down
abbrev pub OnWays : ℕ → (d : ℕ) → Ctx d 0 → Type 0
OnWays x zero c = Unit {0}
OnWays x (suc d) c = OnWay x c.1 c.2 × OnWays x d c.3

-- FILLS ALONG THE WAY: the leaf at its end holds least to most, every other page 4 to 8
abbrev pub Way : ℕ → ℕ → ℕ → (h : ℕ) → Tree h → Type 0
Way least most x zero t = (least ≤ length t.entries) × (length t.entries ≤ most)
Way least most x (suc h) t = (4 ≤ length t.kids) × (length t.kids ≤ 8) × KidsBut (Filled h) (Way least most x h) x t.kids t.last

-- below a page, whatever it holds itself
abbrev pub Below : ℕ → ℕ → ℕ → (h : ℕ) → Tree (suc h) → Type 0
Below least most x h t = KidsBut (Filled h) (Way least most x h) x t.kids t.last

-- THE ENTRIES IN NO LIST: their flag is 0
abbrev pub idle_in : Entry → Bool
idle_in e = eqb e.flag 0

abbrev pub list_idle : Listing Region
list_idle = record { on_leaf = λ l. map region_of (filter idle_in l.entries); on_page = λ p n. []; on_key = λ k. [] }

abbrev pub idle : (h : ℕ) → Tree h → List Region
idle h t = listed list_idle h t

-- ROOM FOR RECORDS: the records around a part, and the regions between its bounds (which no key outside it stabs), are few enough together. No step on the part changes either
abbrev pub between : ℕ → ℕ → List Region → List Region
between lo hi rs = box lo hi 0 hi rs

abbrev pub RecordRoom : List Region → ℕ → ℕ → Around → Type 0
RecordRoom rs lo hi o = length o.records + length (between lo hi rs) ≤ record_count

-- room for n more pages
abbrev pub PageRoom : ℕ → (h : ℕ) → Tree h → Around → Type 0
PageRoom n h t o = length (page_places h t ++ o.pages) + n ≤ page_count

-- A PART BECOMES ANOTHER, with the same regions at the same place, and nothing around it changes
pub record Becomes (w w' : List ℕ) (rs : List Region) (h lo hi : ℕ) (o : Around) (t t' : Tree h) : Type 0 where
  pub stands : Stands w' rs h lo hi t' o
  pub place : place_of h t' ≡ place_of h t
  pub same : regions h t' ≡ regions h t
  pub spares : Spares w w' o

-- SPREAD: all pages below it are rightly filled again, and it holds as many keys as before or one more
pub record Spread (w w' : List ℕ) (rs : List Region) (h lo hi : ℕ) (o : Around) (t : Tree (suc h)) : Type 0 where
  pub after : Tree (suc h)
  pub becomes : Becomes w w' rs (suc h) lo hi o t after
  pub filled : KidsFilled (suc h) after
  pub least : size (suc h) t ≤ size (suc h) after
  pub most : size (suc h) after ≤ suc (size (suc h) t)
  pub pages : length (page_places (suc h) after) ≤ length (page_places (suc h) t) + suc h

-- a child on the way, spread below: 9 at most
pub record Grown (w w' : List ℕ) (rs : List Region) (h lo hi : ℕ) (o : Around) (t : Tree h) : Type 0 where
  pub after : Tree h
  pub becomes : Becomes w w' rs h lo hi o t after
  pub filled : KidsFilled h after
  pub least : 4 ≤ size h after
  pub most : size h after ≤ 9
  pub pages : length (page_places h after) ≤ length (page_places h t) + h

-- MENDED: likewise, and as many keys as before or one less
pub record Mended (w w' : List ℕ) (rs : List Region) (h lo hi : ℕ) (o : Around) (t : Tree (suc h)) : Type 0 where
  pub after : Tree (suc h)
  pub becomes : Becomes w w' rs (suc h) lo hi o t after
  pub filled : KidsFilled (suc h) after
  pub least : size (suc h) t ≤ suc (size (suc h) after)
  pub most : size (suc h) after ≤ size (suc h) t
  pub pages : length (page_places (suc h) after) ≤ length (page_places (suc h) t)

-- a child on the way, mended below: 3 at least
pub record Thinned (w w' : List ℕ) (rs : List Region) (h lo hi : ℕ) (o : Around) (t : Tree h) : Type 0 where
  pub after : Tree h
  pub becomes : Becomes w w' rs h lo hi o t after
  pub filled : KidsFilled h after
  pub least : 3 ≤ size h after
  pub most : size h after ≤ 8
  pub pages : length (page_places h after) ≤ length (page_places h t)
