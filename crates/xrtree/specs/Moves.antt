-- What a save or a delete moves between stab lists, on plain pages: keys with other lists, a page cut at a key, a key that comes down, an entry's owner.
-- Assumes nothing.
use Rattle.std.specs.Prelude.{ℕ, zero, suc, Bool, false, ◌&&◌, ◌||◌, cond, List, [], ◌∷◌, ◌++◌, map, leb, ltb, eqb, length, take, drop}
use Rattle.words.specs.Lists.{filter, take_while, drop_while}
use Rattle.regions.specs.Positions.{stabs}
use Rattle.regions.specs.declared.Region.{Region}
use Rattle.xrtree.specs.Tree.{Entry, Key, Tree, region_of}
use Rattle.xrtree.specs.Claims.{page_at}

-- A KEY WITH ANOTHER LIST, and the stored pair that belongs to it. (Where the records lie is any list of places)
unfoldable pub first_start : List Region → ℕ
first_start [] = 0
first_start (r ∷ rs) = r.start

unfoldable pub first_end : List Region → ℕ
first_end [] = 0
first_end (r ∷ rs) = r.end

abbrev pub key_with : ℕ → List ℕ → List Region → Key
key_with k ps l = record { key = k; pair_start = first_start l; pair_end = first_end l; places = ps; list = l }

-- a list's beginning that key k stabs, and the rest, by their places
abbrev pub moved_places : ℕ → List Region → List ℕ → List ℕ
moved_places k l ps = take (length (take_while (stabs k) l)) ps

abbrev pub kept_places : ℕ → List Region → List ℕ → List ℕ
kept_places k l ps = drop (length (take_while (stabs k) l)) ps

-- flags: an entry that k stabs gets 1, all others keep theirs
unfoldable pub marked : ℕ → Entry → Entry
marked k e = record { region = e.region; flag = cond (stabs k e.region) 1 e.flag }

-- AN INNER PAGE CUT AT KEY k: what the keys left of k keep, and k's list (`raised`), with the places of its records
module _ {A : Type 0} where
  unfoldable pub trim : ℕ → List (A × Key) → List (A × Key)
  trim k [] = []
  trim k (c ∷ cs) = (c.0, key_with c.1.key (kept_places k c.1.list c.1.places) (drop_while (stabs k) c.1.list)) ∷ trim k cs

  unfoldable pub raised : ℕ → List (A × Key) → List Region → List Region
  raised k [] l = l
  raised k (c ∷ cs) l = take_while (stabs k) c.1.list ++ raised k cs l

  unfoldable pub raised_places : ℕ → List (A × Key) → List ℕ → List ℕ
  raised_places k [] ps = ps
  raised_places k (c ∷ cs) ps = moved_places k c.1.list c.1.places ++ raised_places k cs ps

  -- A KEY CAME DOWN with its list l at places ps: each key left of it takes what it stabs, first to last (`sunk`); and what is left
  unfoldable pub sunk : List (A × Key) → List Region → List ℕ → List (A × Key)
  sunk [] l ps = []
  sunk (c ∷ cs) l ps =
      (c.0, key_with c.1.key (moved_places c.1.key l ps ++ c.1.places) (take_while (stabs c.1.key) l ++ c.1.list))
      ∷ sunk cs (drop_while (stabs c.1.key) l) (kept_places c.1.key l ps)

  unfoldable pub left_over : List (A × Key) → List Region → List Region
  left_over [] l = l
  left_over (c ∷ cs) l = left_over cs (drop_while (stabs c.1.key) l)

  unfoldable pub over_places : List (A × Key) → List Region → List ℕ → List ℕ
  over_places [] l ps = ps
  over_places (c ∷ cs) l ps = over_places cs (drop_while (stabs c.1.key) l) (kept_places c.1.key l ps)

-- the entries in no list that k stabs
unfoldable pub fresh : ℕ → List Entry → List Region
fresh k es = map region_of (filter (λ (e : Entry). eqb e.flag 0 && stabs k e.region) es)

-- LEAF MERGE. What is left of the key's list is in no list any more: those entries get flag 0
unfoldable pub any_start : ℕ → List Region → Bool
any_start s [] = false
any_start s (r ∷ rs) = eqb s r.start || any_start s rs

unfoldable pub clear : List Region → Entry → Entry
clear l e = record { region = e.region; flag = cond (any_start e.region.start l) 0 e.flag }

-- into a list in order of start, and out of it
unfoldable pub put : Region → List Region → List Region
put r l = take_while (λ (x : Region). ltb x.start r.start) l ++ r ∷ drop_while (λ (x : Region). ltb x.start r.start) l

abbrev pub behind : List Region → List Region
behind [] = []
behind (x ∷ xs) = xs

unfoldable pub out : ℕ → List Region → List Region
out s l = take_while (λ (x : Region). ltb x.start s) l ++ behind (drop_while (λ (x : Region). ltb x.start s) l)

-- THE OWNER: g is what is done to its list, w says where its records lie then
module _ {A : Type 0} (f : A → A) (g : List Region → List Region) (w : Key → List ℕ) (r : Region) where
  unfoldable pub own_kids : List (A × Key) → A → List (A × Key) × A
  own_kids [] last = ([], f last)
  own_kids (c ∷ cs) last =
      cond (ltb c.1.key r.start)
      (c ∷ (own_kids cs last).0, (own_kids cs last).1)
      (cond (leb c.1.key r.end) ((c.0, key_with c.1.key (w c.1) (g c.1.list)) ∷ cs, last) ((f c.0, c.1) ∷ cs, last))

unfoldable pub own : (List Region → List Region) → (Key → List ℕ) → Region → (h : ℕ) → Tree h → Tree h
own g w r zero t = t
own g w r (suc h) t = page_at t.place (own_kids (own g w r h) g w r t.kids t.last).0 (own_kids (own g w r h) g w r t.kids t.last).1
