-- What the laws of the tree speak of: claims on pages that go down with their bounds, and the rules as statements in that form.
-- Assumes nothing.
use Rattle.std.specs.Prelude.{ℕ, zero, suc, ◌≤◌, ◌<◌, ◌≡◌, Bool, ◌&&◌, cond, List, [], ◌∷◌, ◌++◌}
use Rattle.words.specs.Lists.{filter, All, Pairs}
use Rattle.regions.specs.Positions.{stabs}
use Rattle.regions.specs.declared.Region.{Region}
use Rattle.xrtree.specs.Tree.{Entry, Key, Leaf, Inner, Tree, weave, regions, keys_of, keys_in}
use Rattle.xrtree.specs.Rules.{none_stabs}

-- a leaf and an inner page, with any places
abbrev pub leaf_at : ℕ → ℕ → List Entry → Leaf
leaf_at p n es = record { place = p; next = n; entries = es }

abbrev pub page_at : {A : Type 0} → ℕ → List (A × Key) → A → Inner A
page_at p cs z = record { place = p; kids = cs; last = z }

-- the regions, and the keys, of a page's children from left to right
abbrev pub regions_in : (h : ℕ) → List (Tree h × Key) → Tree h → List Region
regions_in h cs z = weave (regions h) (λ (k : Key). []) cs z

abbrev pub keys_under : (h : ℕ) → List (Tree h × Key) → Tree h → List ℕ
keys_under h cs z = weave (keys_of h) (λ (k : Key). k.key ∷ []) cs z

-- A CLAIM ON A PAGE goes down with the bounds: Q of each key, P of each child; a key is the bound on both its sides.
-- lo is 0, or one more than the key on the left; hi is the key on the right, or a number above all
abbrev pub Page : {A : Type 0} → (ℕ → ℕ → Key → Type 0) → (ℕ → ℕ → A → Type 0) → ℕ → ℕ → List (A × Key) → A → Type 0
Page Q P lo hi [] last = P lo hi last
Page Q P lo hi (c ∷ cs) last = Q lo hi c.1 × P lo c.1.key c.0 × Page Q P (suc c.1.key) hi cs last

-- of a tree: Q of every key, L of every leaf's entries, with their bounds. (No place is spoken of)
abbrev pub Claim : (ℕ → ℕ → Key → Type 0) → (ℕ → ℕ → List Entry → Type 0) → (h : ℕ) → ℕ → ℕ → Tree h → Type 0
Claim Q L zero lo hi t = L lo hi t.entries
Claim Q L (suc h) lo hi t = Page Q (Claim Q L h) lo hi t.kids t.last

-- RULES 1 and 2, nested: every key and start lies between the keys around it. (A start may be the key on its left itself: lo ≤ suc start)
abbrev pub Between : ℕ → ℕ → Key → Type 0
Between lo hi k = (lo ≤ k.key) × (k.key < hi)

abbrev pub Within : ℕ → ℕ → List Entry → Type 0
Within lo hi es = All (λ (e : Entry). (lo ≤ suc e.region.start) × (e.region.start < hi)) es

abbrev pub InKids : {A : Type 0} → (ℕ → ℕ → A → Type 0) → ℕ → ℕ → List (A × Key) → A → Type 0
InKids P lo hi cs last = Page Between P lo hi cs last

abbrev pub In : (h : ℕ) → ℕ → ℕ → Tree h → Type 0
In h lo hi t = Claim Between Within h lo hi t

-- RULE 6: of two regions the first starts first, and if the second starts within it, it ends within it; each starts before it ends, below top
abbrev pub Over : Region → Region → Type 0
Over x y = (x.start < y.start) × (y.start ≤ x.end → y.end < x.end)

abbrev pub Fits : ℕ → Region → Type 0
Fits top r = (r.start < r.end) × (r.end < top)

pub record Proper (top : ℕ) (rs : List Region) : Type 0 where
  pub pairs : Pairs Over rs
  pub well : All (Fits top) rs

-- RULES 3 and 4 in one: a key's list holds exactly the regions of the set that the key stabs, that no earlier key of its page stabs and no key of a page above, in order
abbrev pub held_here : List ℕ → List ℕ → ℕ → Region → Bool
held_here above earlier k r = stabs k r && (none_stabs earlier r && none_stabs above r)

abbrev pub ListsIn : {A : Type 0} → List Region → List ℕ → List ℕ → List (A × Key) → Type 0
ListsIn rs above earlier [] = Unit {0}
ListsIn rs above earlier (c ∷ cs) =
    (c.1.list ≡ filter (held_here above earlier c.1.key) rs) × ListsIn rs above (c.1.key ∷ earlier) cs

abbrev pub Kids : {A : Type 0} → (A → Type 0) → List (A × Key) → A → Type 0
Kids P [] last = P last
Kids P (c ∷ cs) last = P c.0 × Kids P cs last

abbrev pub Lists : (h : ℕ) → List Region → List ℕ → Tree h → Type 0
Lists zero rs above t = Unit {0}
Lists (suc h) rs above t = ListsIn rs above [] t.kids × Kids (Lists h rs (keys_in t.kids ++ above)) t.kids t.last

-- RULE 5
abbrev pub pair_is : Key → List Region → Type 0
pair_is k [] = (k.pair_start ≡ 0) × (k.pair_end ≡ 0)
pair_is k (r ∷ rs) = (k.pair_start ≡ r.start) × (k.pair_end ≡ r.end)

abbrev pub PairsIn : {A : Type 0} → List (A × Key) → Type 0
PairsIn [] = Unit {0}
PairsIn (c ∷ cs) = pair_is c.1 c.1.list × PairsIn cs

abbrev pub Firsts : (h : ℕ) → Tree h → Type 0
Firsts zero t = Unit {0}
Firsts (suc h) t = PairsIn t.kids × Kids (Firsts h) t.kids t.last

-- the flags: 0 where no key of the tree stabs the entry's region, else 1
abbrev pub flag_of : Bool → ℕ
flag_of b = cond b 0 1

abbrev pub Flags : (h : ℕ) → List ℕ → Tree h → Type 0
Flags zero ks t = All (λ (e : Entry). e.flag ≡ flag_of (none_stabs ks e.region)) t.entries
Flags (suc h) ks t = Kids (Flags h ks) t.kids t.last

-- A TREE THAT KEEPS THE RULES (fills, links and shares apart), all keys and ends below top
pub record Good (top h : ℕ) (t : Tree h) : Type 0 where
  pub order : In h 0 top t
  pub set : Proper top (regions h t)
  pub lists : Lists h (regions h t) [] t
  pub firsts : Firsts h t
  pub flags : Flags h (keys_of h t) t
