-- How many pages a tree has, and how many entries, by its fills: so 160 places suffice, and four pages on a path.
-- Assumes nothing.
use Prim.Native.Nat.{ℕ, zero, suc, ◌+◌, ◌*◌, ◌≤◌, ◌<◌}
use mathlib.Core.Path.{◌≡◌, refl, ap}
use mathlib.Core.List.{List, [], ◌∷◌, ◌++◌}
use lib.Dec.{T}
use lib.ListN.{length, length-append, length-map}
use native.Mathlib.Omega.{arith}
use native.Mathlib.Decide.{dec_lt}
use Rattle.xrtree.specs.Tree.{Key, Leaf, Tree, Listing, weave, listed, list_pages, list_records, region_of, regions, page_places, record_places}
use Rattle.xrtree.specs.Rules.{filled_below, filled}
use Rattle.xrtree.specs.Claims.{regions_in}
use Rattle.xrtree.specs.Holes.{up, Ctx, plug}
use Rattle.xrtree.proofs.Holes.{before, after, listed_parts}
use Rattle.holding.specs.Held.{EveryKid}
use Rattle.standing.specs.Stands.{Around}
use Rattle.standing.proofs.Child.{around_hole}
use Rattle.steps.specs.Steps.{size, KidsFilled}
use Rattle.room.specs.Ways.{Filled, KidsBut, Way, Below}
use Rattle.room.proofs.Fills.{kids_every, of_filled, of_root}

-- the pages of a page's children
abbrev pages_in : (h : ℕ) → List (Tree h × Key) → Tree h → List ℕ
pages_in h cs z = weave (page_places h) (λ (k : Key). []) cs z

-- a leaf's page and entries; an inner page's
leaf_entries : (t : Leaf) → length (regions 0 t) ≡ length t.entries
unfolding listed
leaf_entries t = length-map t.entries region_of

leaf_pages : (t : Leaf) → length (page_places 0 t) ≡ 1
unfolding listed
leaf_pages t = refl

page_entries : (h : ℕ) (t : Tree (suc h)) → length (regions (suc h) t) ≡ length (regions_in h t.kids t.last)
unfolding listed
page_entries h t = refl

page_pages : (h : ℕ) (t : Tree (suc h)) → length (page_places (suc h) t) ≡ suc (length (pages_in h t.kids t.last))
unfolding listed
page_pages h t = refl

-- one child, and the others
last_entries : (h : ℕ) (last : Tree h) → length (regions_in h [] last) ≡ length (regions h last)
unfolding weave
last_entries h last = refl

last_pages : (h : ℕ) (last : Tree h) → length (pages_in h [] last) ≡ length (page_places h last)
unfolding weave
last_pages h last = refl

more_entries : (h : ℕ) (c : Tree h × Key) (cs : List (Tree h × Key)) (last : Tree h) → length (regions_in h (c ∷ cs) last) ≡ length (regions h c.0) + length (regions_in h cs last)
unfolding weave
more_entries h c cs last = length-append (regions h c.0) (regions_in h cs last)

more_pages : (h : ℕ) (c : Tree h × Key) (cs : List (Tree h × Key)) (last : Tree h) → length (pages_in h (c ∷ cs) last) ≡ length (page_places h c.0) + length (pages_in h cs last)
unfolding weave
more_pages h c cs last = length-append (page_places h c.0) (pages_in h cs last)

-- PAGES. A subtree with fills of at least 4: sixteen for each page and four more are at most five for each entry
abbrev Sparse : (h : ℕ) → Tree h → Type 0
Sparse h t = 16 * length (page_places h t) + 4 ≤ 5 * length (regions h t)

every_pages : (h : ℕ) → ((c : Tree h) → Filled h c → Sparse h c) → (cs : List (Tree h × Key)) (last : Tree h) → EveryKid (Filled h) cs last
    → 16 * length (pages_in h cs last) + 4 * suc (length cs) ≤ 5 * length (regions_in h cs last)
every_pages h f [] last e = let n = f last e in omega (arith, last_pages h last, last_entries h last)
every_pages h f (c ∷ cs) last e =
    let n = f c.0 e.0 in
    let m = every_pages h f cs last e.1 in
    omega (arith, more_pages h c cs last, more_entries h c cs last)

pub filled_pages : (h : ℕ) (t : Tree h) → Filled h t → 16 * length (page_places h t) + 4 ≤ 5 * length (regions h t)
filled_pages zero t f = let w = of_filled 0 t f in omega (arith, leaf_pages t, leaf_entries t)
filled_pages (suc h) t f =
    let w = of_filled (suc h) t f in
    let n = every_pages h (λ c g. filled_pages h c g) t.kids t.last (kids_every (filled_below h) t.kids t.last w.2) in
    omega (arith, page_pages h t, page_entries h t)

-- a root, whatever it holds
pub kids_pages : (h : ℕ) (t : Tree (suc h)) → KidsFilled (suc h) t → 16 * length (page_places (suc h) t) + 4 * size (suc h) t ≤ 5 * length (regions (suc h) t) + 12
kids_pages h t k =
    let n = every_pages h (λ c g. filled_pages h c g) t.kids t.last (kids_every (filled_below h) t.kids t.last k) in
    omega (arith, page_pages h t, page_entries h t)

-- a leaf on the way that holds least (up to 4) costs what it lacks
but_pages : (least most x h : ℕ) → ((c : Tree h) → Way least most x h c → 16 * length (page_places h c) + 5 * least ≤ 5 * length (regions h c) + 16) → (cs : List (Tree h × Key)) (last : Tree h)
    → KidsBut (Filled h) (Way least most x h) x cs last → 16 * length (pages_in h cs last) + 4 * length cs + 5 * least ≤ 5 * length (regions_in h cs last) + 16
but_pages least most x h f [] last b = let n = f last b in omega (arith, last_pages h last, last_entries h last)
but_pages least most x h f (c ∷ cs) last b =
    elim (dec_lt x c.1.key) [
      | yes l ↦
          let r = b.0 l in
          let n = f c.0 r.0 in
          let m = every_pages h (λ c g. filled_pages h c g) cs last r.1 in
          omega (arith, more_pages h c cs last, more_entries h c cs last)
      | no l ↦
          let r = b.1 (omega arith) in
          let n = filled_pages h c.0 r.0 in
          let m = but_pages least most x h f cs last r.1 in
          omega (arith, more_pages h c cs last, more_entries h c cs last)
    ]

pub way_pages : (least most x h : ℕ) (t : Tree h) → Way least most x h t → 16 * length (page_places h t) + 5 * least ≤ 5 * length (regions h t) + 16
way_pages least most x zero t w = omega (arith, leaf_pages t, leaf_entries t)
way_pages least most x (suc h) t w =
    let n = but_pages least most x h (λ c g. way_pages least most x h c g) t.kids t.last w.2 in
    omega (arith, page_pages h t, page_entries h t)

pub below_pages : (least most x h : ℕ) (t : Tree (suc h)) → Below least most x h t
    → 16 * length (page_places (suc h) t) + 4 * size (suc h) t + 5 * least ≤ 5 * length (regions (suc h) t) + 32
below_pages least most x h t b =
    let n = but_pages least most x h (λ c g. way_pages least most x h c g) t.kids t.last b in
    omega (arith, page_pages h t, page_entries h t)

-- so a root of at least one key, with at most 500 regions: 156 pages where all is filled, 157 where one leaf holds 3
pub few_pages : (h : ℕ) (t : Tree h) → T (filled h t) → length (regions h t) ≤ 500 → length (page_places h t) ≤ 156
few_pages zero t f l = omega (arith, leaf_pages t)
few_pages (suc h) t f l = let w = of_root h t f in omega (arith, kids_pages h t w.2)

pub few_thin : (most x h : ℕ) (t : Tree (suc h)) → Below 3 most x h t → 1 ≤ size (suc h) t → length (regions (suc h) t) ≤ 500 → length (page_places (suc h) t) ≤ 157
few_thin most x h t b n l = omega (arith, below_pages 3 most x h t b)

-- ENTRIES. A subtree of h + 1 pages on a path holds at least 4 times 5 to the h
unfoldable pub times : ℕ → ℕ → ℕ
times zero m = 0
times (suc n) m = m + times n m

unfoldable pub fewest : ℕ → ℕ
fewest zero = 4
fewest (suc h) = times 5 (fewest h)

times_more : (a b m : ℕ) → a ≤ b → times a m ≤ times b m
unfolding times
times_more zero b m l = omega arith
times_more (suc a) zero m l = absurd (omega arith)
times_more (suc a) (suc b) m l = let n = times_more a b m (omega arith) in omega arith

times_last : (m : ℕ) → times 1 m ≡ m
unfolding times
times_last m = omega arith

times_suc : (n m : ℕ) → times (suc n) m ≡ m + times n m
unfolding times
times_suc n m = refl

every_entries : (h m : ℕ) → ((c : Tree h) → Filled h c → m ≤ length (regions h c)) → (cs : List (Tree h × Key)) (last : Tree h) → EveryKid (Filled h) cs last
    → times (suc (length cs)) m ≤ length (regions_in h cs last)
every_entries h m f [] last e = let n = f last e in omega (arith, times_last m, last_entries h last)
every_entries h m f (c ∷ cs) last e =
    let n = f c.0 e.0 in
    let r = every_entries h m f cs last e.1 in
    omega (arith, times_suc (suc (length cs)) m, more_entries h c cs last)

pub filled_entries : (h : ℕ) (t : Tree h) → Filled h t → fewest h ≤ length (regions h t)
unfolding fewest
filled_entries zero t f = let w = of_filled 0 t f in omega (arith, leaf_entries t)
filled_entries (suc h) t f =
    let w = of_filled (suc h) t f in
    let n = every_entries h (fewest h) (λ c g. filled_entries h c g) t.kids t.last (kids_every (filled_below h) t.kids t.last w.2) in
    omega (arith, page_entries h t, times_more 5 (suc (length t.kids)) (fewest h) (omega arith))

pub kids_entries : (h : ℕ) (t : Tree (suc h)) → KidsFilled (suc h) t → times (suc (size (suc h) t)) (fewest h) ≤ length (regions (suc h) t)
kids_entries h t k =
    omega (arith, page_entries h t, every_entries h (fewest h) (λ c g. filled_entries h c g) t.kids t.last (kids_every (filled_below h) t.kids t.last k))

-- a root three pages above the leaves has at most 4 keys, so it never splits; and none stands higher
pub root_narrow : (t : Tree 3) → KidsFilled 3 t → length (regions 3 t) < 600 → size 3 t ≤ 4
unfolding times fewest
root_narrow t k l =
    elim (dec_lt 4 (size 3 t)) [
      | yes g ↦ absurd (let n : 600 ≤ times (suc (size 3 t)) 100 = times_more 6 (suc (size 3 t)) 100 (omega arith) in omega (arith, kids_entries 2 t k))
      | no g ↦ omega arith
    ]

-- A HOLE: the pages, and the records, of a part and around it are as many as of the whole and around it
hole_long : {B : Type 0} (L : Listing B) (d m : ℕ) (c : Ctx d m) (t : Tree m) (o : List B)
    → length (listed L m t ++ (before L d m c ++ (after L d m c ++ o))) ≡ length (listed L (up d m) (plug d m c t) ++ o)
hole_long L d m c t o =
    omega (
      arith,
      ap length (listed_parts L d m c t),
      length-append (listed L m t) (before L d m c ++ (after L d m c ++ o)),
      length-append (before L d m c) (after L d m c ++ o),
      length-append (after L d m c) o,
      length-append (listed L (up d m) (plug d m c t)) o,
      length-append (before L d m c) (listed L m t ++ after L d m c),
      length-append (listed L m t) (after L d m c),
    )

pub pages_hole : (d m : ℕ) (c : Ctx d m) (t : Tree m) (o : Around)
    → length (page_places m t ++ (around_hole d m c o).pages) ≡ length (page_places (up d m) (plug d m c t) ++ o.pages)
pages_hole d m c t o = hole_long list_pages d m c t o.pages

pub records_hole : (d m : ℕ) (c : Ctx d m) (t : Tree m) (o : Around)
    → length (record_places m t ++ (around_hole d m c o).records) ≡ length (record_places (up d m) (plug d m c t) ++ o.records)
records_hole d m c t o = hole_long list_records d m c t o.records
