-- Each page of the tree has a start or a key of its own, which can be read off at its place: so where codes ascend, no page stands in the tree twice.
-- (A page could be read as a leaf here and as an inner page there. Its word 15 is the third start of the one and the fourth key of the other, and before
-- a third start of number x no key x can stand, since the second start does.)
-- Assumes nothing.
use Prim.Native.Nat.{ℕ, zero, suc, ◌+◌, ◌*◌, ◌<◌, ◌≤◌}
use mathlib.Core.Path.{◌≡◌, refl, ap, ◌∙◌}
use mathlib.Core.Bool.{cond}
use mathlib.Core.List.{List, [], ◌∷◌, ◌++◌, map}
use lib.Dec.{leb, eqb}
use lib.ListN.{get_or}
use native.Mathlib.Omega.{arith}
use Rattle.words.specs.Lists.{All, count}
use Rattle.words.proofs.Tests.{by_test, eq_of, le_yes, le_no, le_of, nle_of}
use Rattle.words.proofs.Listed.{all_mono}
use Rattle.words.proofs.Counted.{count_append, count_other}
use Rattle.xrtree.specs.Tree.{Entry, Item, list_items, list_pages}
use Rattle.xrtree.specs.Tree.Item.{start, key}
use Rattle.pages.specs.Layout.{page_of, fill_of, key_word, child_in}
use Rattle.image.specs.Read.{entries_from}
use Rattle.image.specs.Fills.{FillsFrom, root_least}
use Rattle.image.proofs.Listings.{listed_at, listed_from, from_last, from_more, listed_leaf, listed_inner}
use Rattle.shape.specs.Run.{code}
use Rattle.shape.proofs.Filling.{Kids, kids_first, kids_rest, kids_all}
use Rattle.shape.proofs.Order.{Ascends}

-- ps are pages with an item of their own among xs, in this order: of an inner page a key k with r p = 2 k, of a leaf a start b behind another start with r p = 2 b
data Picks (r : ℕ → ℕ) : List ℕ → List Item → Type 0 where
  none : Picks r [] []
  skip : {ps : List ℕ} {x : Item} {xs : List Item} → Picks r ps xs → Picks r ps (x ∷ xs)
  inner : {p k : ℕ} {ps : List ℕ} {xs : List Item} → r p ≡ 2 * k → Picks r ps xs → Picks r (p ∷ ps) (key k ∷ xs)
  leaf : {p a b : ℕ} {ps : List ℕ} {xs : List Item} → r p ≡ 2 * b → Picks r ps xs → Picks r (p ∷ ps) (start a ∷ start b ∷ xs)

picks_append : {r : ℕ → ℕ} {ps qs : List ℕ} {xs ys : List Item} → Picks r ps xs → Picks r qs ys → Picks r (ps ++ qs) (xs ++ ys)
picks_append none v = v
picks_append (skip u) v = skip (picks_append u v)
picks_append (inner e u) v = inner e (picks_append u v)
picks_append (leaf e u) v = leaf e (picks_append u v)

picks_none : (r : ℕ → ℕ) (xs : List Item) → Picks r [] xs
picks_none r [] = none
picks_none r (x ∷ xs) = skip (picks_none r xs)

-- then the numbers r p ascend, and no page is picked twice
abbrev Apart : (ℕ → ℕ) → ℕ → List ℕ → Type 0
Apart r a ps = All (λ p. a ≤ r p) ps × ((q : ℕ) → count q ps ≤ 1)

above_none : (r : ℕ → ℕ) (p : ℕ) (ps : List ℕ) → All (λ q. r p + 1 ≤ r q) ps → count p ps ≡ 0
unfolding count
above_none r p [] h = refl
above_none r p (q ∷ ps) h = count_other p q ps (λ e. let z : r p ≡ r q = ap r e in let k = h.0 in omega arith) ∙ above_none r p ps h.1

once_more : (q p : ℕ) (ps : List ℕ) → count p ps ≡ 0 → count q ps ≤ 1 → count q (p ∷ ps) ≤ 1
unfolding count
once_more q p ps z k =
    by_test (eqb q p)
    (λ t. let y : count q ps ≡ 0 = rw (eq_of q p t) z in rw t (omega arith))
    (λ t. rw t (omega arith))

apart_more : (r : ℕ → ℕ) (a b p : ℕ) (ps : List ℕ) → a ≤ r p → r p + 1 ≤ b → Apart r b ps → Apart r a (p ∷ ps)
apart_more r a b p ps l u v = (
  (l, all_mono (λ q k. omega arith) ps v.0),
  λ q. once_more q p ps (above_none r p ps (all_mono (λ j k. omega arith) ps v.0)) (v.1 q),
)

picks_apart : {r : ℕ → ℕ} {ps : List ℕ} {xs : List Item} (a : ℕ) → Picks r ps xs → Ascends a xs → Apart r a ps
unfolding code count
picks_apart a none h = (tt, λ q. omega arith)
picks_apart {r} a (skip {ps = ps} {x = x} u) h =
    let v = picks_apart (code x + 1) u h.1 in
    let l : a ≤ code x = h.0 in
    (all_mono (λ q k. omega arith) ps v.0, v.1)
picks_apart {r} a (inner {p = p} {k = k} {ps = ps} e u) h =
    let l : a ≤ 2 * k = h.0 in
    apart_more r a (2 * k + 1) p ps (omega arith) (omega arith) (picks_apart (2 * k + 1) u h.1)
picks_apart {r} a (leaf {p = p} {a = s} {b = b} {ps = ps} e u) h =
    let l : a ≤ 2 * s + 1 = h.0 in
    let m : 2 * s + 1 + 1 ≤ 2 * b + 1 = h.1.0 in
    apart_more r a (2 * b + 1 + 1) p ps (omega arith) (omega arith) (picks_apart (2 * b + 1 + 1) u h.1.1)

-- the same in any order of the pages
abbrev Picked : (ℕ → ℕ) → List ℕ → List Item → Type 0
Picked r qs xs = (ps : List ℕ) × Picks r ps xs × ((q : ℕ) → count q ps ≡ count q qs)

picked_append : (r : ℕ → ℕ) (ps qs : List ℕ) (xs ys : List Item) → Picked r ps xs → Picked r qs ys → Picked r (ps ++ qs) (xs ++ ys)
picked_append r ps qs xs ys u v = (
  u.0 ++ v.0,
  picks_append u.1 v.1,
  λ q. omega (arith, count_append q u.0 v.0, count_append q ps qs, u.2 q, v.2 q),
)

picked_skip : (r : ℕ → ℕ) (ps : List ℕ) (x : Item) (xs : List Item) → Picked r ps xs → Picked r ps (x ∷ xs)
picked_skip r ps x xs u = (u.0, skip u.1, u.2)

picked_inner : (r : ℕ → ℕ) (p k : ℕ) (ps : List ℕ) (xs : List Item) → r p ≡ 2 * k → Picked r ps xs → Picked r (p ∷ ps) (key k ∷ xs)
unfolding count
picked_inner r p k ps xs e u = (p ∷ u.0, inner e u.1, λ q. omega (arith, u.2 q))

-- a page moved to the front
front : (r : ℕ → ℕ) (p : ℕ) (ps qs : List ℕ) (xs : List Item) → Picked r (ps ++ p ∷ qs) xs → Picked r (p ∷ (ps ++ qs)) xs
unfolding count
front r p ps qs xs u = (u.0, u.1, λ q. omega (arith, u.2 q, count_append q ps (p ∷ qs), count_append q ps qs))

picked_once : (r : ℕ → ℕ) (qs : List ℕ) (xs : List Item) → Picked r qs xs → Ascends 0 xs → (q : ℕ) → count q qs ≤ 1
picked_once r qs xs u h q = omega (arith, (picks_apart 0 u.1 h).1 q, u.2 q)

-- THE TREE. A page's own number: from word 15, or from word 3 (the first key) of a root that holds less than 4
unfoldable own_of : List ℕ → ℕ → ℕ
own_of w p = 2 * get_or (page_of w p) (cond (leb 4 (fill_of (page_of w p))) 15 3) 0

own_full : (w : List ℕ) (p : ℕ) → 4 ≤ fill_of (page_of w p) → own_of w p ≡ 2 * get_or (page_of w p) 15 0
unfolding own_of
own_full w p h = rw (le_yes 4 (fill_of (page_of w p)) h)

own_few : (w : List ℕ) (p : ℕ) → fill_of (page_of w p) < 4 → own_of w p ≡ 2 * get_or (page_of w p) 3 0
unfolding own_of
own_few w p h = rw (le_no 4 (fill_of (page_of w p)) h)

leaf_picked : (r : ℕ → ℕ) (ws : List ℕ) (p m : ℕ) → 3 ≤ m → r p ≡ 2 * get_or ws 15 0 → Picked r (p ∷ []) (map (λ (e : Entry). start e.region.start) (entries_from ws 0 m))
unfolding entries_from
leaf_picked r ws p zero l e = absurd (omega arith)
leaf_picked r ws p (suc zero) l e = absurd (omega arith)
leaf_picked r ws p (suc (suc zero)) l e = absurd (omega arith)
leaf_picked r ws p (suc (suc (suc m))) l e = (p ∷ [], skip (leaf e (picks_none r _)), λ q. refl)

module _ (w : List ℕ) (h : ℕ) (ws : List ℕ)
    (ih : (c : ℕ) → FillsFrom 4 h w c → Picked (own_of w) (listed_at list_pages w h c) (listed_at list_items w h c)) where
  -- the children from i on, with the keys between them
  from_picked : (i m : ℕ) → Kids (FillsFrom 4 h w) ws i m → Picked (own_of w) (listed_from list_pages w h ws i m) (listed_from list_items w h ws i m)
  from_picked i zero k = rw (from_last list_pages, from_last list_items) (ih (child_in ws i) (kids_first (FillsFrom 4 h w) ws i 0 k))
  from_picked i (suc m) k =
      rw (from_more list_pages, from_more list_items)
      (picked_append (own_of w) (listed_at list_pages w h (child_in ws i)) _ (listed_at list_items w h (child_in ws i)) _
      (ih (child_in ws i) (kids_first (FillsFrom 4 h w) ws i (suc m) k))
      (picked_skip (own_of w) _ (key (get_or ws (key_word i) 0)) _ (from_picked (suc i) m (kids_rest (FillsFrom 4 h w) ws i m k))))

  -- and the page itself, with the key that is the j-th from i on
  own_picked : (p j i m : ℕ) → j < m → own_of w p ≡ 2 * get_or ws (key_word (i + j)) 0 → Kids (FillsFrom 4 h w) ws i m
      → Picked (own_of w) (p ∷ listed_from list_pages w h ws i m) (listed_from list_items w h ws i m)
  own_picked p j i zero l e k = absurd (omega arith)
  own_picked p zero i (suc m) l e k =
      let z : i + 0 ≡ i = omega arith in
      rw (from_more list_pages, from_more list_items)
      (front (own_of w) p (listed_at list_pages w h (child_in ws i)) _ _
      (picked_append (own_of w) (listed_at list_pages w h (child_in ws i)) _ (listed_at list_items w h (child_in ws i)) _
      (ih (child_in ws i) (kids_first (FillsFrom 4 h w) ws i (suc m) k))
      (picked_inner (own_of w) p (get_or ws (key_word i) 0) _ _ (rw z at e) (from_picked (suc i) m (kids_rest (FillsFrom 4 h w) ws i m k)))))
  own_picked p (suc j) i (suc m) l e k =
      let z : i + suc j ≡ suc i + j = omega arith in
      rw (from_more list_pages, from_more list_items)
      (front (own_of w) p (listed_at list_pages w h (child_in ws i)) _ _
      (picked_append (own_of w) (listed_at list_pages w h (child_in ws i)) _ (listed_at list_items w h (child_in ws i)) _
      (ih (child_in ws i) (kids_first (FillsFrom 4 h w) ws i (suc m) k))
      (picked_skip (own_of w) _ (key (get_or ws (key_word i) 0)) _
      (own_picked p j (suc i) m (omega arith) (rw z at e) (kids_rest (FillsFrom 4 h w) ws i m k)))))

below_picked : (w : List ℕ) (h p : ℕ) → FillsFrom 4 h w p → Picked (own_of w) (listed_at list_pages w h p) (listed_at list_items w h p)
below_picked w zero p f =
    rw (listed_leaf list_pages, listed_leaf list_items) (leaf_picked (own_of w) (page_of w p) p (fill_of (page_of w p)) (omega arith) (own_full w p f.0))
below_picked w (suc h) p f =
    rw (listed_inner list_pages, listed_inner list_items)
    (own_picked w h (page_of w p) (below_picked w h) p 3 0 (fill_of (page_of w p)) (omega arith) (own_full w p f.0)
    (kids_all (FillsFrom 4 h w) (page_of w p) (fill_of (page_of w p)) f.2))

root_picked : (w : List ℕ) (h p : ℕ) → FillsFrom 1 (suc h) w p → Picked (own_of w) (listed_at list_pages w (suc h) p) (listed_at list_items w (suc h) p)
root_picked w h p f =
    let k = kids_all (FillsFrom 4 h w) (page_of w p) (fill_of (page_of w p)) f.2 in
    rw (listed_inner list_pages, listed_inner list_items)
    (by_test (leb 4 (fill_of (page_of w p)))
    (λ t. let l = le_of 4 (fill_of (page_of w p)) t in own_picked w h (page_of w p) (below_picked w h) p 3 0 (fill_of (page_of w p)) (omega arith) (own_full w p l) k)
    (λ t. let l = nle_of 4 (fill_of (page_of w p)) t in own_picked w h (page_of w p) (below_picked w h) p 0 0 (fill_of (page_of w p)) (omega arith) (own_few w p l) k))

none_counted : (p : ℕ) → count p [] ≡ 0
unfolding count
none_counted p = refl

single : (q : ℕ) → count q [] ≤ 1
single q = omega (arith, none_counted q)

-- no page stands in the tree twice
pub tree_once : (w : List ℕ) (h p : ℕ) → FillsFrom (root_least h) h w p → Ascends 0 (listed_at list_items w h p) → (q : ℕ) → count q (listed_at list_pages w h p) ≤ 1
tree_once w zero p f a q = rw (listed_leaf list_pages) (once_more q p [] (none_counted p) (single q))
tree_once w (suc h) p f a q = picked_once (own_of w) _ _ (root_picked w h p f) a q
