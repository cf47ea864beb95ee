-- Ascending codes are the declared order: every two starts ascend, and every key separates. (Back, where every leaf has a start: no two keys side by side.)
-- Assumes nothing.
use Prim.Native.Nat.{ℕ, zero, suc, ◌+◌, ◌*◌, ◌<◌, ◌≤◌}
use mathlib.Core.List.{List, [], ◌∷◌, ◌++◌, map}
use lib.Dec.{ltb}
use lib.ListN.{get_or}
use native.Mathlib.Omega.{arith}
use Rattle.words.specs.Lists.{All, Pairs, all_pairs}
use Rattle.words.proofs.Listed.{all_mono}
use Rattle.words.proofs.Says.{Says, always, and_says, lt_says, le_says, pairs_say}
use Rattle.xrtree.specs.Tree.{Entry, Item, list_items}
use Rattle.xrtree.specs.Tree.Item.{start, key}
use Rattle.xrtree.specs.Rules.{separates}
use Rattle.pages.specs.Layout.{page_of, fill_of, key_word, child_in}
use Rattle.image.specs.Read.{entries_from}
use Rattle.image.specs.Fills.{FillsFrom}
use Rattle.image.proofs.Listings.{listed_at, listed_from, from_last, from_more, listed_leaf, listed_inner}
use Rattle.shape.specs.Run.{code}
use Rattle.shape.proofs.Flat.{each, ascends}
use Rattle.shape.proofs.Follow.{start_in}
use Rattle.shape.proofs.Filling.{Kids, kids_first, kids_rest, kids_all}

-- as statements
abbrev pub Ascends : ℕ → List Item → Type 0
Ascends a [] = Unit {0}
Ascends a (x ∷ xs) = (a ≤ code x) × Ascends (code x + 1) xs

pub ascends_says : (a : ℕ) (xs : List Item) → Says (ascends a xs) (Ascends a xs)
unfolding ascends
ascends_says a [] = always
ascends_says a (x ∷ xs) = and_says (le_says a (code x)) (ascends_says (code x + 1) xs)

abbrev pub Separates : Item → Item → Type 0
Separates (start a) (start b) = Unit {0}
Separates (start a) (key k) = a < k
Separates (key k) (start b) = k ≤ b
Separates (key k) (key l) = Unit {0}

pub separates_says : (x y : Item) → Says (separates x y) (Separates x y)
unfolding separates
separates_says (start a) (start b) = always
separates_says (start a) (key k) = lt_says a k
separates_says (key k) (start b) = le_says k b
separates_says (key k) (key l) = always

pub starts_say : (ss : List ℕ) → Says (all_pairs ltb ss) (Pairs (λ a b. a < b) ss)
starts_say ss = pairs_say lt_says ss

-- FROM CODES TO THE ORDER: all later codes are greater
all_above : (a : ℕ) (xs : List Item) → Ascends a xs → All (λ y. a ≤ code y) xs
all_above a [] h = tt
all_above a (x ∷ xs) h = (h.0, all_mono (λ y k. omega arith) xs (all_above (code x + 1) xs h.1))

separates_of : (x y : Item) → code x + 1 ≤ code y → Separates x y
unfolding code
separates_of (start a) (start b) h = tt
separates_of (start a) (key b) h = omega arith
separates_of (key a) (start b) h = omega arith
separates_of (key a) (key b) h = tt

pub ascends_separate : (a : ℕ) (xs : List Item) → Ascends a xs → Pairs Separates xs
ascends_separate a [] h = tt
ascends_separate a (x ∷ xs) h = (all_mono (λ y k. separates_of x y k) xs (all_above (code x + 1) xs h.1), ascends_separate (code x + 1) xs h.1)

-- the starts among items whose codes are at least a
starts_above : (a : ℕ) (xs : List Item) → All (λ y. a ≤ code y) xs → All (λ s. a ≤ 2 * s + 1) (each start_in xs)
unfolding code
starts_above a [] h = tt
starts_above a (start s ∷ xs) h = (h.0, starts_above a xs h.1)
starts_above a (key k ∷ xs) h = starts_above a xs h.1

pub ascends_starts : (a : ℕ) (xs : List Item) → Ascends a xs → Pairs (λ s t. s < t) (each start_in xs)
unfolding code
ascends_starts a [] h = tt
ascends_starts a (start s ∷ xs) h =
    (all_mono (λ t k. omega arith) (each start_in xs) (starts_above (2 * s + 1 + 1) xs (all_above (2 * s + 1 + 1) xs h.1)), ascends_starts (2 * s + 1 + 1) xs h.1)
ascends_starts a (key k ∷ xs) h = ascends_starts (2 * k + 1) xs h.1

-- AND BACK: a list that begins and ends with a start, and has no two keys side by side
pub data Woven : List Item → Type 0 where
  one : {s : ℕ} → Woven (start s ∷ [])
  more : {s : ℕ} {xs : List Item} → Woven xs → Woven (start s ∷ xs)
  over : {s k : ℕ} {xs : List Item} → Woven xs → Woven (start s ∷ key k ∷ xs)

woven_key : {xs ys : List Item} (k : ℕ) → Woven xs → Woven ys → Woven (xs ++ key k ∷ ys)
woven_key k one w = over w
woven_key k (more v) w = more (woven_key k v w)
woven_key k (over v) w = over (woven_key k v w)

-- nothing right of a key starts before it
key_below : (k : ℕ) (xs : List Item) → All (Separates (key k)) xs → All (λ s. k ≤ s) (each start_in xs)
key_below k [] h = tt
key_below k (start s ∷ xs) h = (h.0, key_below k xs h.1)
key_below k (key l ∷ xs) h = key_below k xs h.1

order_ascends : {xs : List Item} (a : ℕ) → Woven xs → Pairs Separates xs → Pairs (λ s t. s < t) (each start_in xs) → All (λ s. a ≤ 2 * s + 1) (each start_in xs) → Ascends a xs
unfolding code
order_ascends a one p q l = (l.0, tt)
order_ascends a (more {s = s} {xs = xs} w) p q l =
    (l.0, order_ascends (2 * s + 1 + 1) w p.1 q.1 (all_mono (λ t k. omega arith) (each start_in xs) q.0))
order_ascends a (over {s = s} {k = k} {xs = xs} w) p q l =
    let m : s < k = p.0.0 in
    (l.0, (omega arith, order_ascends (2 * k + 1) w p.1.1 q.1 (all_mono (λ t j. omega arith) (each start_in xs) (key_below k xs p.1.0))))

pub woven_ascends : {xs : List Item} → Woven xs → Pairs Separates xs → Pairs (λ s t. s < t) (each start_in xs) → Ascends 0 xs
woven_ascends {xs} w p q = order_ascends 0 w p q (every (each start_in xs))
  where
    every : (ss : List ℕ) → All (λ s. 0 ≤ 2 * s + 1) ss
    every [] = tt
    every (s ∷ ss) = (omega arith, every ss)

-- a tree with rightly filled pages is woven
pub leaf_woven : (ws : List ℕ) (i m : ℕ) → 0 < m → Woven (map (λ (e : Entry). start e.region.start) (entries_from ws i m))
unfolding entries_from
leaf_woven ws i zero l = absurd (omega arith)
leaf_woven ws i (suc zero) l = one
leaf_woven ws i (suc (suc m)) l = more (leaf_woven ws (suc i) (suc m) (omega arith))

inner_woven : (w : List ℕ) (h : ℕ) → ((c : ℕ) → FillsFrom 4 h w c → Woven (listed_at list_items w h c)) → (ws : List ℕ) (i m : ℕ)
    → Kids (FillsFrom 4 h w) ws i m → Woven (listed_from list_items w h ws i m)
inner_woven w h f ws i zero k = rw from_last (f (child_in ws i) (kids_first (FillsFrom 4 h w) ws i 0 k))
inner_woven w h f ws i (suc m) k =
    rw from_more
    (woven_key (get_or ws (key_word i) 0) (f (child_in ws i) (kids_first (FillsFrom 4 h w) ws i (suc m) k))
    (inner_woven w h f ws (suc i) m (kids_rest (FillsFrom 4 h w) ws i m k)))

pub tree_woven : (w : List ℕ) (h least p : ℕ) → 0 < least → FillsFrom least h w p → Woven (listed_at list_items w h p)
tree_woven w zero least p l f = rw listed_leaf (leaf_woven (page_of w p) 0 (fill_of (page_of w p)) (omega arith))
tree_woven w (suc h) least p l f =
    rw listed_inner
    (inner_woven w h (λ c. tree_woven w h 4 c (omega arith)) (page_of w p) 0 (fill_of (page_of w p)) (kids_all (FillsFrom 4 h w) (page_of w p) (fill_of (page_of w p)) f.2))
