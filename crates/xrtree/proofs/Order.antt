-- The order of a tree read from left to right (rules 1 and 2), of every pair of starts and keys, and its nested form `In`.
-- One strict order of codes says both rules: a start s is 2 s + 1, a key k is 2 k. The declared rule 2 compares no two keys; where no leaf is empty, that is the same.
-- Assumes nothing.
use Prim.Native.Nat.{ℕ, zero, suc, ◌+◌, ◌*◌, ◌≤◌, ◌<◌}
use mathlib.Core.Path.{◌≡◌, refl, sym, ap, ap₂, ◌∙◌, subst}
use mathlib.Core.List.{List, [], ◌∷◌, ◌++◌, map}
use lib.Dec.{T}
use lib.ListN.{length}
use native.Mathlib.Omega.{arith}
use Rattle.words.specs.Lists.{All, Pairs}
use Rattle.words.proofs.Tests.{and_left, and_right}
use Rattle.words.proofs.Listed.{all_mono, all_append, all_left, all_right, pairs_mono, pairs_left, pairs_right_lem, pairs_append, map_append, all_map}
use Rattle.words.proofs.Says.{Says, always, lt_says, le_says, pairs_say}
use Rattle.regions.specs.declared.Region.{Region}
use Rattle.xrtree.specs.Tree.{Entry, Key, Tree, weave, listed, region_of, regions, Item, items, all_kids}
use Rattle.xrtree.specs.Tree.Item.{start, key}
use Rattle.xrtree.specs.Rules.{rule2, separates, filled, filled_below, within}
use Rattle.xrtree.specs.Claims.{regions_in, Within, InKids, In}

abbrev pub code_of : Item → ℕ
code_of (start s) = 2 * s + 1
code_of (key k) = 2 * k

abbrev pub Less : Item → Item → Type 0
Less x y = code_of x < code_of y

abbrev pub Bounded : ℕ → ℕ → List Item → Type 0
Bounded lo hi xs = All (λ (x : Item). (2 * lo ≤ suc (code_of x)) × (code_of x < 2 * hi)) xs

abbrev pub Rising : List Region → Type 0
Rising rs = Pairs (λ (x y : Region). x.start < y.start) rs

-- the starts and keys of a page's children; of a leaf's entries
abbrev pub items_in : (h : ℕ) → List (Tree h × Key) → Tree h → List Item
items_in h cs z = weave (items h) (λ (k : Key). key k.key ∷ []) cs z

abbrev pub start_item : Entry → Item
start_item e = start e.region.start

-- EVERY PAIR → NESTED
all_cross : {A : Type 0} (R : A → A → Type 0) (xs : List A) (y : A) (ys : List A) → Pairs R (xs ++ y ∷ ys) → All (λ x. R x y) xs
all_cross R [] y ys p = tt
all_cross R (x ∷ xs) y ys p = ((all_right (R x) xs (y ∷ ys) p.0).0, all_cross R xs y ys p.1)

leaf_within : (lo hi : ℕ) (es : List Entry) → Bounded lo hi (map start_item es) → Within lo hi es
leaf_within lo hi [] b = tt
leaf_within lo hi (e ∷ es) b = ((omega (arith, b.0.0), omega (arith, b.0.1)), leaf_within lo hi es b.1)

kids_in : (h : ℕ) → ((lo hi : ℕ) (c : Tree h) → Bounded lo hi (items h c) → Pairs Less (items h c) → In h lo hi c) → (lo hi : ℕ) (cs : List (Tree h × Key)) (last : Tree h)
    → Bounded lo hi (items_in h cs last) → Pairs Less (items_in h cs last) → InKids (In h) lo hi cs last
unfolding weave
kids_in h ih lo hi [] last b p = ih lo hi last b p
kids_in h ih lo hi (c ∷ cs) last b p =
    let k = c.1.key in
    let rest = items_in h cs last in
    let r = all_right _ (items h c.0) (key k ∷ rest) b in
    let q = pairs_right_lem Less (items h c.0) (key k ∷ rest) p in (
      (omega (arith, r.0.0), omega (arith, r.0.1)),
      ih lo k c.0 (both_of k (items h c.0) (all_left _ (items h c.0) (key k ∷ rest) b) (all_cross Less (items h c.0) (key k) rest p)) (pairs_left Less (items h c.0) (key k ∷ rest) p),
      kids_in h ih (suc k) hi cs last (above k rest r.1 q.0) q.1,
    )
  where
    both_of : (k : ℕ) (xs : List Item) → Bounded lo hi xs → All (λ x. code_of x < 2 * k) xs → Bounded lo k xs
    both_of k [] a b = tt
    both_of k (x ∷ xs) a b = ((a.0.0, b.0), both_of k xs a.1 b.1)

    above : (k : ℕ) (xs : List Item) → Bounded lo hi xs → All (λ x. 2 * k < code_of x) xs → Bounded (suc k) hi xs
    above k [] a b = tt
    above k (x ∷ xs) a b = ((omega (arith, b.0), a.0.1), above k xs a.1 b.1)

pub order_in : (h lo hi : ℕ) (t : Tree h) → Bounded lo hi (items h t) → Pairs Less (items h t) → In h lo hi t
unfolding listed
order_in zero lo hi t b p = leaf_within lo hi t.entries b
order_in (suc h) lo hi t b p = kids_in h (λ lo hi c b p. order_in h lo hi c b p) lo hi t.kids t.last b p

-- NESTED, and starts that ascend, → EVERY PAIR
leaf_codes : (lo hi : ℕ) (es : List Entry) → Within lo hi es → Bounded lo hi (map start_item es)
leaf_codes lo hi [] w = tt
leaf_codes lo hi (e ∷ es) w = ((omega (arith, w.0.0), omega (arith, w.0.1)), leaf_codes lo hi es w.1)

kids_codes : (h : ℕ) → ((lo hi : ℕ) (c : Tree h) → In h lo hi c → Bounded lo hi (items h c)) → (lo hi : ℕ) (cs : List (Tree h × Key)) (last : Tree h) → InKids (In h) lo hi cs last
    → Bounded lo hi (items_in h cs last)
unfolding weave
kids_codes h ih lo hi [] last i = ih lo hi last i
kids_codes h ih lo hi (c ∷ cs) last i =
    all_append _ (items h c.0) (key c.1.key ∷ items_in h cs last)
    (all_mono (λ x w. (w.0, omega (arith, w.1, i.0.1))) (items h c.0) (ih lo c.1.key c.0 i.1))
    ((omega (arith, i.0.0), omega (arith, i.0.1)), all_mono (λ x w. (omega (arith, w.0, i.0.0), w.1)) (items_in h cs last) (kids_codes h ih (suc c.1.key) hi cs last i.2))

pub in_codes : (h lo hi : ℕ) (t : Tree h) → In h lo hi t → Bounded lo hi (items h t)
unfolding listed
in_codes zero lo hi t i = leaf_codes lo hi t.entries i
in_codes (suc h) lo hi t i = kids_codes h (λ lo hi c j. in_codes h lo hi c j) lo hi t.kids t.last i

leaf_rising : (es : List Entry) → Rising (map region_of es) → Pairs Less (map start_item es)
leaf_rising [] r = tt
leaf_rising (e ∷ es) r = (go es r.0, leaf_rising es r.1)
  where
    go : (fs : List Entry) → All (λ (y : Region). e.region.start < y.start) (map region_of fs) → All (Less (start_item e)) (map start_item fs)
    go [] a = tt
    go (f ∷ fs) a = (omega (arith, a.0), go fs a.1)

kids_order : (h : ℕ) → ((lo hi : ℕ) (c : Tree h) → In h lo hi c → Rising (regions h c) → Pairs Less (items h c)) → (lo hi : ℕ) (cs : List (Tree h × Key)) (last : Tree h) → InKids (In h) lo hi cs last
    → Rising (regions_in h cs last) → Pairs Less (items_in h cs last)
unfolding weave
kids_order h ih lo hi [] last i r = ih lo hi last i r
kids_order h ih lo hi (c ∷ cs) last i r =
    let k = c.1.key in
    let rest = items_in h cs last in
    let right : All (Less (key k)) rest = all_mono (λ x w. omega (arith, w.0)) rest (kids_codes h (in_codes h) (suc k) hi cs last i.2) in
    pairs_append Less (items h c.0) (key k ∷ rest) (ih lo k c.0 i.1 (pairs_left _ (regions h c.0) (regions_in h cs last) r))
    (right, kids_order h ih (suc k) hi cs last i.2 (pairs_right_lem _ (regions h c.0) (regions_in h cs last) r))
    (all_mono (λ x w. (w.1, all_mono (λ y v. omega (arith, v, w.1)) rest right)) (items h c.0) (in_codes h lo k c.0 i.1))

pub in_order : (h lo hi : ℕ) (t : Tree h) → In h lo hi t → Rising (regions h t) → Pairs Less (items h t)
unfolding listed
in_order zero lo hi t i r = leaf_rising t.entries r
in_order (suc h) lo hi t i r = kids_order h (λ lo hi c j r. in_order h lo hi c j r) lo hi t.kids t.last i r

-- THE DECLARED RULE 2
abbrev pub Apart : Item → Item → Type 0
Apart (start a) (start b) = Unit {0}
Apart (start a) (key k) = a < k
Apart (key k) (start b) = k ≤ b
Apart (key k) (key l) = Unit {0}

apart_says : (x y : Item) → Says (separates x y) (Apart x y)
unfolding separates
apart_says (start a) (start b) = always
apart_says (start a) (key k) = lt_says a k
apart_says (key k) (start b) = le_says k b
apart_says (key k) (key l) = always

pub rule2_says : (h : ℕ) (t : Tree h) → Says (rule2 h t) (Pairs Apart (items h t))
unfolding rule2
rule2_says h t = pairs_say apart_says (items h t)

less_apart : (x y : Item) → Less x y → Apart x y
less_apart (start s) (start t) h = tt
less_apart (start s) (key k) h = omega arith
less_apart (key k) (start s) h = omega arith
less_apart (key k) (key j) h = tt

pub order_rule2 : (h : ℕ) (t : Tree h) → Pairs Less (items h t) → T (rule2 h t)
order_rule2 h t p = (rule2_says h t).so_yes (pairs_mono less_apart (items h t) p)

-- no two keys side by side, a start at both ends
data Woven : List Item → Type 0 where
  one : {s : ℕ} → Woven (start s ∷ [])
  more : {s : ℕ} {xs : List Item} → Woven xs → Woven (start s ∷ xs)
  over : {s k : ℕ} {xs : List Item} → Woven xs → Woven (start s ∷ key k ∷ xs)

woven_key : {xs ys : List Item} (k : ℕ) → Woven xs → Woven ys → Woven (xs ++ key k ∷ ys)
woven_key k one w = over w
woven_key k (more v) w = more (woven_key k v w)
woven_key k (over v) w = over (woven_key k v w)

-- the starts alone
abbrev starts_in : List Item → List ℕ
starts_in [] = []
starts_in (start s ∷ xs) = s ∷ starts_in xs
starts_in (key k ∷ xs) = starts_in xs

abbrev Smaller : ℕ → ℕ → Type 0
Smaller a b = a < b

start_less : (s : ℕ) (xs : List Item) → All (Apart (start s)) xs → All (Smaller s) (starts_in xs) → All (Less (start s)) xs
start_less s [] a b = tt
start_less s (start t ∷ xs) a b = (omega (arith, b.0), start_less s xs a.1 b.1)
start_less s (key k ∷ xs) a b = (omega (arith, a.0), start_less s xs a.1 b)

-- a key is below what follows, since a start that is at least the key comes next
key_ahead : {xs : List Item} (k : ℕ) → Woven xs → All (Apart (key k)) xs → Pairs Less xs → All (Less (key k)) xs
key_ahead k (one {s = s}) a p = (omega (arith, a.0), tt)
key_ahead k (more {s = s} {xs = xs} w) a p = (omega (arith, a.0), all_mono (λ x v. omega (arith, v, a.0)) xs p.0)
key_ahead k (over {s = s} {k = j} {xs = xs} w) a p = (omega (arith, a.0), (omega (arith, a.0, p.0.0), all_mono (λ x v. omega (arith, v, a.0)) xs p.0.1))

woven_order : {xs : List Item} → Woven xs → Pairs Apart xs → Pairs Smaller (starts_in xs) → Pairs Less xs
woven_order one p q = (tt, tt)
woven_order (more {s = s} {xs = xs} w) p q = (start_less s xs p.0 q.0, woven_order w p.1 q.1)
woven_order (over {s = s} {k = k} {xs = xs} w) p q =
    let r = woven_order w p.1.1 q.1 in
    (start_less s (key k ∷ xs) p.0 q.0, (key_ahead k w p.1.0 r, r))

-- no leaf of a filled page is empty
leaf_woven : (e : Entry) (es : List Entry) → Woven (map start_item (e ∷ es))
leaf_woven e [] = one
leaf_woven e (f ∷ fs) = more (leaf_woven f fs)

full_woven : (es : List Entry) → T (within 4 8 (length es)) → Woven (map start_item es)
full_woven [] f = absurd f
full_woven (e ∷ es) f = leaf_woven e es

kids_woven : (h : ℕ) → ((c : Tree h) → T (filled_below h c) → Woven (items h c)) → (cs : List (Tree h × Key)) (last : Tree h) → T (all_kids (filled_below h) cs last) → Woven (items_in h cs last)
unfolding weave all_kids
kids_woven h ih [] last f = ih last f
kids_woven h ih (c ∷ cs) last f =
    woven_key c.1.key (ih c.0 (and_left (filled_below h c.0) _ f)) (kids_woven h ih cs last (and_right (filled_below h c.0) _ f))

woven : (h : ℕ) (t : Tree h) → T (filled_below h t) → Woven (items h t)
unfolding listed filled_below
woven zero t f = full_woven t.entries f
woven (suc h) t f = kids_woven h (λ c g. woven h c g) t.kids t.last (and_right (within 4 8 (length t.kids)) _ f)

-- the starts of the items are those of the regions
starts_append : (xs ys : List Item) → starts_in (xs ++ ys) ≡ starts_in xs ++ starts_in ys
starts_append [] ys = refl
starts_append (start s ∷ xs) ys = ap (s ∷◌) (starts_append xs ys)
starts_append (key k ∷ xs) ys = starts_append xs ys

abbrev start_of : Region → ℕ
start_of r = r.start

leaf_starts : (es : List Entry) → starts_in (map start_item es) ≡ map start_of (map region_of es)
leaf_starts [] = refl
leaf_starts (e ∷ es) = ap (e.region.start ∷◌) (leaf_starts es)

kids_starts : (h : ℕ) → ((c : Tree h) → starts_in (items h c) ≡ map start_of (regions h c)) → (cs : List (Tree h × Key)) (last : Tree h) → starts_in (items_in h cs last) ≡ map start_of (regions_in h cs last)
unfolding weave
kids_starts h ih [] last = ih last
kids_starts h ih (c ∷ cs) last =
    starts_append (items h c.0) (key c.1.key ∷ items_in h cs last) ∙ ap₂ ◌++◌ (ih c.0) (kids_starts h ih cs last)
    ∙ sym (map_append start_of (regions h c.0) (regions_in h cs last))

starts_regions : (h : ℕ) (t : Tree h) → starts_in (items h t) ≡ map start_of (regions h t)
unfolding listed
starts_regions zero t = leaf_starts t.entries
starts_regions (suc h) t = kids_starts h (λ c. starts_regions h c) t.kids t.last

rising_starts : (rs : List Region) → Rising rs → Pairs Smaller (map start_of rs)
rising_starts [] p = tt
rising_starts (r ∷ rs) p = (all_map (Smaller r.start) start_of rs p.0, rising_starts rs p.1)

-- a root that is a leaf may be empty: there is no key then
root_order : (h : ℕ) (t : Tree h) → T (filled h t) → Pairs Apart (items h t) → Rising (regions h t) → Pairs Less (items h t)
unfolding filled listed
root_order zero t f p r = leaf_rising t.entries r
root_order (suc h) t f p r =
    woven_order (kids_woven h (λ c g. woven h c g) t.kids t.last (and_right (within 1 8 (length t.kids)) _ f)) p
    (subst (Pairs Smaller) (sym (starts_regions (suc h) t)) (rising_starts (regions (suc h) t) r))

pub rules_order : (h : ℕ) (t : Tree h) → T (filled h t) → T (rule2 h t) → Rising (regions h t) → Pairs Less (items h t)
rules_order h t f p r = root_order h t f ((rule2_says h t).yes_so p) r
