-- The tests of the pages along the pass, and the tree's own test of its fills, are each one statement on the way down.
-- Assumes nothing.
use Prim.Native.Nat.{ℕ, zero, suc, ◌+◌, ◌≤◌}
use mathlib.Core.Path.{◌≡◌, refl, sym, ap, ap₂, ◌∙◌}
use mathlib.Core.Bool.{Bool, true, ◌&&◌}
use mathlib.Core.List.{List, [], ◌∷◌, ◌++◌}
use lib.Dec.{T, leb, eqb, le→leb}
use lib.ListN.{length, get_or, length-append}
use native.Mathlib.Omega.{arith}
use Rattle.words.specs.Lists.{all, All}
use Rattle.words.proofs.Tests.{of_T, T_of, by_test, eq_of, ne_of, and_left, and_right, and_both}
use Rattle.words.proofs.Listed.{all_append, all_left, all_right, all_test_append}
use Rattle.xrtree.specs.Tree.{list_pages, all_kids}
use Rattle.xrtree.specs.Tree.Item.{key}
use Rattle.xrtree.specs.Rules.{within, filled_below, filled}
use Rattle.pages.specs.Layout.{page_of, fill_of, key_word, child_in, page_used}
use Rattle.image.specs.Read.{kids_from, read_tree}
use Rattle.image.specs.Fills.{FillsFrom, root_least}
use Rattle.image.proofs.Fills.{within_facts}
use Rattle.image.proofs.Listings.{entries_long, kids_long, listed_at, listed_from, from_last, from_more, listed_leaf, listed_inner}
use Rattle.shape.specs.Run.{page_right, start_events, leaf_events, inner_events, events_at}
use Rattle.shape.specs.Run.Event.{item}
use Rattle.shape.proofs.Turns.{inner_suc, inner_zero, events_leaf, events_inner}
use Rattle.shape.proofs.Flat.{each, each_append, tests}

-- a place in range and in use
abbrev pub Held : List ℕ → ℕ → Type 0
Held w p = (1 ≤ p) × (p ≤ 160) × (page_used w p ≡ true)

so_within : (a b n : ℕ) → a ≤ n → n ≤ b → T (within a b n)
so_within a b n h k = and_both (leb a n) _ (le→leb a n h) (le→leb n b k)

right_held : (w : List ℕ) (least p : ℕ) → T (page_right w least p) → Held w p
unfolding page_right
right_held w least p h =
    let a = within_facts 1 160 p (and_left (within 1 160 p) _ h) in
    (a.0, a.1, of_T _ (and_left (page_used w p) _ (and_right (within 1 160 p) _ h)))

right_fill : (w : List ℕ) (least p : ℕ) → T (page_right w least p) → (least ≤ fill_of (page_of w p)) × (fill_of (page_of w p) ≤ 8)
unfolding page_right
right_fill w least p h = within_facts least 8 (fill_of (page_of w p)) (and_right (page_used w p) _ (and_right (within 1 160 p) _ h))

so_right : (w : List ℕ) (least p : ℕ) → Held w p → least ≤ fill_of (page_of w p) → fill_of (page_of w p) ≤ 8 → T (page_right w least p)
unfolding page_right
so_right w least p h a b =
    and_both (within 1 160 p) _ (so_within 1 160 p h.0 h.1) (and_both (page_used w p) _ (T_of h.2) (so_within least 8 (fill_of (page_of w p)) a b))

-- THE TESTS ALONG THE PASS
abbrev pub Ok : List Bool → Type 0
Ok bs = T (all (λ b. b) bs)

ok_parts : (xs ys : List Bool) → Ok (xs ++ ys) → Ok xs × Ok ys
ok_parts xs ys h =
    let k = rw all_test_append at h in
    (and_left (all (λ b. b) xs) _ k, and_right (all (λ b. b) xs) _ k)

ok_join : (xs ys : List Bool) → Ok xs → Ok ys → Ok (xs ++ ys)
ok_join xs ys h k = rw all_test_append (and_both (all (λ b. b) xs) _ h k)

start_tests : (ws : List ℕ) (i m : ℕ) → each tests (start_events ws i m) ≡ []
unfolding start_events
start_tests ws i zero = refl
start_tests ws i (suc m) = start_tests ws (suc i) m

leaf_tests : (ws : List ℕ) (p : ℕ) → each tests (leaf_events ws p) ≡ []
unfolding leaf_events
leaf_tests ws p = start_tests ws 0 (fill_of ws)

tests_leaf : (w : List ℕ) (least p : ℕ) → each tests (events_at w 0 least p) ≡ page_right w least p ∷ []
tests_leaf w least p = ap (each tests) (events_leaf w least p) ∙ ap (λ (l : List Bool). page_right w least p ∷ l) (leaf_tests (page_of w p) p)

abbrev inner_tests : List ℕ → ℕ → List ℕ → ℕ → ℕ → List Bool
inner_tests w h ws i m = each tests (inner_events (events_at w h 4) ws i m)

tests_inner : (w : List ℕ) (h least p : ℕ) → each tests (events_at w (suc h) least p) ≡ page_right w least p ∷ inner_tests w h (page_of w p) 0 (fill_of (page_of w p))
tests_inner w h least p = ap (each tests) (events_inner w h least p)

tests_last : (w : List ℕ) (h : ℕ) (ws : List ℕ) (i : ℕ) → inner_tests w h ws i 0 ≡ each tests (events_at w h 4 (child_in ws i))
tests_last w h ws i = ap (each tests) (inner_zero (events_at w h 4) ws i)

tests_more : (w : List ℕ) (h : ℕ) (ws : List ℕ) (i m : ℕ) → inner_tests w h ws i (suc m) ≡ each tests (events_at w h 4 (child_in ws i)) ++ inner_tests w h ws (suc i) m
tests_more w h ws i m =
    ap (each tests) (inner_suc (events_at w h 4) ws i m) ∙
    each_append tests (events_at w h 4 (child_in ws i)) (item (key (get_or ws (key_word i) 0)) ∷ inner_events (events_at w h 4) ws (suc i) m)

-- something of every child from i on
abbrev pub Kids : (ℕ → Type 0) → List ℕ → ℕ → ℕ → Type 0
Kids P ws i m = (j : ℕ) → i ≤ j → j ≤ i + m → P (child_in ws j)

pub kids_one : (P : ℕ → Type 0) (ws : List ℕ) (i : ℕ) → P (child_in ws i) → Kids P ws i 0
kids_one P ws i x j a b =
    let e : j ≡ i = omega arith in
    rw e x

pub kids_more : (P : ℕ → Type 0) (ws : List ℕ) (i m : ℕ) → P (child_in ws i) → Kids P ws (suc i) m → Kids P ws i (suc m)
kids_more P ws i m x k j a b =
    by_test (eqb j i)
    (λ t. let e : j ≡ i = eq_of j i t in rw e x)
    (λ t. let n : (j ≡ i → ⊥) = ne_of j i t in k j (omega arith) (omega arith))

pub kids_first : (P : ℕ → Type 0) (ws : List ℕ) (i m : ℕ) → Kids P ws i m → P (child_in ws i)
kids_first P ws i m k = k i (omega arith) (omega arith)

pub kids_rest : (P : ℕ → Type 0) (ws : List ℕ) (i m : ℕ) → Kids P ws i (suc m) → Kids P ws (suc i) m
kids_rest P ws i m k j a b = k j (omega arith) (omega arith)

pub kids_all : (P : ℕ → Type 0) (ws : List ℕ) (m : ℕ) → ((j : ℕ) → j ≤ m → P (child_in ws j)) → Kids P ws 0 m
kids_all P ws m k j a b = k j (omega arith)

pub all_of_kids : (P : ℕ → Type 0) (ws : List ℕ) (m : ℕ) → Kids P ws 0 m → (j : ℕ) → j ≤ m → P (child_in ws j)
all_of_kids P ws m k j b = k j (omega arith) (omega arith)

module _ (w : List ℕ) where
  inner_fills : (h : ℕ) → ((c : ℕ) → Ok (each tests (events_at w h 4 c)) → FillsFrom 4 h w c × All (Held w) (listed_at list_pages w h c))
      → (ws : List ℕ) (i m : ℕ) → Ok (inner_tests w h ws i m) → Kids (FillsFrom 4 h w) ws i m × All (Held w) (listed_from list_pages w h ws i m)
  inner_fills h f ws i zero o =
      let r = f (child_in ws i) (rw (tests_last w h ws i) at o) in
      (kids_one (FillsFrom 4 h w) ws i r.0, rw from_last r.1)
  inner_fills h f ws i (suc m) o =
      let q = ok_parts (each tests (events_at w h 4 (child_in ws i))) _ (rw (tests_more w h ws i m) at o) in
      let r = f (child_in ws i) q.0 in
      let s = inner_fills h f ws (suc i) m q.1 in
      (kids_more (FillsFrom 4 h w) ws i m r.0 s.0, rw from_more (all_append (Held w) (listed_at list_pages w h (child_in ws i)) _ r.1 s.1))

  -- where every page is right, the fills are right and the places are held
  pub tests_fills : (h least p : ℕ) → Ok (each tests (events_at w h least p)) → FillsFrom least h w p × All (Held w) (listed_at list_pages w h p)
  unfolding all
  tests_fills zero least p o =
      let q = and_left (page_right w least p) _ (rw (tests_leaf w least p) at o) in
      (right_fill w least p q, rw listed_leaf (right_held w least p q, tt))
  tests_fills (suc h) least p o =
      let q = rw (tests_inner w h least p) at o in
      let a = and_left (page_right w least p) _ q in
      let f = right_fill w least p a in
      let r = inner_fills h (tests_fills h 4) (page_of w p) 0 (fill_of (page_of w p)) (and_right (page_right w least p) _ q) in
      ((f.0, f.1, all_of_kids (FillsFrom 4 h w) (page_of w p) (fill_of (page_of w p)) r.0), rw listed_inner (right_held w least p a, r.1))

  inner_tests_lem : (h : ℕ) → ((c : ℕ) → FillsFrom 4 h w c → All (Held w) (listed_at list_pages w h c) → Ok (each tests (events_at w h 4 c)))
      → (ws : List ℕ) (i m : ℕ) → Kids (FillsFrom 4 h w) ws i m → All (Held w) (listed_from list_pages w h ws i m) → Ok (inner_tests w h ws i m)
  inner_tests_lem h f ws i zero k a = rw (tests_last w h ws i) (f (child_in ws i) (kids_first (FillsFrom 4 h w) ws i 0 k) (rw from_last at a))
  inner_tests_lem h f ws i (suc m) k a =
      let b = rw from_more at a in
      rw (tests_more w h ws i m)
      (ok_join (each tests (events_at w h 4 (child_in ws i))) _
      (f (child_in ws i) (kids_first (FillsFrom 4 h w) ws i (suc m) k) (all_left (Held w) (listed_at list_pages w h (child_in ws i)) _ b))
      (inner_tests_lem h f ws (suc i) m (kids_rest (FillsFrom 4 h w) ws i m k) (all_right (Held w) (listed_at list_pages w h (child_in ws i)) _ b)))

  pub fills_tests : (h least p : ℕ) → FillsFrom least h w p → All (Held w) (listed_at list_pages w h p) → Ok (each tests (events_at w h least p))
  unfolding all
  fills_tests zero least p f a =
      let b = rw listed_leaf at a in
      rw (tests_leaf w least p) (and_both (page_right w least p) _ (so_right w least p b.0 f.0 f.1) tt)
  fills_tests (suc h) least p f a =
      let b = rw listed_inner at a in
      rw (tests_inner w h least p)
      (and_both (page_right w least p) _ (so_right w least p b.0 f.0 f.1)
      (inner_tests_lem h (fills_tests h 4) (page_of w p) 0 (fill_of (page_of w p)) (kids_all (FillsFrom 4 h w) (page_of w p) (fill_of (page_of w p)) f.2) b.1))

  -- as many tests as pages
  inner_length : (h : ℕ) → ((c : ℕ) → length (each tests (events_at w h 4 c)) ≡ length (listed_at list_pages w h c)) → (ws : List ℕ) (i m : ℕ)
      → length (inner_tests w h ws i m) ≡ length (listed_from list_pages w h ws i m)
  inner_length h e ws i zero = rw (tests_last w h ws i, from_last) (e (child_in ws i))
  inner_length h e ws i (suc m) =
      rw (tests_more w h ws i m, from_more)
      (length-append (each tests (events_at w h 4 (child_in ws i))) (inner_tests w h ws (suc i) m) ∙
      ap₂ ◌+◌ (e (child_in ws i)) (inner_length h e ws (suc i) m) ∙ sym (length-append (listed_at list_pages w h (child_in ws i)) (listed_from list_pages w h ws (suc i) m)))

  pub tests_length : (h least p : ℕ) → length (each tests (events_at w h least p)) ≡ length (listed_at list_pages w h p)
  tests_length zero least p = rw (tests_leaf w least p, listed_leaf)
  tests_length (suc h) least p = rw (tests_inner w h least p, listed_inner) (ap suc (inner_length h (tests_length h 4) (page_of w p) 0 (fill_of (page_of w p))))

-- THE TREE'S OWN TEST
module _ {A : Type 0} (q : A → Bool) (child : ℕ → A) (w ws : List ℕ) where
  tested_kids : (i m k : ℕ) → k ≡ i + m → Kids (λ c. T (q (child c))) ws i m → T (all_kids q (kids_from child w ws i m) (child (child_in ws k)))
  unfolding all_kids kids_from
  tested_kids i zero k e t =
      let z : k ≡ i = omega arith in
      rw z (kids_first (λ c. T (q (child c))) ws i 0 t)
  tested_kids i (suc m) k e t =
      and_both (q (child (child_in ws i))) _ (kids_first (λ c. T (q (child c))) ws i (suc m) t)
      (tested_kids (suc i) m k (omega arith) (kids_rest (λ c. T (q (child c))) ws i m t))

module _ (w : List ℕ) where
  -- an inner page's test, with its least fill
  abbrev inner_filled : ℕ → ℕ → ℕ → Bool
  inner_filled least h p =
      within least 8 (fill_of (page_of w p)) &&
      all_kids (filled_below h) (kids_from (read_tree h w) w (page_of w p) 0 (fill_of (page_of w p))) (read_tree h w (child_in (page_of w p) (fill_of (page_of w p))))

  below_leaf : (p : ℕ) → filled_below 0 (read_tree 0 w p) ≡ within 4 8 (fill_of (page_of w p))
  unfolding filled_below read_tree
  below_leaf p = ap (within 4 8) (entries_long (page_of w p) 0 (fill_of (page_of w p)))

  below_inner : (h p : ℕ) → filled_below (suc h) (read_tree (suc h) w p) ≡ inner_filled 4 h p
  unfolding filled_below read_tree
  below_inner h p =
      ap (λ (n : ℕ). within 4 8 n && all_kids (filled_below h) (kids_from (read_tree h w) w (page_of w p) 0 (fill_of (page_of w p))) (read_tree h w (child_in (page_of w p) (fill_of (page_of w p)))))
      (kids_long (read_tree h w) w (page_of w p) 0 (fill_of (page_of w p)))

  root_leaf : (p : ℕ) → filled 0 (read_tree 0 w p) ≡ within 0 8 (fill_of (page_of w p))
  unfolding filled read_tree
  root_leaf p = ap (within 0 8) (entries_long (page_of w p) 0 (fill_of (page_of w p)))

  root_inner : (h p : ℕ) → filled (suc h) (read_tree (suc h) w p) ≡ inner_filled 1 h p
  unfolding filled read_tree
  root_inner h p =
      ap (λ (n : ℕ). within 1 8 n && all_kids (filled_below h) (kids_from (read_tree h w) w (page_of w p) 0 (fill_of (page_of w p))) (read_tree h w (child_in (page_of w p) (fill_of (page_of w p)))))
      (kids_long (read_tree h w) w (page_of w p) 0 (fill_of (page_of w p)))

  so_inner : (least h p : ℕ) → ((c : ℕ) → FillsFrom 4 h w c → T (filled_below h (read_tree h w c))) → FillsFrom least (suc h) w p → T (inner_filled least h p)
  so_inner least h p f t =
      and_both (within least 8 (fill_of (page_of w p))) _ (so_within least 8 (fill_of (page_of w p)) t.0 t.1)
      (tested_kids (filled_below h) (read_tree h w) w (page_of w p) 0 (fill_of (page_of w p)) (fill_of (page_of w p)) (omega arith)
      (λ j a b. f (child_in (page_of w p) j) (t.2 j (omega arith))))

  so_below : (h p : ℕ) → FillsFrom 4 h w p → T (filled_below h (read_tree h w p))
  so_below zero p f = rw below_leaf (so_within 4 8 (fill_of (page_of w p)) f.0 f.1)
  so_below (suc h) p f = rw below_inner (so_inner 4 h p (so_below h) f)

  pub so_filled : (h p : ℕ) → FillsFrom (root_least h) h w p → T (filled h (read_tree h w p))
  so_filled zero p f = rw root_leaf (so_within 0 8 (fill_of (page_of w p)) f.0 f.1)
  so_filled (suc h) p f = rw root_inner (so_inner 1 h p (so_below h) f)
