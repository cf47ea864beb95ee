-- What is taken of the events is what is listed of the tree: its starts and keys, and its leaves.
-- Assumes nothing.
use Prim.Native.Nat.{ℕ, zero, suc, ◌+◌}
use mathlib.Core.Path.{◌≡◌, refl, sym, ap, ap₂, ◌∙◌}
use mathlib.Core.Bool.{Bool, false, ◌&&◌}
use mathlib.Core.List.{List, [], ◌∷◌, ◌++◌, map}
use lib.Dec.{eqb, ltb, eqb-suc-suc, eqb-suc-zero}
use lib.ListN.{length, get_or}
use native.Mathlib.Numerals.{add-one}
use Rattle.words.specs.Lists.{all, all_pairs}
use Rattle.words.proofs.Tests.{and_true}
use Rattle.regions.specs.declared.Region.{Region}
use Rattle.xrtree.specs.Tree.{Entry, Key, Leaf, Tree, Item, Listing, weave, listed, list_regions, list_leaves, list_items, regions, leaves, items}
use Rattle.xrtree.specs.Tree.Item.{start, key}
use Rattle.xrtree.specs.Rules.{first_place, linked, starts_first}
use Rattle.pages.specs.Layout.{page_of, fill_of, next_of, entry_word, key_word, child_in}
use Rattle.image.specs.Read.{entries_from, key_at}
use Rattle.image.proofs.Listings.{leaf_at, listed_at, listed_from, from_last, from_more, listed_leaf, listed_inner}
use Rattle.shape.specs.Run.{Event, page_right, start_events, leaf_events, inner_events, events_at}
use Rattle.shape.specs.Run.Event.{page, item}
use Rattle.shape.proofs.Turns.{inner_suc, inner_zero, events_leaf, events_inner}
use Rattle.shape.proofs.Flat.{each, each_append, links, points, chained}

-- FROM THE EVENTS TO A LISTING, hook by hook
module _ {B : Type 0} (φ : Event → List B) (M : Listing B) (w : List ℕ)
    (lf : (g : Bool) (p : ℕ) → each φ (page g ∷ leaf_events (page_of w p) p) ≡ M.on_leaf (leaf_at w p))
    (pg : (g : Bool) (p n : ℕ) → φ (page g) ≡ M.on_page p n)
    (ky : (ws : List ℕ) (i : ℕ) → φ (item (key (get_or ws (key_word i) 0))) ≡ M.on_key (key_at w ws i)) where
  inner_each : (h : ℕ) (f : ℕ → List Event) → ((c : ℕ) → each φ (f c) ≡ listed_at M w h c) → (ws : List ℕ) (i m : ℕ)
      → each φ (inner_events f ws i m) ≡ listed_from M w h ws i m
  inner_each h f e ws i zero = ap (each φ) (inner_zero f ws i) ∙ e (child_in ws i) ∙ sym (from_last M w h ws i)
  inner_each h f e ws i (suc m) =
      ap (each φ) (inner_suc f ws i m) ∙ each_append φ (f (child_in ws i)) (item (key (get_or ws (key_word i) 0)) ∷ inner_events f ws (suc i) m) ∙
      ap₂ ◌++◌ (e (child_in ws i)) (ap₂ ◌++◌ (ky ws i) (inner_each h f e ws (suc i) m)) ∙ sym (from_more M w h ws i m)

  pub events_each : (h least p : ℕ) → each φ (events_at w h least p) ≡ listed_at M w h p
  events_each zero least p = ap (each φ) (events_leaf w least p) ∙ lf (page_right w least p) p ∙ sym (listed_leaf M w p)
  events_each (suc h) least p =
      ap (each φ) (events_inner w h least p) ∙
      ap₂ ◌++◌ (pg (page_right w least p) p (fill_of (page_of w p))) (inner_each h (events_at w h 4) (events_each h 4) (page_of w p) 0 (fill_of (page_of w p))) ∙
      sym (listed_inner M w h p)

-- starts and keys
start_points : (ws : List ℕ) (i m : ℕ) → each points (start_events ws i m) ≡ map (λ (e : Entry). start e.region.start) (entries_from ws i m)
unfolding start_events entries_from
start_points ws i zero = refl
start_points ws i (suc m) = ap (λ (l : List Item). start (get_or ws (entry_word i) 0) ∷ l) (start_points ws (suc i) m)

leaf_points : (w : List ℕ) (g : Bool) (p : ℕ) → each points (page g ∷ leaf_events (page_of w p) p) ≡ list_items.on_leaf (leaf_at w p)
unfolding leaf_events
leaf_points w g p = start_points (page_of w p) 0 (fill_of (page_of w p))

pub points_of : (w : List ℕ) (h least p : ℕ) → each points (events_at w h least p) ≡ listed_at list_items w h p
points_of w = events_each points list_items w (leaf_points w) (λ g p n. refl) (λ ws i. refl)

-- leaves, each with the place it leads to
abbrev pub list_links : Listing (ℕ × ℕ)
list_links = record { on_leaf = λ l. (l.place, l.next) ∷ []; on_page = λ p n. []; on_key = λ k. [] }

start_links : (ws : List ℕ) (i m : ℕ) → each links (start_events ws i m) ≡ []
unfolding start_events
start_links ws i zero = refl
start_links ws i (suc m) = start_links ws (suc i) m

leaf_links : (w : List ℕ) (g : Bool) (p : ℕ) → each links (page g ∷ leaf_events (page_of w p) p) ≡ list_links.on_leaf (leaf_at w p)
unfolding leaf_events
leaf_links w g p = ap (λ (l : List (ℕ × ℕ)). (p, next_of (page_of w p)) ∷ l) (start_links (page_of w p) 0 (fill_of (page_of w p)))

pub links_of : (w : List ℕ) (h least p : ℕ) → each links (events_at w h least p) ≡ listed_at list_links w h p
links_of w = events_each links list_links w (leaf_links w) (λ g p n. refl) (λ ws i. refl)

-- FROM ONE LISTING TO ANOTHER
module _ {A B : Type 0} (φ : A → List B) (L : Listing A) (M : Listing B)
    (lf : (t : Leaf) → each φ (L.on_leaf t) ≡ M.on_leaf t)
    (pg : (p n : ℕ) → each φ (L.on_page p n) ≡ M.on_page p n)
    (ky : (k : Key) → each φ (L.on_key k) ≡ M.on_key k) where
  weave_each : {C : Type 0} (f : C → List A) (g : C → List B) → ((c : C) → each φ (f c) ≡ g c) → (cs : List (C × Key)) (last : C)
      → each φ (weave f L.on_key cs last) ≡ weave g M.on_key cs last
  unfolding weave
  weave_each f g e [] last = e last
  weave_each f g e (c ∷ cs) last =
      each_append φ (f c.0) (L.on_key c.1 ++ weave f L.on_key cs last) ∙
      ap₂ ◌++◌ (e c.0) (each_append φ (L.on_key c.1) (weave f L.on_key cs last) ∙ ap₂ ◌++◌ (ky c.1) (weave_each f g e cs last))

  pub listed_each : (h : ℕ) (t : Tree h) → each φ (listed L h t) ≡ listed M h t
  unfolding listed
  listed_each zero t = lf t
  listed_each (suc h) t =
      each_append φ (L.on_page t.place (length t.kids)) (weave (listed L h) L.on_key t.kids t.last) ∙
      ap₂ ◌++◌ (pg t.place (length t.kids)) (weave_each (listed L h) (listed M h) (listed_each h) t.kids t.last)

-- the starts, of the regions and among the items
abbrev pub list_starts : Listing ℕ
list_starts = record { on_leaf = λ l. map (λ (e : Entry). e.region.start) l.entries; on_page = λ p n. []; on_key = λ k. [] }

abbrev pub start_of : Region → List ℕ
start_of r = r.start ∷ []

abbrev pub start_in : Item → List ℕ
start_in (start s) = s ∷ []
start_in (key k) = []

entry_regions_lem : (es : List Entry) → each start_of (map (λ (e : Entry). e.region) es) ≡ map (λ (e : Entry). e.region.start) es
entry_regions_lem [] = refl
entry_regions_lem (e ∷ es) = ap (λ (l : List ℕ). e.region.start ∷ l) (entry_regions_lem es)

entry_items : (es : List Entry) → each start_in (map (λ (e : Entry). start e.region.start) es) ≡ map (λ (e : Entry). e.region.start) es
entry_items [] = refl
entry_items (e ∷ es) = ap (λ (l : List ℕ). e.region.start ∷ l) (entry_items es)

pub starts_same : (h : ℕ) (t : Tree h) → each start_of (regions h t) ≡ each start_in (items h t)
starts_same h t =
    listed_each start_of list_regions list_starts (λ l. entry_regions_lem l.entries) (λ p n. refl) (λ k. refl) h t ∙
    sym (listed_each start_in list_items list_starts (λ l. entry_items l.entries) (λ p n. refl) (λ k. refl) h t)

first_starts : (r : Region) (rs : List Region) → all (starts_first r) rs ≡ all (λ b. ltb r.start b) (each start_of rs)
unfolding all starts_first
first_starts r [] = refl
first_starts r (q ∷ rs) = ap (λ b. ltb r.start q.start && b) (first_starts r rs)

pub starts_pairs : (rs : List Region) → all_pairs starts_first rs ≡ all_pairs ltb (each start_of rs)
unfolding all_pairs
starts_pairs [] = refl
starts_pairs (r ∷ rs) = ap₂ ◌&&◌ (first_starts r rs) (starts_pairs rs)

-- the leaves
abbrev link_of : Leaf → List (ℕ × ℕ)
link_of l = (l.place, l.next) ∷ []

links_same : (h : ℕ) (t : Tree h) → each link_of (leaves h t) ≡ listed list_links h t
links_same h t = listed_each link_of list_leaves list_links (λ l. refl) (λ p n. refl) (λ k. refl) h t

eq_more : (m n : ℕ) → eqb (m + 1) (n + 1) ≡ eqb m n
eq_more m n = rw (add-one m, add-one n) (eqb-suc-suc m n)

eq_none : (m : ℕ) → eqb (m + 1) 0 ≡ false
eq_none m = rw (add-one m) (eqb-suc-zero m)

chain_more : (l : ℕ) (ls : List Leaf) → chained (l + 1) (each link_of ls) ≡ (eqb l (first_place ls) && linked ls)
unfolding chained first_place linked
chain_more l [] = rw (eq_more l 0, and_true)
chain_more l (q ∷ ls) = rw (eq_none l, eq_more l q.place, chain_more q.next ls)

chain_first : (q : Leaf) (ls : List Leaf) → chained 0 (each link_of (q ∷ ls)) ≡ linked (q ∷ ls)
unfolding chained linked
chain_first q ls = chain_more q.next ls

-- a tree has a leaf
abbrev Some : List Leaf → Type 0
Some l = (q : Leaf) × (qs : List Leaf) × (l ≡ q ∷ qs)

some_more : (l m : List Leaf) → Some l → Some (l ++ m)
some_more l m s = (s.0, s.1 ++ m, ap (λ k. k ++ m) s.2)

some_weave : {C : Type 0} (f : C → List Leaf) → ((c : C) → Some (f c)) → (cs : List (C × Key)) (last : C) → Some (weave f (λ k. []) cs last)
unfolding weave
some_weave f e [] last = e last
some_weave f e (c ∷ cs) last = some_more (f c.0) _ (e c.0)

some_leaf : (h : ℕ) (t : Tree h) → Some (leaves h t)
unfolding listed
some_leaf zero t = (t, [], refl)
some_leaf (suc h) t = some_weave (leaves h) (some_leaf h) t.kids t.last

pub links_linked : (h : ℕ) (t : Tree h) → chained 0 (listed list_links h t) ≡ linked (leaves h t)
links_linked h t =
    let s = some_leaf h t in
    ap (chained 0) (sym (links_same h t)) ∙ rw s.2 (chain_first s.0 s.1)
