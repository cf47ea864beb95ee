-- What two listings of the tree that an image holds have to do with each other, from what they list of a leaf, a page and a key; the leaves' places, and with them the leaves and the entries.
-- Assumes nothing.
use Prim.Native.Nat.{ℕ, zero, suc, ◌+◌, ◌≤◌}
use mathlib.Core.Path.{◌≡◌, refl, sym, ap, ap₂, ◌∙◌}
use mathlib.Core.List.{List, [], ◌∷◌, ◌++◌, map, flat_map, append-nil}
use lib.ListN.{length, length-append}
use native.Mathlib.Omega.{arith}
use Rattle.words.specs.Lists.{All}
use Rattle.words.proofs.Listed.{all_mono, all_append, all_left, all_right, flat_append, map_append}
use Rattle.xrtree.specs.Tree.{Entry, Key, Listing, region_of, list_regions, regions, list_leaves, leaves, list_items, Item, list_pages, page_places}
use Rattle.xrtree.specs.Tree.Item.{start}
use Rattle.pages.specs.Layout.{page_of, fill_of, child_in}
use Rattle.image.specs.Read.{key_at, entries_from, read_tree}
use Rattle.image.specs.Fills.{FillsFrom}
use Rattle.image.proofs.Listings.{leaf_at, listed_at, listed_from, listed_leaf, listed_inner}
use Rattle.leaves.specs.Cursors.{list_entries, entries_in}
use Rattle.leaves.proofs.Whiles.{all_unmap}

-- the places of the leaves
abbrev pub list_places : Listing ℕ
list_places = record { on_leaf = λ l. l.place ∷ []; on_page = λ p n. []; on_key = λ k. [] }

-- TWO LISTINGS: a relation that holds of lists one after the other holds of all
module _ {A B : Type 0} (w : List ℕ) (L : Listing A) (M : Listing B) (R : List A → List B → Type 0)
    (join : (xs us : List A) (ys vs : List B) → R xs ys → R us vs → R (xs ++ us) (ys ++ vs))
    (leaf : (q : ℕ) → R (L.on_leaf (leaf_at w q)) (M.on_leaf (leaf_at w q)))
    (page : (p n : ℕ) → R (L.on_page p n) (M.on_page p n))
    (here : (k : Key) → R (L.on_key k) (M.on_key k)) where
  kids_alike : (h : ℕ) → ((q : ℕ) → R (listed_at L w h q) (listed_at M w h q)) → (ws : List ℕ) (i m : ℕ) → R (listed_from L w h ws i m) (listed_from M w h ws i m)
  unfolding listed_from
  kids_alike h ih ws i zero = ih (child_in ws i)
  kids_alike h ih ws i (suc m) =
      join (listed_at L w h (child_in ws i)) (L.on_key (key_at w ws i) ++ listed_from L w h ws (suc i) m) (listed_at M w h (child_in ws i))
      (M.on_key (key_at w ws i) ++ listed_from M w h ws (suc i) m) (ih (child_in ws i))
      (join (L.on_key (key_at w ws i)) (listed_from L w h ws (suc i) m) (M.on_key (key_at w ws i)) (listed_from M w h ws (suc i) m) (here (key_at w ws i)) (kids_alike h ih ws (suc i) m))

  pub alike : (h p : ℕ) → R (listed_at L w h p) (listed_at M w h p)
  alike zero p = rw (listed_leaf L w p, listed_leaf M w p) (leaf p)
  alike (suc h) p =
      let ws = page_of w p in
      rw (listed_inner L w h p, listed_inner M w h p)
      (join (L.on_page p (fill_of ws)) (listed_from L w h ws 0 (fill_of ws)) (M.on_page p (fill_of ws)) (listed_from M w h ws 0 (fill_of ws)) (page p (fill_of ws))
      (kids_alike h (λ q. alike h q) ws 0 (fill_of ws)))

  pub alike_from : (h : ℕ) (ws : List ℕ) (i m : ℕ) → R (listed_from L w h ws i m) (listed_from M w h ws i m)
  alike_from h ws i m = kids_alike h (λ q. alike h q) ws i m

module _ (w : List ℕ) where
  -- the leaves are those at their places
  pub leaves_read : (h p : ℕ) → leaves h (read_tree h w p) ≡ map (leaf_at w) (listed_at list_places w h p)
  leaves_read h p =
      alike w list_leaves list_places (λ ls ps. ls ≡ map (leaf_at w) ps) (λ xs us ys vs a b. ap₂ ◌++◌ a b ∙ sym (map_append (leaf_at w) ys vs)) (λ q. refl) (λ q n. refl) (λ k. refl) h p

  abbrev Told : List Entry → List ℕ → Type 0
  Told es ps = es ≡ flat_map (entries_in w) ps

  told_join : (xs us : List Entry) (ys vs : List ℕ) → Told xs ys → Told us vs → Told (xs ++ us) (ys ++ vs)
  told_join xs us ys vs a b = ap₂ ◌++◌ a b ∙ sym (flat_append (entries_in w) ys vs)

  told_leaf : (q : ℕ) → Told (entries_from (page_of w q) 0 (fill_of (page_of w q))) (q ∷ [])
  unfolding flat_map entries_in
  told_leaf q = sym (append-nil (entries_from (page_of w q) 0 (fill_of (page_of w q))))

  told_none : Told [] []
  unfolding flat_map
  told_none = refl

  -- the entries are those of the leaves at their places
  pub entries_read : (h p : ℕ) → listed_at list_entries w h p ≡ flat_map (entries_in w) (listed_at list_places w h p)
  entries_read h p = alike w list_entries list_places Told told_join told_leaf (λ q n. told_none) (λ k. told_none) h p

  pub entries_read_from : (h : ℕ) (ws : List ℕ) (i m : ℕ) → listed_from list_entries w h ws i m ≡ flat_map (entries_in w) (listed_from list_places w h ws i m)
  entries_read_from h ws i m = alike_from w list_entries list_places Told told_join told_leaf (λ q n. told_none) (λ k. told_none) h ws i m

  -- the regions are those of the entries
  pub regions_read : (h p : ℕ) → regions h (read_tree h w p) ≡ map region_of (listed_at list_entries w h p)
  regions_read h p =
      alike w list_regions list_entries (λ rs es. rs ≡ map region_of es) (λ xs us ys vs a b. ap₂ ◌++◌ a b ∙ sym (map_append region_of ys vs)) (λ q. refl) (λ q n. refl) (λ k. refl) h p

  -- the leaves are among the pages
  module _ (P : ℕ → Type 0) where
    abbrev Among : List ℕ → List ℕ → Type 0
    Among xs ys = (All P ys → All P xs) × (length xs ≤ length ys)

    among_join : (xs us ys vs : List ℕ) → Among xs ys → Among us vs → Among (xs ++ us) (ys ++ vs)
    among_join xs us ys vs a b =
        ((λ c. all_append P xs us (a.0 (all_left P ys vs c)) (b.0 (all_right P ys vs c))), simp length-append (omega (arith, a.1, b.1)))

    pub places_among : (h p : ℕ) → Among (listed_at list_places w h p) (page_places h (read_tree h w p))
    places_among h p =
        alike w list_places list_pages Among among_join (λ q. ((λ c. c), omega arith)) (λ q n. ((λ c. tt), omega arith)) (λ k. ((λ c. tt), omega arith)) h p

  -- what holds of all starts and keys holds of the entries' starts
  module _ (P : Item → Type 0) where
    abbrev Starts : List Entry → List Item → Type 0
    Starts es is = All P is → All (λ (e : Entry). P (start e.region.start)) es

    starts_join : (xs us : List Entry) (ys vs : List Item) → Starts xs ys → Starts us vs → Starts (xs ++ us) (ys ++ vs)
    starts_join xs us ys vs a b c = all_append _ xs us (a (all_left P ys vs c)) (b (all_right P ys vs c))

    starts_leaf : (q : ℕ) → Starts (leaf_at w q).entries (map (λ (e : Entry). start e.region.start) (leaf_at w q).entries)
    starts_leaf q c = all_unmap (λ (e : Entry). start e.region.start) P (leaf_at w q).entries c

    pub starts_at : (h p : ℕ) → Starts (listed_at list_entries w h p) (listed_at list_items w h p)
    starts_at h p = alike w list_entries list_items Starts starts_join starts_leaf (λ q n c. tt) (λ k c. tt) h p

    pub starts_from_lem : (h : ℕ) (ws : List ℕ) (i m : ℕ) → Starts (listed_from list_entries w h ws i m) (listed_from list_items w h ws i m)
    starts_from_lem h ws i m = alike_from w list_entries list_items Starts starts_join starts_leaf (λ q n c. tt) (λ k c. tt) h ws i m

  -- FILLS: every leaf but a root has four entries at least
  abbrev pub Full : ℕ → Type 0
  Full q = (4 ≤ fill_of (page_of w q)) × (fill_of (page_of w q) ≤ 8)

  full_from : (h : ℕ) → ((q : ℕ) → FillsFrom 4 h w q → All Full (listed_at list_places w h q)) → (ws : List ℕ) (i m : ℕ)
      → ((j : ℕ) → i ≤ j → j ≤ i + m → FillsFrom 4 h w (child_in ws j)) → All Full (listed_from list_places w h ws i m)
  unfolding listed_from
  full_from h ih ws i zero f = ih (child_in ws i) (f i (omega arith) (omega arith))
  full_from h ih ws i (suc m) f =
      all_append Full (listed_at list_places w h (child_in ws i)) (listed_from list_places w h ws (suc i) m) (ih (child_in ws i) (f i (omega arith) (omega arith)))
      (full_from h ih ws (suc i) m (λ j a b. f j (omega arith) (omega arith)))

  full_below : (h p : ℕ) → FillsFrom 4 h w p → All Full (listed_at list_places w h p)
  full_below zero p f = rw (listed_leaf list_places w p) ((f.0, f.1), tt)
  full_below (suc h) p f =
      rw (listed_inner list_places w h p) (full_from h (λ q g. full_below h q g) (page_of w p) 0 (fill_of (page_of w p)) (λ j a b. f.2 j (omega arith)))

  -- below an inner page, root or not
  pub full_inner : (least h p : ℕ) → FillsFrom least (suc h) w p → All Full (listed_at list_places w (suc h) p)
  full_inner least h p f =
      rw (listed_inner list_places w h p) (full_from h (λ q g. full_below h q g) (page_of w p) 0 (fill_of (page_of w p)) (λ j a b. f.2 j (omega arith)))

  pub few_leaves : (least h p : ℕ) → FillsFrom least h w p → All (λ q. fill_of (page_of w q) ≤ 8) (listed_at list_places w h p)
  few_leaves least zero p f = rw (listed_leaf list_places w p) (f.1, tt)
  few_leaves least (suc h) p f = all_mono (λ q g. g.1) (listed_at list_places w (suc h) p) (full_inner least h p f)

  -- behind any leaf
  pub full_behind : (least h p : ℕ) → FillsFrom least h w p → (xs : List ℕ) (q : ℕ) (ys : List ℕ) → listed_at list_places w h p ≡ xs ++ q ∷ ys → All Full ys
  full_behind least zero p f xs q [] e = tt
  full_behind least zero p f xs q (y ∷ ys) e =
      absurd (omega (arith, length-append xs (q ∷ y ∷ ys), ap length (sym (listed_leaf list_places w p) ∙ e)))
  full_behind least (suc h) p f xs q ys e = (all_right Full xs (q ∷ ys) (rw e at (full_inner least h p f))).1
