-- The cursors that a seek answers: in a valid image the leaves' links name all leaves of the tree in order, and what starts before a position stands left of what starts at it or
-- behind it.
-- Assumes nothing.
use Prim.Native.Nat.{ℕ, zero, suc, ◌≤◌, ◌<◌}
use mathlib.Core.Path.{◌≡◌, refl, sym, ap, ◌∙◌, subst}
use mathlib.Core.Bool.{Bool, cond}
use mathlib.Core.List.{List, [], ◌∷◌, ◌++◌, map, flat_map}
use lib.Dec.{T, eqb, ltb}
use lib.ListN.{length, drop, length-append}
use native.Mathlib.Omega.{arith}
use Rattle.words.specs.Lists.{filter, take_while, drop_while, all, count, All, Pairs}
use Rattle.words.proofs.Tests.{by_test, and_left, and_right, eq_of, ne_of, lt_yes, lt_no, lt_of, nlt_of}
use Rattle.words.proofs.Listed.{all_mono, all_right, flat_append, map_append}
use Rattle.words.proofs.Says.{and_says, eq_says, le_says, all_says}
use Rattle.words.proofs.Counted.{sum_le, sum_count, sum_at_most, one_at_most}
use Rattle.regions.specs.Positions.{too_late}
use Rattle.regions.specs.declared.Choice.{Choice}
use Rattle.regions.proofs.Means.{late_near}
use Rattle.regions.specs.Sets.{starts_before, starts_from}
use Rattle.regions.proofs.Rising.{from_rests}
use Rattle.xrtree.specs.Tree.{Leaf, region_of, leaves, list_items, page_places}
use Rattle.xrtree.specs.Rules.{within, filled, first_place, linked, rule1, rule2, rule6, once_or_free, placed}
use Rattle.xrtree.proofs.Order.{Apart, rule2_says}
use Rattle.pages.specs.Layout.{page_count, root_of, page_of, fill_of, next_of, page_used}
use Rattle.image.specs.Read.{depth_of, tree_of, set_of}
use Rattle.image.specs.Fills.{Fills, root_least}
use Rattle.image.specs.Valid.{sized, rule7, tree_rules, valid}
use Rattle.image.proofs.Fills.{valid_fills}
use Rattle.image.proofs.Sound.{set_rises}
use Rattle.image.proofs.Listings.{leaf_at, listed_at}
use Rattle.path.specs.Path.{down_to}
use Rattle.leaves.specs.declared.Cursor.{Cursor}
use Rattle.leaves.specs.Cursors.{entries_of, entries_in, starts_below, entry_rank, leaves_at, Chain, left, Stands, cursor_at}
use Rattle.leaves.specs.Cursors.Chain.{done, link}
use Rattle.leaves.specs.Faces.{Faces}
use Rattle.leaves.proofs.Whiles.{drop_while_past, drop_while_none, drop_while_in, drop_while_out, drop_while_map}
use Rattle.leaves.proofs.Rows.{list_places, Full, leaves_read, entries_read, regions_read, places_among, few_leaves, full_behind}
use Rattle.leaves.proofs.Parts.{Parted, parted}
use Rattle.leaves.proofs.Walks.{chain_read, chain_on, entries_in_long, cursor_in, cursor_next}

-- RULE 7: places that are listed once or free are no more than there are
once_few : (used : ℕ → Bool) (n : ℕ) (ps : List ℕ) → T (once_or_free used n ps) → (i : ℕ) → 1 ≤ i → i ≤ n → count i ps ≤ 1
unfolding once_or_free
once_few used zero ps t i a b = absurd (omega arith)
once_few used (suc n) ps t i a b =
    by_test (eqb i (suc n))
    (λ e. rw (eq_of i (suc n) e, (eq_says (count (suc n) ps) (cond (used (suc n)) 1 0)).yes_so (and_left (eqb (count (suc n) ps) (cond (used (suc n)) 1 0)) _ t)) (one_at_most (used (suc n))))
    (λ e.
    let ne : (i ≡ suc n → ⊥) = ne_of i (suc n) e in
    once_few used n ps (and_right (eqb (count (suc n) ps) (cond (used (suc n)) 1 0)) _ t) i a (omega arith))

placed_facts : (used : ℕ → Bool) (n : ℕ) (ps : List ℕ) → T (placed used n ps) → All (λ q. (1 ≤ q) × (q ≤ n)) ps × (length ps ≤ n)
unfolding placed
placed_facts used n ps t =
    let a = (all_says {p = within 1 n} {M = λ q. (1 ≤ q) × (q ≤ n)} (λ q. and_says (le_says 1 q) (le_says q n)) ps).yes_so (and_left (all (within 1 n) ps) _ t) in
    let o = once_few used n ps (and_right (all (within 1 n) ps) _ t) in
    (a, omega (arith, sum_count ps n a, sum_le (λ i. count i ps) (λ i. 1) n o, sum_at_most (λ i. 1) n (λ i. omega arith)))

-- WHAT A VALID IMAGE SAYS OF ITS LEAVES
abbrev pub places_of : List ℕ → List ℕ
places_of w = listed_at list_places w (depth_of w) (root_of w)

pub record Row (w : List ℕ) : Type 0 where
  pub links : T (linked (map (leaf_at w) (places_of w)))
  pub apart : Pairs Apart (listed_at list_items w (depth_of w) (root_of w))
  pub low : All (λ q. 1 ≤ q) (places_of w)
  pub few : length (places_of w) ≤ page_count
  pub fills : Fills (depth_of w) w (root_of w)

pub row : (w : List ℕ) → T (valid w) → Row w
unfolding valid tree_rules rule1 rule7
row w t =
    let h = depth_of w in
    let u = and_right (sized w) _ t in
    let trees = and_left (tree_rules h (tree_of w)) _ u in
    let first = and_right (filled h (tree_of w)) _ (and_left (rule1 h (tree_of w)) _ trees) in
    let pages = and_left (placed (page_used w) page_count (page_places h (tree_of w))) _ (and_right (rule6 (set_of w)) _ (and_right (tree_rules h (tree_of w)) _ u)) in
    let f = placed_facts (page_used w) page_count (page_places h (tree_of w)) pages in
    let among = places_among w (λ q. 1 ≤ q) h (root_of w) in
    record {
      links = rw (leaves_read w h (root_of w)) at (and_left (linked (leaves h (tree_of w))) _ first);
      apart = (rule2_says h (tree_of w)).yes_so (and_left (rule2 h (tree_of w)) _ (and_right (rule1 h (tree_of w)) _ trees));
      low = among.0 (all_mono (λ q a. a.0) (page_places h (tree_of w)) f.0);
      few = omega (arith, among.1, f.1);
      fills = valid_fills w t;
    }

-- the links from some leaf on
linked_right : (xs ys : List Leaf) → T (linked (xs ++ ys)) → T (linked ys)
unfolding linked
linked_right [] ys t = t
linked_right (x ∷ xs) ys t = linked_right xs ys (and_right (eqb x.next (first_place (xs ++ ys))) _ t)

module _ (w : List ℕ) where
  chain_of : (qs : List ℕ) → T (linked (map (leaf_at w) qs)) → All (λ q. 1 ≤ q) qs → All (Full w) qs → Chain w (first_place (map (leaf_at w) qs)) qs
  unfolding linked first_place
  chain_of [] t a f = done
  chain_of (q ∷ qs) t a f =
      let e = (eq_says (next_of (page_of w q)) (first_place (map (leaf_at w) qs))).yes_so (and_left (eqb (next_of (page_of w q)) (first_place (map (leaf_at w) qs))) _ t) in
      link a.0 (omega (arith, f.0.0)) f.0.1
      (subst (λ n. Chain w n qs) (sym e) (chain_of qs (and_right (eqb (next_of (page_of w q)) (first_place (map (leaf_at w) qs))) _ t) a.1 f.1))

  chain_behind : (q : ℕ) (qs : List ℕ) → T (linked (map (leaf_at w) (q ∷ qs))) → All (λ q. 1 ≤ q) qs → All (Full w) qs → Chain w (next_of (page_of w q)) qs
  unfolding linked
  chain_behind q qs t a f =
      let e = (eq_says (next_of (page_of w q)) (first_place (map (leaf_at w) qs))).yes_so (and_left (eqb (next_of (page_of w q)) (first_place (map (leaf_at w) qs))) _ t) in
      subst (λ n. Chain w n qs) (sym e) (chain_of qs (and_right (eqb (next_of (page_of w q)) (first_place (map (leaf_at w) qs))) _ t) a f)

  -- a leaf of a valid image, with what stands before and behind it
  pub record Leafy (xs : List ℕ) (q : ℕ) (ys : List ℕ) : Type 0 where
    pub entries : entries_of w ≡ flat_map (entries_in w) xs ++ (entries_in w q ++ flat_map (entries_in w) ys)
    pub low : 1 ≤ q
    pub few : fill_of (page_of w q) ≤ 8
    pub short : suc (length ys) ≤ page_count
    pub on : Chain w (next_of (page_of w q)) ys

  leafy : Row w → (xs : List ℕ) (q : ℕ) (ys : List ℕ) → places_of w ≡ xs ++ q ∷ ys → Leafy xs q ys
  unfolding entries_of flat_map
  leafy r xs q ys e =
      let low = all_right (λ q. 1 ≤ q) xs (q ∷ ys) (rw e at r.low) in
      record {
        entries = entries_read w (depth_of w) (root_of w) ∙ ap (flat_map (entries_in w)) e ∙ flat_append (entries_in w) xs (q ∷ ys);
        low = low.0;
        few = (all_right (λ q. fill_of (page_of w q) ≤ 8) xs (q ∷ ys) (rw e at (few_leaves w (root_least (depth_of w)) (depth_of w) (root_of w) r.fills))).0;
        short = omega (arith, r.few, ap length e, length-append xs (q ∷ ys));
        on =
            chain_behind q ys (linked_right (map (leaf_at w) xs) (map (leaf_at w) (q ∷ ys)) (rw (e, map_append (leaf_at w) xs (q ∷ ys)) at r.links)) low.1
            (full_behind w (root_least (depth_of w)) (depth_of w) (root_of w) r.fills xs q ys e);
      }

  -- a cursor in that leaf, and at the next one
  stands_in : (xs : List ℕ) (q at : ℕ) (ys : List ℕ) → Leafy xs q ys → at < fill_of (page_of w q)
      → Stands w (record { leaf = q; at = at }) (drop at (entries_in w q ++ flat_map (entries_in w) ys))
  unfolding left flat_map
  stands_in xs q at ys l a =
      let k : Chain w q (q ∷ ys) = link l.low (omega arith) l.few l.on in
      let e : leaves_at w q ≡ q ∷ ys = chain_read page_count k l.short in
      record {
        ready = record { chain = rw e k; ended = λ z. absurd (omega (arith, l.low)); inside = λ n. a };
        ahead = ap (λ ps. drop at (flat_map (entries_in w) ps)) e;
      }

  stands_next : (xs : List ℕ) (q : ℕ) (ys : List ℕ) → Leafy xs q ys → Stands w (record { leaf = next_of (page_of w q); at = 0 }) (flat_map (entries_in w) ys)
  unfolding left
  stands_next xs q ys l =
      let e : leaves_at w (next_of (page_of w q)) ≡ ys = chain_read page_count l.on (omega (arith, l.short)) in
      record {
        ready = record { chain = rw e l.on; ended = λ z. refl; inside = λ n. (chain_on l.on n).some };
        ahead = ap (flat_map (entries_in w)) e;
      }

  module _ (t : T (valid w)) where
    -- SEEK: in the leaf where x belongs stands the first entry that does not start before x, or before the place behind it, if it is not the next leaf's first
    module _ (ch : Choice) (x : ℕ) where
      abbrev y : ℕ
      y = too_late ch x

      abbrev spot : ℕ
      spot = down_to (depth_of w) w x (root_of w)

      sides : Parted w x (places_of w) spot
      sides = parted w x (depth_of w) (root_of w) (row w t).apart

      seek_leafy : Leafy sides.before spot sides.behind
      seek_leafy = leafy (row w t) sides.before spot sides.behind sides.is

      -- the entries of that leaf can be read
      pub seek_few : (q : ℕ) → q ≡ spot → fill_of (page_of w q) ≤ 8
      seek_few q e = rw e seek_leafy.few

      past : drop_while (starts_below y) (entries_of w) ≡ drop_while (starts_below y) (entries_in w spot ++ flat_map (entries_in w) sides.behind)
      past =
          ap (drop_while (starts_below y)) seek_leafy.entries
          ∙ drop_while_past (starts_below y) (flat_map (entries_in w) sides.before) (entries_in w spot ++ flat_map (entries_in w) sides.behind)
          (all_mono (λ e a. lt_yes e.region.start y (omega (arith, late_near ch x))) (flat_map (entries_in w) sides.before) sides.low)

      seek_in : (q r n : ℕ) → q ≡ spot → r ≡ entry_rank w q y → n ≡ fill_of (page_of w q) → r < n
          → Stands w (record { leaf = q; at = r }) (drop_while (starts_below y) (entries_of w))
      unfolding entry_rank
      seek_in q r n e s f a =
          let es = entries_in w spot in
          let rank : r ≡ length (take_while (starts_below y) es) = rw e at s in
          let fill : n ≡ fill_of (page_of w spot) = rw e at f in
          let is : drop_while (starts_below y) (entries_of w) ≡ drop r (es ++ flat_map (entries_in w) sides.behind) =
          past ∙ drop_while_in (starts_below y) es (flat_map (entries_in w) sides.behind) (omega (arith, entries_in_long w spot)) ∙ rw rank in
          rw (is, e) (stands_in sides.before spot r sides.behind seek_leafy (omega arith))

      seek_out : (q r n m : ℕ) → q ≡ spot → r ≡ entry_rank w q y → n ≡ fill_of (page_of w q) → n ≤ r → m ≡ next_of (page_of w q)
          → Stands w (record { leaf = m; at = 0 }) (drop_while (starts_below y) (entries_of w))
      unfolding entry_rank
      seek_out q r n m e s f a g =
          let es = entries_in w spot in
          let rest = flat_map (entries_in w) sides.behind in
          let rank : r ≡ length (take_while (starts_below y) es) = rw e at s in
          let fill : n ≡ fill_of (page_of w spot) = rw e at f in
          let is : drop_while (starts_below y) (entries_of w) ≡ rest =
          past ∙ drop_while_out (starts_below y) es rest (omega (arith, entries_in_long w spot))
          ∙ drop_while_none (starts_below y) rest (all_mono (λ e a. lt_no e.region.start y (omega (arith, late_near ch x))) rest sides.high) in
          rw (is, g, e) (stands_next sides.before spot sides.behind seek_leafy)

      -- THE REGIONS of the entries are the set's; of those that do not start before y, the set's from y on
      entries_regions : map region_of (entries_of w) ≡ (set_of w).regions
      unfolding entries_of set_of
      entries_regions = sym (regions_read w (depth_of w) (root_of w))

      from_regions : map region_of (drop_while (starts_below y) (entries_of w)) ≡ filter (starts_from y) (set_of w).regions
      unfolding starts_before
      from_regions =
          drop_while_map region_of (starts_before y) (entries_of w) ∙ ap (drop_while (starts_before y)) entries_regions
          ∙ from_rests y (set_of w).regions (set_rises w t)

      faced : {c : Cursor} → Stands w c (drop_while (starts_below y) (entries_of w)) → Faces w c (filter (starts_from y) (set_of w).regions)
      faced s = record { entries = drop_while (starts_below y) (entries_of w); stands = s; regions = from_regions }

      pub found_at : (q r : ℕ) {c : Cursor} → q ≡ spot → r ≡ entry_rank w q y → c ≡ cursor_at w q r → Faces w c (filter (starts_from y) (set_of w).regions)
      found_at q r e s k =
          let n = fill_of (page_of w q) in
          faced
          (subst (λ d. Stands w d (drop_while (starts_below y) (entries_of w))) (sym k)
          (by_test (ltb r n)
          (λ h. let l = lt_of r n h in subst (λ d. Stands w d (drop_while (starts_below y) (entries_of w))) (cursor_in w q r n refl l) (seek_in q r n e s refl l))
          (λ h.
          let l = nlt_of r n h in
          subst (λ d. Stands w d (drop_while (starts_below y) (entries_of w))) (cursor_next w q r n (next_of (page_of w q)) refl l refl)
          (seek_out q r n (next_of (page_of w q)) e s refl l refl))))
