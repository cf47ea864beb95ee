-- What the pass says at its end is what the declared rules say of the tree, and with the image's own tests that is `shapely`.
-- Assumes nothing.
use Prim.Native.Nat.{ℕ, zero, suc, ◌-◌, ◌<◌, ◌≤◌}
use mathlib.Core.Path.{◌≡◌, sym, ◌∙◌}
use mathlib.Core.Bool.{Bool, true, false, ◌&&◌}
use mathlib.Core.List.{List, map}
use lib.Dec.{T, eqb, eqb→eq}
use lib.ListN.{length}
use native.Mathlib.Omega.{arith}
use Rattle.words.specs.Lists.{All, Pairs, all, all_pairs}
use Rattle.words.proofs.Tests.{T_of, both, and_left, and_right, and_both, eq_yes, eq_no, le_yes, le_no}
use Rattle.words.proofs.Listed.{all_mono, all_two}
use Rattle.words.proofs.Says.{pairs_say}
use Rattle.pages.specs.Layout.{page_of, fill_of, height_of, root_of, page_used}
use Rattle.xrtree.specs.Tree.{Entry, Tree, list_items, regions, leaves, items, page_places}
use Rattle.xrtree.specs.Tree.Item.{start}
use Rattle.xrtree.specs.Rules.{filled, linked, starts_first, separates, rule1, rule2, placed}
use Rattle.image.specs.Read.{entries_from, read_tree}
use Rattle.image.specs.Valid.{sized}
use Rattle.image.specs.Shape.{shapely}
use Rattle.image.specs.Fills.{FillsFrom, root_least}
use Rattle.image.proofs.Fills.{filled_fills}
use Rattle.image.proofs.Listings.{listed_at, listed_leaf}
use Rattle.std.specs.Prelude.{Option, Some, None, MatchOption}
use Rattle.passes.specs.Run.{finished}
use Rattle.passes.specs.declared.Passed.{Passed}
use Rattle.shape.specs.Run.{Event, run, run_finished, events_at, used_to}
use Rattle.shape.proofs.Flat.{each, tests, points, links, ascends, chained, going, decides}
use Rattle.shape.proofs.Follow.{points_of, links_of, links_linked, start_in, starts_same, starts_pairs}
use Rattle.shape.proofs.Filling.{Held, tests_fills, fills_tests, tests_length, so_filled}
use Rattle.shape.proofs.Order.{Ascends, ascends_says, Separates, separates_says, starts_say, ascends_separate, ascends_starts, woven_ascends, leaf_woven, tree_woven}
use Rattle.shape.proofs.Once.{tree_once}
use Rattle.shape.proofs.Places.{InRange, Once, InUse, placed_says, places_once, once_used, once_length, used_sum}

-- a leaf that is the root may be empty
leaf_ascends : (ws : List ℕ) (m : ℕ) → Pairs Separates (map (λ (e : Entry). start e.region.start) (entries_from ws 0 m))
    → Pairs (λ s t. s < t) (each start_in (map (λ (e : Entry). start e.region.start) (entries_from ws 0 m))) → Ascends 0 (map (λ (e : Entry). start e.region.start) (entries_from ws 0 m))
unfolding entries_from
leaf_ascends ws zero p q = tt
leaf_ascends ws (suc m) p q = woven_ascends (leaf_woven ws 0 (suc m) (omega arith)) p q

module _ (w : List ℕ) where
  pub order_ascends : (h p : ℕ) → FillsFrom (root_least h) h w p → Pairs Separates (listed_at list_items w h p) → Pairs (λ s t. s < t) (each start_in (listed_at list_items w h p))
      → Ascends 0 (listed_at list_items w h p)
  order_ascends zero p f s t = rw listed_leaf (leaf_ascends (page_of w p) (fill_of (page_of w p)) (rw listed_leaf at s) (rw listed_leaf at t))
  order_ascends (suc h) p f s t = woven_ascends (tree_woven w (suc h) 1 p (omega arith) f) s t

  -- the tree at a place, and the events of its pass
  abbrev tree : (h : ℕ) → ℕ → Tree h
  tree h p = read_tree h w p

  abbrev events : ℕ → ℕ → List Event
  events h p = events_at w h (root_least h) p

  -- THE DECLARED RULES, as statements on the words
  pub record Declared (h p : ℕ) : Type 0 where
    pub fills : FillsFrom (root_least h) h w p
    pub links : T (linked (leaves h (tree h p)))
    pub starts : Pairs (λ s t. s < t) (each start_in (items h (tree h p)))
    pub separation : Pairs Separates (items h (tree h p))
    pub range : InRange 160 (page_places h (tree h p))
    pub once : Once (page_used w) 160 (page_places h (tree h p))

  abbrev declared : ℕ → ℕ → Bool
  declared h p = rule1 h (tree h p) && (rule2 h (tree h p) && placed (page_used w) 160 (page_places h (tree h p)))

  pub declared_so : (h p : ℕ) → T (declared h p) → Declared h p
  unfolding rule1 rule2
  declared_so h p t =
      let r1 = and_left (filled h (tree h p) && (linked (leaves h (tree h p)) && all_pairs starts_first (regions h (tree h p)))) _ t in
      let r27 = and_right (filled h (tree h p) && (linked (leaves h (tree h p)) && all_pairs starts_first (regions h (tree h p)))) _ t in
      let r1b = and_right (filled h (tree h p)) _ r1 in
      let st = and_right (linked (leaves h (tree h p))) _ r1b in
      let r7 = (placed_says (page_used w) 160 (page_places h (tree h p))).yes_so (and_right (all_pairs separates (items h (tree h p))) _ r27) in
      record {
        fills = filled_fills h w p (and_left (filled h (tree h p)) _ r1);
        links = and_left (linked (leaves h (tree h p))) _ r1b;
        starts = (starts_say (each start_in (items h (tree h p)))).yes_so (rw (starts_pairs, starts_same) at st);
        separation = (pairs_say separates_says (items h (tree h p))).yes_so (and_left (all_pairs separates (items h (tree h p))) _ r27);
        range = r7.0;
        once = r7.1;
      }

  so_declared : (h p : ℕ) → Declared h p → T (declared h p)
  unfolding rule1 rule2
  so_declared h p d =
      and_both (filled h (tree h p) && (linked (leaves h (tree h p)) && all_pairs starts_first (regions h (tree h p)))) _
      (and_both (filled h (tree h p)) _ (so_filled w h p d.fills)
      (and_both (linked (leaves h (tree h p))) _ d.links
      (rw (starts_pairs, starts_same) ((starts_say (each start_in (items h (tree h p)))).so_yes d.starts))))
      (and_both (all_pairs separates (items h (tree h p))) _ ((pairs_say separates_says (items h (tree h p))).so_yes d.separation)
      ((placed_says (page_used w) 160 (page_places h (tree h p))).so_yes (d.range, d.once)))

  -- THE FLAT TESTS that the run decides
  abbrev flat : ℕ → ℕ → Bool
  flat h p =
      all (λ b. b) (each tests (events h p)) &&
      (ascends 0 (each points (events h p)) &&
      (chained 0 (each links (events h p)) && eqb (length (each tests (events h p))) (used_to w 160)))

  flat_so : (h p : ℕ) → T (flat h p) → Declared h p
  flat_so h p t =
      let o = and_left (all (λ b. b) (each tests (events h p))) _ t in
      let t1 = and_right (all (λ b. b) (each tests (events h p))) _ t in
      let t2 = and_right (ascends 0 (each points (events h p))) _ t1 in
      let a : Ascends 0 (items h (tree h p)) = (ascends_says 0 (items h (tree h p))).yes_so (rw points_of at (and_left (ascends 0 (each points (events h p))) _ t1)) in
      let l = rw (links_of, links_linked) at (and_left (chained 0 (each links (events h p))) _ t2) in
      let e = eqb→eq (length (each tests (events h p))) (used_to w 160) (and_right (chained 0 (each links (events h p))) _ t2) in
      let r = tests_fills w h (root_least h) p o in
      let g : InRange 160 (page_places h (tree h p)) = all_mono (λ q k. (k.0, k.1)) (page_places h (tree h p)) r.1 in
      let u : InUse (page_used w) (page_places h (tree h p)) = all_mono (λ q k. k.2) (page_places h (tree h p)) r.1 in
      record {
        fills = r.0;
        links = l;
        starts = ascends_starts 0 (items h (tree h p)) a;
        separation = ascends_separate 0 (items h (tree h p)) a;
        range = g;
        once = places_once (page_used w) 160 (page_places h (tree h p)) g u (tree_once w h p r.0 a) (sym (tests_length w h (root_least h) p) ∙ e ∙ used_sum w 160);
      }

  so_flat : (h p : ℕ) → Declared h p → T (flat h p)
  so_flat h p d =
      let u : InUse (page_used w) (page_places h (tree h p)) = once_used (page_used w) 160 (page_places h (tree h p)) d.range d.once in
      let k : All (Held w) (page_places h (tree h p)) = all_two (λ q a b. (a.0, a.1, b)) (page_places h (tree h p)) d.range u in
      let e : length (each tests (events h p)) ≡ used_to w 160 =
      tests_length w h (root_least h) p ∙ once_length (page_used w) 160 (page_places h (tree h p)) d.range d.once ∙ sym (used_sum w 160) in
      and_both (all (λ b. b) (each tests (events h p))) _ (fills_tests w h (root_least h) p d.fills k)
      (and_both (ascends 0 (each points (events h p))) _
      (rw points_of ((ascends_says 0 (items h (tree h p))).so_yes (order_ascends h p d.fills d.separation d.starts)))
      (and_both (chained 0 (each links (events h p))) _ (rw (links_of, links_linked) d.links) (T_of (eq_yes _ _ e))))

  pub whole : (h p : ℕ) → run_finished (run (events h p) (going 0 0 (used_to w 160))) ≡ declared h p
  whole h p = decides (events h p) 0 0 (used_to w 160) ∙ both (flat h p) (declared h p) (λ t. so_declared h p (flat_so h p t)) (λ t. so_flat h p (declared_so h p t))

-- THE IMAGE'S OWN TESTS
pub wrong_length : (w : List ℕ) → (length w ≡ 12288 → ⊥) → false ≡ shapely w
unfolding shapely sized
wrong_length w h = rw (eq_no (length w) 12288 h)

pub too_low : (w : List ℕ) (h : ℕ) → length w ≡ 12288 → h ≡ height_of w → h < 1 → false ≡ shapely w
unfolding shapely sized
too_low w h l e k = rw (eq_yes (length w) 12288 l, le_no 1 (height_of w) (omega arith))

pub too_high : (w : List ℕ) (h : ℕ) → length w ≡ 12288 → h ≡ height_of w → 1 ≤ h → 4 < h → false ≡ shapely w
unfolding shapely sized
too_high w h l e a k = rw (eq_yes (length w) 12288 l, le_yes 1 (height_of w) (omega arith), le_no (height_of w) 4 (omega arith))

sized_yes : (w : List ℕ) → length w ≡ 12288 → 1 ≤ height_of w → height_of w ≤ 4 → sized w ≡ true
unfolding sized
sized_yes w l a b = rw (eq_yes (length w) 12288 l, le_yes 1 (height_of w) a, le_yes (height_of w) 4 b)

pub told : (o : Option Passed) (r : Bool) → MatchOption o (r ≡ false) (λ s. r ≡ finished s) → r ≡ run_finished o
told None r h = h
told (Some s) r h = h

pub ended : (w : List ℕ) (h least root left : ℕ) (e : Option Passed) (r : Bool) → length w ≡ 12288 → 1 ≤ h → h ≤ 4 → h ≡ height_of w → root ≡ root_of w → left ≡ used_to w 160
    → least ≡ root_least (h - 1) → e ≡ run (events_at w (h - 1) least root) (going 0 0 left) → r ≡ run_finished e → r ≡ shapely w
unfolding shapely
ended w h least root left e r l a b eh er em ek ee ef =
    ef ∙
    rw (ee, ek, em, er, eh, sized_yes w l (omega arith) (omega arith)) (whole w (height_of w - 1) (root_of w))

pub least_first : (h : ℕ) → h ≡ 1 → 0 ≡ root_least (h - 1)
least_first h e = rw e

pub least_other : (h : ℕ) → 1 ≤ h → (h ≡ 1 → ⊥) → 1 ≡ root_least (h - 1)
least_other h l e = let q : h - 1 ≡ suc (h - 2) = omega arith in rw q
