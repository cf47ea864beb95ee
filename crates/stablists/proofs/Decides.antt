-- THE PASS DECIDES THE LISTS: where shape and regions are right, it comes through with no used record left exactly where rules 3, 4 and 5, and rule 7 of
-- stab records, hold.
-- Assumes nothing.
use Prim.Native.Nat.{ℕ, ◌-◌, ◌<◌, ◌≤◌}
use mathlib.Core.Path.{◌≡◌, refl, sym, ap, ◌∙◌}
use mathlib.Core.Bool.{Bool, true, false, ◌&&◌}
use mathlib.Core.List.{List}
use Rattle.std.proofs.Common.{Option, None, Some}
use lib.Dec.{T, leb, eqb}
use lib.ListN.{length, get_or}
use native.Mathlib.Omega.{arith}
use Rattle.words.specs.Lists.{all, all_pairs, All}
use Rattle.words.proofs.Tests.{both, by_test, and_left, and_right, and_both, le_of, nle_of, eq_no}
use Rattle.words.proofs.Listed.{all_mono}
use Rattle.words.proofs.Says.{le_says, eq_says}
use Rattle.regions.specs.Positions.{well_formed, nested}
use Rattle.regions.specs.declared.Region.{Region}
use Rattle.pages.specs.Layout.{root_of, height_of, record_count, record_used}
use Rattle.xrtree.specs.Tree.{Tree, regions, keys_of, leaves, record_places}
use Rattle.xrtree.specs.Rules.{filled, linked, starts_first, rule1, rule2, rule3, rule4, rule5, rule6, placed}
use Rattle.xrtree.specs.Claims.{Claim, In, Proper}
use Rattle.xrtree.specs.Local.{ListIs, NoLeaf, NoKey, FlagsAre, FirstIs, Sound}
use Rattle.xrtree.proofs.Here.{here_all}
use Rattle.xrtree.proofs.Order.{order_in, rules_order}
use Rattle.xrtree.proofs.Rules.{over_rising, set_proper, items_low, Ruled, rules_good, good_rules}
use Rattle.xrtree.proofs.Holes.{good_sound, sound_good}
use Rattle.image.specs.Read.{read_tree, depth_of, tree_of, set_of}
use Rattle.image.specs.Valid.{sized}
use Rattle.image.specs.Shape.{shapely, lists_right}
use Rattle.image.specs.Fills.{root_least}
use Rattle.image.proofs.Fills.{shapely_fills}
use Rattle.image.proofs.Small.{small_keys, small_ends}
use Rattle.trail.specs.declared.Trail.{Trail}
use Rattle.trail.specs.Pass.{going, Fills}
use Rattle.stablists.specs.Pass.{pass_at, used_to}
use Rattle.stablists.proofs.Counts.{outcome, test_at, size_at, pass_counts}
use Rattle.stablists.proofs.Chains.{Place}
use Rattle.stablists.proofs.Reading.{fills_most}
use Rattle.stablists.proofs.Tested.{Tested, KeyRight, Right, root_filled, tree_tested}
use Rattle.stablists.proofs.Claimed.{claim_two, claim_mono, Placed, claim_places, ListRead, lists_read}
use Rattle.stablists.proofs.Once.{Holds, at_most, used_few, placed_of, of_placed}

-- the pass came through, and met every record
abbrev pub none_left : Option Trail → Bool
none_left None = false
none_left (Some t) = eqb t.left 0

-- what comes of a test b and x records where n are used
all_met : (b : Bool) (x n : ℕ) → none_left (outcome b x n) ≡ (b && eqb x n)
all_met false x n = refl
all_met true x n =
    by_test (leb x n)
    (λ h. let l = le_of x n h in rw h (both (eqb (n - x) 0) (eqb x n) (λ t. let e = (eq_says (n - x) 0).yes_so t in (eq_says x n).so_yes (omega arith)) (λ t. let e = (eq_says x n).yes_so t in (eq_says (n - x) 0).so_yes (omega arith))))
    (λ h. let l = nle_of x n h in rw (h, eq_no x n (λ e. omega arith)))

-- TRIALS OF A TREE READ AT A PLACE, between bounds: rules on it, and the tests
module _ (w : List ℕ) (top h p : ℕ) where
  abbrev tree : Tree h
  tree = read_tree h w p

  abbrev all_regions : List Region
  all_regions = regions h tree

  -- the lists of a right tree, by their records
  right_holds : Right w all_regions h 0 top tree → Claim (Holds w all_regions) NoLeaf h 0 top tree
  right_holds r =
      claim_two (KeyRight w all_regions) (ListRead w) (Holds w all_regions) FlagsAre NoLeaf NoLeaf
      (λ lo hi k a b. sym b ∙ a.0) (λ lo hi es a b. tt) h 0 top tree r (lists_read w h p 0 top)

  right_places : Right w all_regions h 0 top tree → All Place (record_places h tree)
  right_places r =
      (claim_places Place h 0 top tree).0
      (claim_mono (KeyRight w all_regions) (Placed Place) FlagsAre NoLeaf (λ lo hi k a. a.2) (λ lo hi es a. tt) h 0 top tree r)

  right_sound : In h 0 top tree → Proper top all_regions → Right w all_regions h 0 top tree → Sound top all_regions h tree
  right_sound i s r =
      record {
        part = record {
          order = i;
          lists = claim_mono (KeyRight w all_regions) (ListIs all_regions) FlagsAre NoLeaf (λ lo hi k a. a.0) (λ lo hi es a. tt) h 0 top tree r;
          flags = claim_mono (KeyRight w all_regions) NoKey FlagsAre FlagsAre (λ lo hi k a. tt) (λ lo hi es a. a) h 0 top tree r;
          firsts = claim_mono (KeyRight w all_regions) FirstIs FlagsAre NoLeaf (λ lo hi k a. a.1) (λ lo hi es a. tt) h 0 top tree r;
        };
        held = refl;
        set = s;
      }

  sound_right : Sound top all_regions h tree → All Place (record_places h tree) → Right w all_regions h 0 top tree
  sound_right s a =
      claim_two (λ lo hi k. ListIs all_regions lo hi k × FirstIs lo hi k) (Placed Place) (KeyRight w all_regions) FlagsAre NoLeaf FlagsAre
      (λ lo hi k x y. (x.0, x.1, y)) (λ lo hi es x y. x) h 0 top tree
      (claim_two (ListIs all_regions) FirstIs (λ lo hi k. ListIs all_regions lo hi k × FirstIs lo hi k) FlagsAre NoLeaf FlagsAre (λ lo hi k x y. (x, y)) (λ lo hi es x y. x) h 0 top tree
      (claim_two (ListIs all_regions) NoKey (ListIs all_regions) NoLeaf FlagsAre FlagsAre (λ lo hi k x y. x) (λ lo hi es x y. y) h 0 top tree s.part.lists s.part.flags) s.part.firsts)
      ((claim_places Place h 0 top tree).1 a)

  -- the rules that come before
  pub record Before : Type 0 where
    pub fills : T (filled h tree)
    pub ascend : T (all_pairs starts_first all_regions)
    pub second : T (rule2 h tree)
    pub formed : T (all well_formed all_regions)
    pub nest : T (all_pairs nested all_regions)
    pub keys : All (λ k. k < top) (keys_of h tree)
    pub ends : All (λ (r : Region). r.end < top) all_regions

  module _ (b : Before) where
    proper : Proper top all_regions
    proper = set_proper top all_regions b.ends b.ascend b.formed b.nest

    order : In h 0 top tree
    order =
        order_in h 0 top tree (items_low top h tree b.keys (all_mono (λ x q. omega arith) all_regions proper.well))
        (rules_order h tree b.fills b.second (over_rising all_regions proper.pairs))

    tests : Tested (test_at w h p 0 top) (size_at w h p 0 top) (Right w all_regions h 0 top tree) (length (record_places h tree))
    tests = tree_tested w all_regions h p 0 top order (here_all all_regions 0 top) proper.pairs (root_filled h tree b.fills)

    abbrev Listed : Type 0
    Listed = T (rule3 h tree) × T (rule4 h tree) × T (rule5 h tree) × T (placed (record_used w) record_count (record_places h tree))

    pub tests_rules : T (test_at w h p 0 top) → size_at w h p 0 top ≡ used_to w record_count → Listed
    tests_rules t e =
        let m = tests.there t (omega (arith, used_few w)) in
        let r = good_rules top h tree (sound_good top all_regions h tree (right_sound order proper m.0)) in (
          r.third,
          r.fourth,
          r.fifth,
          placed_of w (record_places h tree) (right_places m.0) (at_most w all_regions proper.pairs top h 0 top tree proper.well order (right_holds m.0)) (m.1 ∙ e),
        )

    pub rules_tests : Listed → T (test_at w h p 0 top) × (size_at w h p 0 top ≡ used_to w record_count)
    rules_tests l =
        let d = of_placed w (record_places h tree) l.3 in
        let r : Ruled h tree = record { ascend = b.ascend; second = b.second; third = l.0; fourth = l.1; fifth = l.2; nest = b.nest } in
        let g = rules_good top h tree b.keys b.ends b.fills b.formed r in
        let m = tests.back (sound_right (good_sound top h tree g) d.0) (omega (arith, used_few w, d.1)) in
        (m.0, sym m.1 ∙ d.1)

-- THE IMAGE
module _ (w : List ℕ) (small : (i : ℕ) → get_or w i 0 < 4294967296) (s : T (shapely w)) (r6 : T (rule6 (set_of w))) where
  abbrev top : ℕ
  top = 4294967296

  first_rule : T (rule1 (depth_of w) (tree_of w))
  unfolding shapely
  first_rule = and_left (rule1 (depth_of w) (tree_of w)) _ (and_right (sized w) _ s)

  second_rule : T (rule2 (depth_of w) (tree_of w))
  unfolding shapely
  second_rule = and_left (rule2 (depth_of w) (tree_of w)) _ (and_right (rule1 (depth_of w) (tree_of w)) _ (and_right (sized w) _ s))

  before : Before w top (depth_of w) (root_of w)
  unfolding rule1 rule6 set_of
  before =
      let t = tree_of w in
      let rs = regions (depth_of w) t in
      record {
        fills = and_left (filled (depth_of w) t) _ first_rule;
        ascend = and_right (linked (leaves (depth_of w) t)) _ (and_right (filled (depth_of w) t) _ first_rule);
        second = second_rule;
        formed = and_left (all well_formed rs) _ r6;
        nest = and_left (all_pairs nested rs) _ (and_right (all well_formed rs) _ r6);
        keys = small_keys w small (depth_of w) (root_of w);
        ends = small_ends w small (depth_of w) (root_of w);
      }

  decided : (test_at w (depth_of w) (root_of w) 0 top && eqb (size_at w (depth_of w) (root_of w) 0 top) (used_to w record_count)) ≡ lists_right w
  unfolding lists_right
  decided =
      let h = depth_of w in
      let t = tree_of w in
      let b : Bool = test_at w h (root_of w) 0 top in
      both (b && eqb (size_at w h (root_of w) 0 top) (used_to w record_count)) _
      (λ u.
      let l = tests_rules w top h (root_of w) before (and_left b _ u) ((eq_says _ _).yes_so (and_right b _ u)) in
      and_both (rule3 h t) _ l.0 (and_both (rule4 h t) _ l.1 (and_both (rule5 h t) _ l.2 l.3)))
      (λ u.
      let u1 = and_right (rule3 h t) _ u in
      let u2 = and_right (rule4 h t) _ u1 in
      let l = rules_tests w top h (root_of w) before (and_left (rule3 h t) _ u, and_left (rule4 h t) _ u1, and_left (rule5 h t) _ u2, and_right (rule5 h t) _ u2) in
      and_both b _ l.0 ((eq_says _ _).so_yes l.1))

  pub decides : (d p n : ℕ) (e : Option Trail) → d ≡ depth_of w → p ≡ root_of w → n ≡ used_to w record_count → e ≡ pass_at w d p 0 top (going 0 n) → none_left e ≡ lists_right w
  decides d p n e ed ep en q =
      let c = pass_counts w (depth_of w) (root_of w) 0 top in
      let f : e ≡ outcome (test_at w (depth_of w) (root_of w) 0 top) (size_at w (depth_of w) (root_of w) 0 top) (used_to w record_count) = q ∙ rw (ed, ep, en) (c.goes (used_to w record_count)) in
      ap none_left f ∙ all_met (test_at w (depth_of w) (root_of w) 0 top) (size_at w (depth_of w) (root_of w) 0 top) (used_to w record_count) ∙ decided

-- what the code asks of a shapely image
pub height_some : (w : List ℕ) → T (shapely w) → 1 ≤ height_of w
unfolding shapely sized
height_some w s =
    let z = and_right (eqb (length w) 12288) _ (and_left (sized w) _ s) in
    (le_says 1 (height_of w)).yes_so (and_left (leb 1 (height_of w)) _ z)

pub image_fills : (w : List ℕ) (d p : ℕ) → T (shapely w) → d ≡ depth_of w → p ≡ root_of w → Fills d w p
image_fills w d p s ed ep = rw (ed, ep) (fills_most w (root_least (depth_of w)) (depth_of w) (root_of w) (shapely_fills w s))
