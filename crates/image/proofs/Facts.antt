-- Validity taken apart into its tests, and put together again.
-- Assumes nothing.
use Prim.Native.Nat.{ℕ, ◌≤◌}
use mathlib.Core.Path.{◌≡◌}
use mathlib.Core.List.{List}
use lib.Dec.{T, leb, eqb, leb→le, le→leb, eqb→eq}
use lib.ListN.{length}
use Rattle.words.specs.Lists.{all, all_pairs, sum}
use Rattle.words.proofs.Tests.{T_of, and_left, and_right, and_both, eq_yes}
use Rattle.regions.specs.Positions.{well_formed, nested, leveled}
use Rattle.xrtree.specs.Tree.{regions, leaves, page_places, record_places}
use Rattle.xrtree.specs.Rules.{filled, linked, starts_first, rule1, rule2, rule3, rule4, rule5, rule6, shares_kept, placed}
use Rattle.pages.specs.Layout.{height_of, page_used, record_used}
use Rattle.image.specs.Read.{depth_of, tree_of, set_of}
use Rattle.image.specs.Valid.{sized, rule7, tree_rules, valid}

pub record Facts (w : List ℕ) : Type 0 where
  pub long : length w ≡ 12288
  pub low : 1 ≤ height_of w
  pub high : height_of w ≤ 4
  pub fills : T (filled (depth_of w) (tree_of w))
  pub links : T (linked (leaves (depth_of w) (tree_of w)))
  pub ascend : T (all_pairs starts_first (regions (depth_of w) (tree_of w)))
  pub second : T (rule2 (depth_of w) (tree_of w))
  pub third : T (rule3 (depth_of w) (tree_of w))
  pub fourth : T (rule4 (depth_of w) (tree_of w))
  pub fifth : T (rule5 (depth_of w) (tree_of w))
  pub formed : T (all well_formed (set_of w).regions)
  pub nest : T (all_pairs nested (set_of w).regions)
  pub level : T (all_pairs leveled (set_of w).regions)
  pub kept : T (shares_kept 16 (set_of w))
  pub sums : T (leb (sum (set_of w).shares) 500)
  pub pages : T (placed (page_used w) 160 (page_places (depth_of w) (tree_of w)))
  pub records : T (placed (record_used w) 500 (record_places (depth_of w) (tree_of w)))

pub valid_facts : (w : List ℕ) → T (valid w) → Facts w
unfolding valid sized tree_rules rule1 rule6 rule7
valid_facts w v =
    let s = and_left (sized w) _ v in
    let rest = and_right (sized w) _ v in
    let t = and_left (tree_rules (depth_of w) (tree_of w)) _ rest in
    let more = and_right (tree_rules (depth_of w) (tree_of w)) _ rest in
    let six = and_left (rule6 (set_of w)) _ more in
    let seven = and_right (rule6 (set_of w)) _ more in
    let high = and_right (eqb (length w) 12288) _ s in
    let one = and_left (rule1 (depth_of w) (tree_of w)) _ t in
    let two = and_right (rule1 (depth_of w) (tree_of w)) _ t in
    let three = and_right (rule2 (depth_of w) (tree_of w)) _ two in
    let four = and_right (rule3 (depth_of w) (tree_of w)) _ three in
    let one' = and_right (filled (depth_of w) (tree_of w)) _ one in
    let six' = and_right (all well_formed (set_of w).regions) _ six in
    let six'' = and_right (all_pairs nested (set_of w).regions) _ six' in
    let six''' = and_right (all_pairs leveled (set_of w).regions) _ six'' in
    record {
      long = eqb→eq (length w) 12288 (and_left (eqb (length w) 12288) _ s);
      low = leb→le 1 (height_of w) (and_left (leb 1 (height_of w)) _ high);
      high = leb→le (height_of w) 4 (and_right (leb 1 (height_of w)) _ high);
      fills = and_left (filled (depth_of w) (tree_of w)) _ one;
      links = and_left (linked (leaves (depth_of w) (tree_of w))) _ one';
      ascend = and_right (linked (leaves (depth_of w) (tree_of w))) _ one';
      second = and_left (rule2 (depth_of w) (tree_of w)) _ two;
      third = and_left (rule3 (depth_of w) (tree_of w)) _ three;
      fourth = and_left (rule4 (depth_of w) (tree_of w)) _ four;
      fifth = and_right (rule4 (depth_of w) (tree_of w)) _ four;
      formed = and_left (all well_formed (set_of w).regions) _ six;
      nest = and_left (all_pairs nested (set_of w).regions) _ six';
      level = and_left (all_pairs leveled (set_of w).regions) _ six'';
      kept = and_left (shares_kept 16 (set_of w)) _ six''';
      sums = and_right (shares_kept 16 (set_of w)) _ six''';
      pages = and_left (placed (page_used w) 160 (page_places (depth_of w) (tree_of w))) _ seven;
      records = and_right (placed (page_used w) 160 (page_places (depth_of w) (tree_of w))) _ seven;
    }

pub facts_valid : (w : List ℕ) → Facts w → T (valid w)
unfolding valid sized tree_rules rule1 rule6 rule7
facts_valid w f =
    and_both (sized w) _
    (and_both (eqb (length w) 12288) _ (T_of (eq_yes (length w) 12288 f.long)) (and_both (leb 1 (height_of w)) _ (le→leb 1 (height_of w) f.low) (le→leb (height_of w) 4 f.high)))
    (and_both (tree_rules (depth_of w) (tree_of w)) _
    (and_both (rule1 (depth_of w) (tree_of w)) _
    (and_both (filled (depth_of w) (tree_of w)) _ f.fills (and_both (linked (leaves (depth_of w) (tree_of w))) _ f.links f.ascend))
    (and_both (rule2 (depth_of w) (tree_of w)) _ f.second
    (and_both (rule3 (depth_of w) (tree_of w)) _ f.third (and_both (rule4 (depth_of w) (tree_of w)) _ f.fourth f.fifth))))
    (and_both (rule6 (set_of w)) _
    (and_both (all well_formed (set_of w).regions) _ f.formed (and_both (all_pairs nested (set_of w).regions) _ f.nest
    (and_both (all_pairs leveled (set_of w).regions) _ f.level (and_both (shares_kept 16 (set_of w)) _ f.kept f.sums))))
    (and_both (placed (page_used w) 160 (page_places (depth_of w) (tree_of w))) _ f.pages f.records)))
