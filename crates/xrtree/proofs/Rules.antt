-- THE RULES ON A TREE as document 01 declares them give `Good`, from which all laws follow (`rules_good`), and `Good` gives each of them back (`good_rules`).
-- Assumes nothing.
use Prim.Native.Nat.{ℕ, zero, suc, ◌<◌}
use mathlib.Core.Bool.{Bool, ◌&&◌, ◌||◌}
use mathlib.Core.List.{List, [], ◌∷◌, map}
use lib.Dec.{T, ltb, ltb→lt, lt→ltb}
use native.Mathlib.Omega.{arith}
use Rattle.words.specs.Lists.{all, all_pairs, All, Pairs}
use Rattle.words.proofs.Tests.{T_of, by_test, and_left, and_right, and_both, or_cases, or_left, or_right, nlt_of}
use Rattle.words.proofs.Listed.{all_mono, all_two, all_append, all_left, all_right, pairs_mono}
use Rattle.words.proofs.Says.{Says, lt_says, all_says, pairs_say}
use Rattle.regions.specs.Positions.{well_formed, nested, ends_before, contains, well_bound}
use Rattle.regions.specs.declared.Region.{Region}
use Rattle.xrtree.specs.Tree.{Entry, Key, Tree, weave, listed, region_of, regions, keys_of, items}
use Rattle.xrtree.specs.Tree.Item.{key}
use Rattle.xrtree.specs.Rules.{page_lists, rule2, rule3, rule4, rule5, starts_first, filled}
use Rattle.xrtree.specs.Claims.{regions_in, keys_under, Over, Proper, Good}
use Rattle.xrtree.proofs.Order.{Bounded, Rising, items_in, start_item, order_in, in_order, order_rule2, rules_order}
use Rattle.xrtree.proofs.Declared.{lists_declared, rule5_says, flags_say}

-- STARTS THAT ASCEND, as a test
pub rising_says : (rs : List Region) → Says (all_pairs starts_first rs) (Rising rs)
unfolding starts_first
rising_says rs = pairs_say (λ (x y : Region). lt_says x.start y.start) rs

pub over_rising : (rs : List Region) → Pairs Over rs → Rising rs
over_rising rs p = pairs_mono (λ x y w. w.0) rs p

-- RULE 6, its part on regions. A well formed region starts before it ends
long : (r : Region) → T (well_formed r) → r.start < r.end
unfolding well_formed well_bound
long r h = ltb→lt r.start r.end (and_left (ltb r.start r.end) _ (and_left (well_bound r.start r.end) _ h))

-- where x starts first, nested rightly is: what starts within x ends within x
pub nested_over : (x y : Region) → y.start < y.end → x.start < y.start → T (nested x y) → Over x y
unfolding nested ends_before contains
nested_over x y w s t = (
  s,
  (λ q. or_cases (ltb x.end y.start || ltb y.end x.start) _ t
      (λ u. or_cases (ltb x.end y.start) _ u (λ v. let z = ltb→lt x.end y.start v in absurd (omega arith)) (λ v. let z = ltb→lt y.end x.start v in absurd (omega arith)))
      (λ u. or_cases (ltb x.start y.start && ltb y.end x.end) _ u
      (λ v. ltb→lt y.end x.end (and_right (ltb x.start y.start) _ v))
      (λ v. let z = ltb→lt y.start x.start (and_left (ltb y.start x.start) _ v) in absurd (omega arith)))),
)

pub over_nested : (x y : Region) → Over x y → T (nested x y)
unfolding nested ends_before contains
over_nested x y w =
    by_test (ltb x.end y.start)
    (λ h. or_left (ltb x.end y.start || ltb y.end x.start) _ (or_left (ltb x.end y.start) _ (T_of h)))
    (λ h.
    let n = nlt_of x.end y.start h in
    or_right (ltb x.end y.start || ltb y.end x.start) _
    (or_left (ltb x.start y.start && ltb y.end x.end) _ (and_both (ltb x.start y.start) _ (lt→ltb x.start y.start w.0) (lt→ltb y.end x.end (w.1 n)))))

pub nested_pairs : (rs : List Region) → All (λ (r : Region). r.start < r.end) rs → Rising rs → Pairs (λ (x y : Region). T (nested x y)) rs → Pairs Over rs
nested_pairs [] w s n = tt
nested_pairs (r ∷ rs) w s n = (go rs w.1 s.0 n.0, nested_pairs rs w.1 s.1 n.1)
  where
    go : (xs : List Region) → All (λ (x : Region). x.start < x.end) xs → All (λ (x : Region). r.start < x.start) xs → All (λ (x : Region). T (nested r x)) xs → All (Over r) xs
    go [] a b c = tt
    go (x ∷ xs) a b c = (nested_over r x a.0 b.0 c.0, go xs a.1 b.1 c.1)

itself : (b : Bool) → Says b (T b)
itself b = record { yes_so = λ t. t; so_yes = λ t. t }

pub nested_says : (rs : List Region) → Says (all_pairs nested rs) (Pairs (λ (x y : Region). T (nested x y)) rs)
nested_says rs = pairs_say (λ (x y : Region). itself (nested x y)) rs

pub well_long : (rs : List Region) → T (all well_formed rs) → All (λ (r : Region). r.start < r.end) rs
well_long rs h = all_mono long rs ((all_says (λ (r : Region). itself (well_formed r)) rs).yes_so h)

-- a set that keeps rule 6, with ascending starts and its ends below top
pub set_proper : (top : ℕ) (rs : List Region) → All (λ (r : Region). r.end < top) rs → T (all_pairs starts_first rs) → T (all well_formed rs) → T (all_pairs nested rs) → Proper top rs
set_proper top rs u s w n =
    record {
      pairs = nested_pairs rs (well_long rs w) ((rising_says rs).yes_so s) ((nested_says rs).yes_so n);
      well = all_two (λ r a b. (a, b)) rs (well_long rs w) u;
    }

pub proper_rising : (top : ℕ) (rs : List Region) → Proper top rs → T (all_pairs starts_first rs)
proper_rising top rs s = (rising_says rs).so_yes (over_rising rs s.pairs)

pub proper_nested : (top : ℕ) (rs : List Region) → Proper top rs → T (all_pairs nested rs)
proper_nested top rs s = (nested_says rs).so_yes (pairs_mono over_nested rs s.pairs)

-- ALL STARTS AND KEYS below top
module _ (top : ℕ) where
  leaf_low : (es : List Entry) → All (λ (r : Region). r.start < top) (map region_of es) → Bounded 0 top (map start_item es)
  leaf_low [] a = tt
  leaf_low (e ∷ es) a = ((omega arith, omega (arith, a.0)), leaf_low es a.1)

  kids_low : (h : ℕ) → ((c : Tree h) → All (λ k. k < top) (keys_of h c) → All (λ (r : Region). r.start < top) (regions h c) → Bounded 0 top (items h c)) → (cs : List (Tree h × Key)) (last : Tree h)
      → All (λ k. k < top) (keys_under h cs last) → All (λ (r : Region). r.start < top) (regions_in h cs last) → Bounded 0 top (items_in h cs last)
  unfolding weave
  kids_low h ih [] last a b = ih last a b
  kids_low h ih (c ∷ cs) last a b =
      let k = c.1.key in
      let u = all_right (λ k. k < top) (keys_of h c.0) (k ∷ keys_under h cs last) a in
      all_append _ (items h c.0) (key k ∷ items_in h cs last)
      (ih c.0 (all_left (λ k. k < top) (keys_of h c.0) (k ∷ keys_under h cs last) a) (all_left (λ (r : Region). r.start < top) (regions h c.0) (regions_in h cs last) b))
      ((omega arith, omega (arith, u.0)), kids_low h ih cs last u.1 (all_right (λ (r : Region). r.start < top) (regions h c.0) (regions_in h cs last) b))

  pub items_low : (h : ℕ) (t : Tree h) → All (λ k. k < top) (keys_of h t) → All (λ (r : Region). r.start < top) (regions h t) → Bounded 0 top (items h t)
  unfolding listed
  items_low zero t a b = leaf_low t.entries b
  items_low (suc h) t a b = kids_low h (λ c a b. items_low h c a b) t.kids t.last a b

-- THE RULES ON A TREE, as declared (fills, rule 6's levels and documents, links, shares and places apart)
pub record Ruled (h : ℕ) (t : Tree h) : Type 0 where
  pub ascend : T (all_pairs starts_first (regions h t))
  pub second : T (rule2 h t)
  pub third : T (rule3 h t)
  pub fourth : T (rule4 h t)
  pub fifth : T (rule5 h t)
  pub nest : T (all_pairs nested (regions h t))

-- RULES → GOOD
pub rules_good : (top h : ℕ) (t : Tree h) → All (λ k. k < top) (keys_of h t) → All (λ (r : Region). r.end < top) (regions h t)
    → T (filled h t) → T (all well_formed (regions h t)) → Ruled h t → Good top h t
unfolding rule3
rules_good top h t keys ends f w r =
    let rs = regions h t in
    let s = set_proper top rs ends r.ascend w r.nest in
    let o = over_rising rs s.pairs in
    let i = order_in h 0 top t (items_low top h t keys (all_mono (λ x q. omega arith) rs s.well)) (rules_order h t f r.second o) in
    let lists = and_left (page_lists rs [] h t) _ r.third in
    record {
      order = i;
      set = s;
      lists = (lists_declared rs o h [] 0 top t i).0 (lists, r.fourth);
      firsts = (rule5_says h t).yes_so r.fifth;
      flags = (flags_say h (keys_of h t) t).yes_so (and_right (page_lists rs [] h t) _ r.third);
    }

-- GOOD → RULES
pub good_rules : (top h : ℕ) (t : Tree h) → Good top h t → Ruled h t
unfolding rule3
good_rules top h t g =
    let rs = regions h t in
    let o = over_rising rs g.set.pairs in
    let l = (lists_declared rs o h [] 0 top t g.order).1 g.lists in
    record {
      ascend = proper_rising top rs g.set;
      second = order_rule2 h t (in_order h 0 top t g.order o);
      third = and_both (page_lists rs [] h t) _ l.0 ((flags_say h (keys_of h t) t).so_yes g.flags);
      fourth = l.1;
      fifth = (rule5_says h t).so_yes g.firsts;
      nest = proper_nested top rs g.set;
    }
