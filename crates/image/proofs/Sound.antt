-- The set that a valid image means has what every set has: its regions ascend, nest, are leveled as they nest and well formed, no account is above its share, and there are at most 500.
-- So among the ancestors of a position no two have the same level, in every valid image; and with self the region that starts there is one more, the last.
-- Assumes nothing.
use Prim.Native.Nat.{ℕ, zero, suc, ◌<◌, ◌≤◌}
use mathlib.Core.Path.{◌≡◌, ap}
use mathlib.Core.Bool.{false}
use mathlib.Core.List.{List, ◌++◌}
use lib.Dec.{T, leb, ltb, eqb, leb→le}
use lib.ListN.{length, length-take, length-drop}
use native.Mathlib.Omega.{arith}
use Rattle.words.specs.Lists.{filter, All}
use Rattle.words.proofs.Tests.{T_of, of_T, by_test, and_left, and_right, eq_of, ne_of, eq_no, lt_of, nlt_of}
use Rattle.words.proofs.Listed.{all_mono, filter_none}
use Rattle.words.proofs.Says.{all_says, lt_says, pairs_say}
use Rattle.regions.specs.Positions.{account, well_formed}
use Rattle.regions.specs.Sets.{Set, of, held_by, share_of, is_at}
use Rattle.regions.specs.declared.Region.{Region}
use Rattle.regions.specs.declared.Choice.{Choice}
use Rattle.regions.specs.declared.Choice.TheVariants.{Strict, WithSelf}
use Rattle.regions.specs.Calls.{ancestors, parent}
use Rattle.regions.specs.Sound.{Wf, Rising, Nesting, Leveling, LevelsDiffer, Sound, OneParentEach, EachWithItself}
use Rattle.regions.proofs.Rising.{nesting_says, leveling_says, few}
use Rattle.regions.proofs.Chain.{levels_differ, parent_one}
use Rattle.regions.proofs.Parents.{one_parent_each}
use Rattle.regions.proofs.Selves.{with_self, each_with_itself}
use Rattle.xrtree.specs.Rules.{starts_first, shares_kept}
use Rattle.pages.specs.Layout.{root_of, shares_of}
use Rattle.image.specs.Read.{depth_of, set_of}
use Rattle.image.specs.Valid.{valid}
use Rattle.image.proofs.Facts.{valid_facts}
use Rattle.image.proofs.Small.{Small, small_page, small_regions}

module _ (w : List ℕ) (v : T (valid w)) where
  pub set_rises : Rising (set_of w).regions
  unfolding set_of starts_first
  set_rises = (pairs_say (λ (x y : Region). lt_says x.start y.start) (set_of w).regions).yes_so (valid_facts w v).ascend

  pub set_nests : Nesting (set_of w).regions
  set_nests = (nesting_says (set_of w).regions).yes_so (valid_facts w v).nest

  pub set_leveled : Leveling (set_of w).regions
  set_leveled = (leveling_says (set_of w).regions).yes_so (valid_facts w v).level

  pub set_formed : All Wf (set_of w).regions
  set_formed = (all_says {p = well_formed} {M = Wf} (λ r. record { yes_so = of_T (well_formed r); so_yes = λ e. T_of e }) (set_of w).regions).yes_so (valid_facts w v).formed

  -- WITH SELF (change request C-17): the strict ancestors of a position, and behind them the region that starts there, if there is one
  pub valid_with_self : (p : ℕ) → ancestors WithSelf p (set_of w) ≡ ancestors Strict p (set_of w) ++ filter (is_at p) (set_of w).regions
  valid_with_self p = with_self p (set_of w).regions set_rises set_formed

  -- and the set joined with itself has each region of an account paired with itself, behind its other pairs
  pub valid_with_itself : (a : ℕ) → EachWithItself (set_of w) a
  valid_with_itself a = each_with_itself (set_of w) a set_rises set_formed

  -- BY LEVELS (change request C-16): no two ancestors of a position have the same, so that a position and a level have at most one parent
  pub valid_levels_differ : (ch : Choice) (p : ℕ) → LevelsDiffer (ancestors ch p (set_of w))
  valid_levels_differ ch p = levels_differ (set_of w) p set_rises set_nests set_leveled ch

  pub valid_parent_one : (p l : ℕ) → length (parent p l (set_of w)) ≤ 1
  valid_parent_one p l = parent_one (set_of w) p set_rises set_nests set_leveled l

-- and a d stands in at most one pair by parent and child
pub valid_one_parent_each : (x y : List ℕ) → T (valid x) → T (valid y) → (a : ℕ) → OneParentEach (set_of x) (set_of y) a
valid_one_parent_each x y u v a = one_parent_each (set_of x) (set_rises x u) (set_nests x u) (set_leveled x u) a (set_of y) (set_rises y v)

kept_below : (n : ℕ) (S : Set) → T (shares_kept n S) → (a : ℕ) → a < n → held_by a S ≤ share_of a S
unfolding shares_kept
kept_below zero S t a l = absurd (omega arith)
kept_below (suc n) S t a l =
    by_test (eqb a n) (λ e. rw (eq_of a n e) (leb→le (held_by n S) (share_of n S) (and_left (leb (held_by n S) (share_of n S)) _ t)))
    (λ e. let ne : (a ≡ n → ⊥) = ne_of a n e in kept_below n S (and_right (leb (held_by n S) (share_of n S)) _ t) a (omega arith))

module _ (w : List ℕ) (small : Small w) (v : T (valid w)) where
  pub starts_small : All (λ (r : Region). r.start < 4294967296) (set_of w).regions
  unfolding set_of
  starts_small = small_regions w small (λ (r : Region). r.start < 4294967296) (λ p b. small_page w small p b) (depth_of w) (root_of w)

  held_none : (a : ℕ) → 16 ≤ a → held_by a (set_of w) ≡ 0
  unfolding of
  held_none a l =
      ap length (filter_none (of a) (set_of w).regions (all_mono {Q = λ r. of a r ≡ false} (λ r k. eq_no (account r.start) a (λ e. omega arith)) (set_of w).regions starts_small))

  pub valid_sound : Sound (set_of w)
  valid_sound =
      let f = valid_facts w v in
      record {
        formed = set_formed w v;
        rising = set_rises w v;
        nesting = set_nests w v;
        leveling = set_leveled w v;
        within = λ a. by_test (ltb a 16) (λ t. kept_below 16 (set_of w) f.kept a (lt_of a 16 t)) (λ t. omega (arith, held_none a (nlt_of a 16 t)));
        shared = leb→le _ 500 f.sums;
      }

  sixteen : length (set_of w).shares ≡ 16
  unfolding set_of shares_of
  sixteen = simp (length-take, length-drop) (omega (arith, (valid_facts w v).long))

  pub at_most_500 : length (set_of w).regions ≤ 500
  at_most_500 = few (set_of w) valid_sound sixteen (all_mono {Q = λ r. account r.start ≤ 15} (λ r k. omega arith) (set_of w).regions starts_small)
