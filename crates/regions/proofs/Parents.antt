-- The join by parent and child: what is paired with a d holds its start and has the level one less, so it is at most one; and no d stands in two pairs. Of outer alone the levels are asked.
-- Assumes nothing.
use Prim.Native.Nat.{ℕ, ◌+◌, ◌<◌, ◌≤◌}
use mathlib.Core.Path.{◌≡◌, ap}
use mathlib.Core.Bool.{true}
use lib.Dec.{T}
use lib.ListN.{length, length-map}
use native.Mathlib.Omega.{arith}
use Rattle.words.specs.Lists.{filter, Pairs}
use Rattle.words.proofs.Tests.{and_right}
use Rattle.words.proofs.Listed.{all_every, filter_within, pairs_kept, no_two, flat_few}
use Rattle.regions.specs.declared.Region.{Region}
use Rattle.regions.specs.declared.Kind.{Kind}
use Rattle.regions.specs.declared.Kind.TheVariants.{Parent}
use Rattle.regions.specs.Positions.{nested, leveled, holds}
use Rattle.regions.specs.Sets.{Set, of, only, held_by}
use Rattle.regions.specs.Calls.{Pair, choice_of, level_fits, pairs_with, pair_of, pairs_of, joined}
use Rattle.regions.specs.Sound.{Rising, Nesting, Leveling, OneParentEach}
use Rattle.regions.proofs.Means.{above_says}
use Rattle.regions.proofs.Chain.{one_of_level}
use Rattle.regions.proofs.Joined.{pairs_hold, joined_in_turn}

-- A KIND THAT FIXES THE LEVEL of what it pairs with a d
abbrev FixesLevel : Kind → Type 0
FixesLevel k = (d x : Region) → T (pairs_with k d x) → x.level + 1 ≡ d.level

parent_fixes : FixesLevel Parent
unfolding pairs_with level_fits
parent_fixes d x t = (above_says d.level x).yes_so (and_right (holds (choice_of Parent) d.start x) _ t)

abbrev rises : Pair → Pair → Type 0
rises p q = p.d.start < q.d.start

module _ (X : Set) (h : Rising X.regions) (n : Nesting X.regions) (l : Leveling X.regions) (a : ℕ) where
  -- has at most one pair of each d: they hold its start, and no two of those have the same level
  one_pair : (k : Kind) → FixesLevel k → (d : Region) → length (pairs_of k (filter (of a) X.regions) d) ≤ 1
  unfolding pairs_of
  one_pair k f d =
      let S = only a X in
      let held = filter_within (pairs_with k d) (holds (choice_of k) d.start) S.regions (all_every (λ x t. pairs_hold k d x t) S.regions) in
      let up = pairs_kept (λ x y. x.start < y.start) (of a) X.regions h in
      let nest = pairs_kept (λ x y. nested x y ≡ true) (of a) X.regions n in
      let level = pairs_kept (λ x y. leveled x y ≡ true) (of a) X.regions l in
      let one = one_of_level S d.start up nest level (choice_of k) d.level (pairs_with k d) (f d) in
      omega (arith, ap length held, length-map (filter (pairs_with k d) S.regions) (pair_of d))

  -- so that from pair to pair the d's rise; of inner it is asked only that it ascends
  one_each : (Y : Set) → Rising Y.regions → (k : Kind) → FixesLevel k → Pairs rises (joined X Y a k)
  one_each Y up k f = joined_in_turn rises X Y a k (λ d. no_two rises (pairs_of k (filter (of a) X.regions) d) (one_pair k f d)) (λ d e x y u. u) up

  -- BY PARENT AND CHILD
  pub one_parent_each : (Y : Set) → Rising Y.regions → OneParentEach X Y a
  one_parent_each Y up = one_each Y up Parent parent_fixes

  -- no more pairs than inner regions
  pub parents_few : (Y : Set) → length (joined X Y a Parent) ≤ held_by a Y
  unfolding joined
  parents_few Y = flat_few (pairs_of Parent (filter (of a) X.regions)) (one_pair Parent parent_fixes) (filter (of a) Y.regions)
