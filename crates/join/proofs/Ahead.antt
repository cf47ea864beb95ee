-- The pairs of an account past a mark that are still ahead: those of the d's from a position on. All of them from the join's first position on;
-- those of the first d and then the rest; none where the first d is of another account; and none of a d that no outer region holds.
-- Assumes nothing.
use Prim.Native.Nat.{ℕ, suc, ◌<◌, ◌≤◌}
use mathlib.Core.Path.{◌≡◌, refl, sym, ap, ◌∙◌, subst}
use mathlib.Core.Logic.{⊎_elim}
use mathlib.Core.Bool.{Bool, true, false, cond}
use mathlib.Core.List.{List, [], ◌∷◌, ◌++◌, map, flat_map}
use lib.ListN.{length}
use native.Mathlib.Omega.{arith}
use Rattle.words.specs.Lists.{filter, All}
use Rattle.words.proofs.Tests.{by_test}
use Rattle.words.proofs.Listed.{all_mono, all_every, all_map, all_kept, filter_yes, filter_no, filter_all, filter_none, filter_within, none_of, filter_flat}
use Rattle.words.proofs.Counted.{filter_short}
use Rattle.regions.specs.Positions.{account, holds, too_late, lowest}
use Rattle.regions.specs.Sets.{Set, of, starts_from}
use Rattle.regions.specs.Calls.{Pair, choice_of, pairs_with, pair_of, pairs_of, joined}
use Rattle.regions.specs.Desk.{is_past, past}
use Rattle.regions.specs.declared.Region.{Region}
use Rattle.regions.specs.declared.Kind.{Kind}
use Rattle.regions.specs.declared.Mark.{Mark}
use Rattle.regions.specs.declared.Mark.TheVariants.{Fresh, Last}
use Rattle.words.proofs.Says.{lt_says, true_so, so_true, false_so, so_false}
use Rattle.regions.proofs.Means.{of_says, from_says}
use Rattle.regions.specs.Sound.{Wf}
use Rattle.regions.proofs.Local.{holds_account}
use Rattle.regions.proofs.Joined.{pairs_hold, later_says}
use Rattle.stack.proofs.Stacks.{upto_holds, holders_skip, from_within, First}
use Rattle.stack.proofs.Pairs.{pairs_not}
use Rattle.skips.specs.Joins.{first_position, Clear, first_held}
use Rattle.skips.proofs.Ways.{held_says, held_far}

-- FROM A POSITION ON
pub from_all : (rs : List Region) → filter (starts_from 0) rs ≡ rs
from_all rs = filter_all (starts_from 0) rs (all_every (λ r. so_true (from_says 0 r) (omega arith)) rs)

pub from_fewer : (y y' : ℕ) (rs : List Region) → y ≤ y' → length (filter (starts_from y') rs) ≤ length (filter (starts_from y) rs)
from_fewer y y' rs l = omega (arith, ap length (from_within y y' rs l), filter_short (starts_from y') (filter (starts_from y) rs))

-- d's that yield nothing may be left out
module _ (g : Region → List Pair) (p : Region → Bool) where
  flat_front : (d : Region) (ds : List Region) → flat_map g (filter p (d ∷ ds)) ≡ cond (p d) (g d) [] ++ flat_map g (filter p ds)
  unfolding filter flat_map
  flat_front d ds = by_test (p d) (λ h. rw h) (λ h. rw h)

  flat_skip : (y y' : ℕ) → y ≤ y' → (ds : List Region) → All (λ (d : Region). p d ≡ true → y ≤ d.start → d.start < y' → g d ≡ []) ds
      → flat_map g (filter p (filter (starts_from y) ds)) ≡ flat_map g (filter p (filter (starts_from y') ds))
  unfolding filter flat_map
  flat_skip y y' l [] h = refl
  flat_skip y y' l (d ∷ ds) h =
      let ih = flat_skip y y' l ds h.1 in
      let us = filter (starts_from y) ds in
      let vs = filter (starts_from y') ds in
      by_test (starts_from y' d)
      (λ e.
      let k = true_so (from_says y' d) e in
      ap (λ zs. flat_map g (filter p zs)) (filter_yes (starts_from y) d ds (so_true (from_says y d) (omega arith)))
      ∙ flat_front d us ∙ ap (λ zs. cond (p d) (g d) [] ++ zs) ih ∙ sym (flat_front d vs)
      ∙ ap (λ zs. flat_map g (filter p zs)) (sym (filter_yes (starts_from y') d ds e)))
      (λ e.
      let n : (y' ≤ d.start → ⊥) = false_so (from_says y' d) e in
      by_test (starts_from y d)
      (λ f.
      let k = true_so (from_says y d) f in
      let z : cond (p d) (g d) [] ≡ [] = by_test (p d) (λ q. rw q (h.0 q k (omega arith))) (λ q. rw q) in
      ap (λ zs. flat_map g (filter p zs)) (filter_yes (starts_from y) d ds f)
      ∙ flat_front d us ∙ ap (λ zs. zs ++ flat_map g (filter p us)) z ∙ ih
      ∙ ap (λ zs. flat_map g (filter p zs)) (sym (filter_no (starts_from y') d ds e)))
      (λ f. ap (λ zs. flat_map g (filter p zs)) (filter_no (starts_from y) d ds f) ∙ ih ∙ ap (λ zs. flat_map g (filter p zs)) (sym (filter_no (starts_from y') d ds e))))

-- WHERE IT BEGINS
pub position_low : (a : ℕ) (m : Mark) → lowest a ≤ first_position a m
unfolding first_position
position_low a Fresh = omega arith
position_low a (Last x y) = omega arith

-- before that no pair of the account is past the mark
pairs_before : (k : Kind) (xs : List Region) (x y : ℕ) (d : Region) → d.start < y → past (Last x y) (pairs_of k xs d) ≡ []
unfolding pairs_of is_past
pairs_before k xs x y d l =
    filter_none (is_past (Last x y)) (map (pair_of d) (filter (pairs_with k d) xs))
    (all_map (λ q. is_past (Last x y) q ≡ false) (pair_of d) (filter (pairs_with k d) xs)
    (all_every (λ z. so_false (later_says x y (pair_of d z)) (λ q. ⊎_elim (λ u. omega arith) (λ u. omega arith) q)) (filter (pairs_with k d) xs)))

before_first : (a : ℕ) (k : Kind) (m : Mark) (xs : List Region) (d : Region) → of a d ≡ true → d.start < first_position a m → past m (pairs_of k xs d) ≡ []
unfolding first_position
before_first a k Fresh xs d h l = absurd (let e = true_so (of_says a d) h in omega arith)
before_first a k (Last x y) xs d h l = let e = true_so (of_says a d) h in pairs_before k xs x y d (omega arith)

-- one d's pairs, and those of the d's that start at y or behind it
module _ (xs : List Region) (a : ℕ) (k : Kind) (m : Mark) where
  abbrev pub pairs_at : Region → List Pair
  pairs_at d = past m (pairs_of k (filter (of a) xs) d)

  abbrev pub pairs_from : List Region → ℕ → List Pair
  pairs_from ds y = flat_map pairs_at (filter (of a) (filter (starts_from y) ds))

  -- none where no outer region holds d's start
  pairs_none : (d : Region) → filter (holds (choice_of k) d.start) xs ≡ [] → pairs_at d ≡ []
  unfolding pairs_of filter
  pairs_none d e =
      ap (λ l. past m (map (pair_of d) l))
      (filter_none (pairs_with k d) (filter (of a) xs)
      (all_kept (λ x. pairs_with k d x ≡ false) (of a) xs (all_mono {Q = λ x. pairs_with k d x ≡ false} (λ x n. sym (pairs_not k d x n)) xs (none_of (holds (choice_of k) d.start) xs e))))

  -- outer regions of other accounts do not hold a d of this one
  pub pairs_own : (d : Region) → of a d ≡ true → All Wf xs → pairs_at d ≡ past m (pairs_of k xs d)
  unfolding pairs_of
  pairs_own d h f =
      ap (λ l. past m (map (pair_of d) l))
      (sym
      (filter_within (pairs_with k d) (of a) xs
      (all_mono {Q = λ x. pairs_with k d x ≡ true → of a x ≡ true}
      (λ x g q. subst (λ (b : ℕ). of b x ≡ true) (true_so (of_says a d) h) (holds_account (choice_of k) d.start x g (pairs_hold k d x q))) xs f)))

  -- THE SKIP: where p has no ancestor and no outer region starts from the first on that comes too late for p, up to q, none comes in time for a d before the first that
  -- what starts at q may hold
  pub ahead_skip : (ds : List Region) (p q : ℕ) → filter (holds (choice_of k) p) xs ≡ [] → Clear xs (too_late (choice_of k) p) q → pairs_from ds (suc p) ≡ pairs_from ds (first_held (choice_of k) q)
  ahead_skip ds p q e c =
      let ch = choice_of k in
      flat_skip pairs_at (of a) (suc p) (first_held ch q) (held_far ch p q c.far) ds
      (all_every {P = λ d. of a d ≡ true → suc p ≤ d.start → d.start < first_held ch q → pairs_at d ≡ []}
      (λ d h u v.
      let late : (q < too_late ch d.start → ⊥) = (λ z. let n = (held_says ch q d.start).yes_so ((lt_says q (too_late ch d.start)).so_yes z) in omega arith) in
      pairs_none d
      (sym (upto_holds ch d.start xs)
      ∙ holders_skip (too_late ch p) p (too_late ch d.start) d.start q xs (upto_holds ch p xs ∙ e) c.none (omega arith) (omega arith))) ds)

  -- the first d is of the account, or of another: then no later one is of it
  pub ahead_own : (ds : List Region) (y : ℕ) (d : Region) (rest : List Region) → First ds y d rest → filter (starts_from y) ds ≡ d ∷ rest → of a d ≡ true
      → pairs_from ds y ≡ pairs_at d ++ pairs_from ds (suc d.start)
  ahead_own ds y d rest f e h =
      ap (λ l. flat_map pairs_at (filter (of a) l)) e ∙ flat_front pairs_at (of a) d rest ∙ ap (λ b. cond b (pairs_at d) [] ++ flat_map pairs_at (filter (of a) rest)) h
      ∙ ap (λ l. pairs_at d ++ flat_map pairs_at (filter (of a) l)) f.others

  pub ahead_other : (ds : List Region) (y : ℕ) (d : Region) (rest : List Region) → lowest a ≤ y → First ds y d rest → filter (starts_from y) ds ≡ d ∷ rest → of a d ≡ false → pairs_from ds y ≡ []
  unfolding flat_map
  ahead_other ds y d rest l f e h =
      let n : (account d.start ≡ a → ⊥) = false_so (of_says a d) h in
      ap (λ l. flat_map pairs_at (filter (of a) l)) e
      ∙ ap (flat_map pairs_at)
      (filter_none (of a) (d ∷ rest)
      (all_mono {Q = λ x. of a x ≡ false} (λ x u. so_false (of_says a x) (λ q. omega (arith, f.low))) (d ∷ rest) f.least))

  pub ahead_none : (ds : List Region) (y : ℕ) → filter (starts_from y) ds ≡ [] → pairs_from ds y ≡ []
  unfolding filter flat_map
  ahead_none ds y e = ap (λ l. flat_map pairs_at (filter (of a) l)) e

-- ALL OF THEM
pub ahead_all : (X Y : Set) (a : ℕ) (k : Kind) (m : Mark) → pairs_from X.regions a k m Y.regions (first_position a m) ≡ past m (joined X Y a k)
unfolding joined
ahead_all X Y a k m =
    let xs = filter (of a) X.regions in
    let g = pairs_at X.regions a k m in
    sym
    (filter_flat (pairs_of k xs) (is_past m) (filter (of a) Y.regions)
    ∙ ap (λ l. flat_map g (filter (of a) l)) (sym (from_all Y.regions))
    ∙ flat_skip g (of a) 0 (first_position a m) (omega arith) Y.regions
    (all_every {P = λ d. of a d ≡ true → 0 ≤ d.start → d.start < first_position a m → g d ≡ []} (λ d h u v. before_first a k m xs d h v) Y.regions))
