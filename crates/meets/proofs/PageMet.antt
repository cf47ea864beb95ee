-- What a page's lists add to what a search has met, turn by turn.
-- Assumes nothing.
use Prim.Native.Nat.{ℕ, zero, suc, ◌+◌, ◌≤◌, ◌<◌}
use mathlib.Core.Path.{◌≡◌, refl}
use mathlib.Core.Bool.{true, false}
use mathlib.Core.List.{List, [], ◌∷◌, ◌++◌, append-nil}
use lib.Dec.{eqb}
use lib.ListN.{length, get_or}
use native.Mathlib.Omega.{arith}
use Rattle.words.specs.Lists.{take_while}
use Rattle.words.proofs.Tests.{by_test, eq_yes, eq_no, lt_yes, lt_no}
use Rattle.regions.specs.Positions.{spans, holds}
use Rattle.regions.specs.declared.Region.{Region}
use Rattle.regions.specs.declared.Choice.{Choice}
use Rattle.pages.specs.Layout.{record_of, record_next, region_in, key_word}
use Rattle.xrtree.specs.Tree.{Key}
use Rattle.xrtree.specs.Search.{run, looks, cost, find_kids, steps_kids}
use Rattle.image.specs.Read.{chain, record_region, key_at, kids_from}
use Rattle.meets.specs.PageMet.{records_from, held_from, looked_from, lists_from, lists_looked_from}

-- A LIST OF RECORDS, with n of them to go
module _ (w : List ℕ) where
  pub records_ended : (n q : ℕ) → q ≡ 0 → records_from w n q ≡ []
  unfolding chain
  records_ended zero q e = refl
  records_ended (suc n) q e = rw (eq_yes q 0 e)

  pub records_more : (n m q : ℕ) → (q ≡ 0 → ⊥) → n ≡ suc m → records_from w n q ≡ record_region w q ∷ records_from w m (record_next (record_of w q))
  unfolding chain
  records_more n m q e h = rw (h, eq_no q 0 e)

  pub records_few : (n q : ℕ) → length (records_from w n q) ≤ n
  unfolding chain
  records_few zero q = omega arith
  records_few (suc n) q =
      let i = records_few n (record_next (record_of w q)) in
      by_test (eqb q 0) (λ h. rw h (omega arith)) (λ h. rw h (omega arith))

-- a region that holds p by the choice is met and looked at; one that does not is looked at, and ends the walk
module _ (ch : Choice) (p : ℕ) where
  pub while_few : (rs : List Region) → length (take_while (holds ch p) rs) ≤ length rs
  unfolding take_while
  while_few [] = omega arith
  while_few (r ∷ rs) = let i = while_few rs in by_test (holds ch p r) (λ h. rw h (omega arith)) (λ h. rw h (omega arith))

  pub looks_few : (rs : List Region) → looks ch p rs ≤ length rs
  unfolding looks
  looks_few [] = omega arith
  looks_few (r ∷ rs) = let i = looks_few rs in by_test (holds ch p r) (λ h. rw h (omega arith)) (λ h. rw h (omega arith))

  module _ (w : List ℕ) where
    pub held_ended : (n q : ℕ) → q ≡ 0 → held_from w ch p n q ≡ []
    unfolding take_while
    held_ended n q e = rw (records_ended w n q e)

    pub looked_ended : (n q : ℕ) → q ≡ 0 → looked_from w ch p n q ≡ 0
    unfolding looks
    looked_ended n q e = rw (records_ended w n q e)

    pub held_none : (n q : ℕ) → n ≡ 0 → held_from w ch p n q ≡ []
    unfolding take_while chain
    held_none n q e = rw e

    pub looked_none : (n q : ℕ) → n ≡ 0 → looked_from w ch p n q ≡ 0
    unfolding looks chain
    looked_none n q e = rw e

    module _ (n m q : ℕ) (a : Region) (e : q ≡ 0 → ⊥) (l : n ≡ suc m) (f : a ≡ region_in (record_of w q) 0) where
      pub held_stop : holds ch p a ≡ false → held_from w ch p n q ≡ []
      unfolding take_while record_region
      held_stop h = rw (records_more w n m q e l, ← f, h)

      pub looked_stop : holds ch p a ≡ false → looked_from w ch p n q ≡ 1
      unfolding looks record_region
      looked_stop h = rw (records_more w n m q e l, ← f, h)

      pub held_more : holds ch p a ≡ true → held_from w ch p n q ≡ a ∷ held_from w ch p m (record_next (record_of w q))
      unfolding take_while record_region
      held_more h = rw (records_more w n m q e l, ← f, h)

      pub looked_more : holds ch p a ≡ true → looked_from w ch p n q ≡ 1 + looked_from w ch p m (record_next (record_of w q))
      unfolding looks record_region
      looked_more h = rw (records_more w n m q e l, ← f, h) (omega arith)

-- A KEY: its stored pair does not hold p, or it does
module _ (ch : Choice) (p : ℕ) (k : Key) where
  pub run_beside : spans ch p k.pair_start k.pair_end ≡ false → run ch p k ≡ []
  unfolding run
  run_beside h = rw h

  pub run_list : spans ch p k.pair_start k.pair_end ≡ true → run ch p k ≡ take_while (holds ch p) k.list
  unfolding run
  run_list h = rw h

  pub cost_beside : spans ch p k.pair_start k.pair_end ≡ false → cost ch p k ≡ 0
  unfolding cost
  cost_beside h = rw h

  pub cost_list : spans ch p k.pair_start k.pair_end ≡ true → cost ch p k ≡ looks ch p k.list
  unfolding cost
  cost_list h = rw h

  pub run_few : length (run ch p k) ≤ length k.list
  unfolding run
  run_few = let i = while_few ch p k.list in by_test (spans ch p k.pair_start k.pair_end) (λ h. rw h i) (λ h. rw h (omega arith))

  pub cost_few : cost ch p k ≤ length k.list
  unfolding cost
  cost_few = let i = looks_few ch p k.list in by_test (spans ch p k.pair_start k.pair_end) (λ h. rw h i) (λ h. rw h (omega arith))

-- THE KEYS OF A PAGE, with m of them to go: none; one that is greater than p, which ends them; one that is not
module _ (w : List ℕ) (ch : Choice) (p : ℕ) (ws : List ℕ) where
  pub lists_none : (i m : ℕ) → m ≡ 0 → lists_from w ch p ws i m ≡ []
  unfolding kids_from find_kids
  lists_none i m e = rw e

  pub lists_looked_none : (i m : ℕ) → m ≡ 0 → lists_looked_from w ch p ws i m ≡ 0
  unfolding kids_from steps_kids
  lists_looked_none i m e = rw e

  module _ (i m l : ℕ) (e : m ≡ suc l) where
    pub lists_last : p < get_or ws (key_word i) 0 → lists_from w ch p ws i m ≡ run ch p (key_at w ws i)
    unfolding kids_from find_kids
    lists_last h = rw (e, lt_yes p (get_or ws (key_word i) 0) h) (append-nil (run ch p (key_at w ws i)))

    pub lists_looked_last : p < get_or ws (key_word i) 0 → lists_looked_from w ch p ws i m ≡ cost ch p (key_at w ws i)
    unfolding kids_from steps_kids
    lists_looked_last h = rw (e, lt_yes p (get_or ws (key_word i) 0) h) (omega arith)

    pub lists_more : get_or ws (key_word i) 0 ≤ p → lists_from w ch p ws i m ≡ run ch p (key_at w ws i) ++ lists_from w ch p ws (suc i) l
    unfolding kids_from find_kids
    lists_more h = rw (e, lt_no p (get_or ws (key_word i) 0) h)

    pub lists_looked_more : get_or ws (key_word i) 0 ≤ p → lists_looked_from w ch p ws i m ≡ cost ch p (key_at w ws i) + lists_looked_from w ch p ws (suc i) l
    unfolding kids_from steps_kids
    lists_looked_more h = rw (e, lt_no p (get_or ws (key_word i) 0) h)
