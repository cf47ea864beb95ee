-- What a search meets along its path, and how many that can be at most.
-- Assumes nothing.
use Prim.Native.Nat.{ℕ, zero, suc, ◌+◌, ◌*◌, ◌≤◌}
use mathlib.Core.List.{List}
use lib.Dec.{ltb}
use lib.ListN.{length, get_or, length-append}
use native.Mathlib.Omega.{arith}
use Rattle.words.proofs.Tests.{by_test}
use Rattle.regions.specs.declared.Choice.{Choice}
use Rattle.pages.specs.Layout.{key_word}
use Rattle.xrtree.specs.Search.{find_kids, steps_kids}
use Rattle.image.specs.Read.{key_at, kids_from}
use Rattle.meets.specs.PageMet.{lists_from, lists_looked_from}
use Rattle.meets.proofs.PageMet.{records_few, run_few, cost_few}

-- THE KEYS OF A PAGE, with m of them to go: none; one that is greater than p, which ends them; one that is not
module _ (w : List ℕ) (ch : Choice) (p : ℕ) (ws : List ℕ) where
  pub lists_few : (i m : ℕ) → length (lists_from w ch p ws i m) ≤ 501 * m
  unfolding kids_from find_kids
  lists_few i zero = omega arith
  lists_few i (suc m) =
      let k = key_at w ws i in
      let a = run_few ch p k in
      let b = records_few w 501 (get_or ws (key_word i + 3) 0) in
      let c = lists_few (suc i) m in
      by_test (ltb p (get_or ws (key_word i) 0)) (λ h. rw h (simp length-append (omega arith))) (λ h. rw h (simp length-append (omega arith)))

  pub lists_looked_few : (i m : ℕ) → lists_looked_from w ch p ws i m ≤ 501 * m
  unfolding kids_from steps_kids
  lists_looked_few i zero = omega arith
  lists_looked_few i (suc m) =
      let k = key_at w ws i in
      let a = cost_few ch p k in
      let b = records_few w 501 (get_or ws (key_word i + 3) 0) in
      let c = lists_looked_few (suc i) m in
      by_test (ltb p (get_or ws (key_word i) 0)) (λ h. rw h (omega arith)) (λ h. rw h (omega arith))
