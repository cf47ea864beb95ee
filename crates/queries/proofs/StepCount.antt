-- The ancestor search's step count is at most 4 + 2 × total (document 01, "Calls"), of the public call's own promise, by either choice. Words of 32 bits are given.
-- Assumes nothing.
use Prim.Native.Nat.{ℕ, ◌+◌, ◌*◌, ◌<◌, ◌≤◌}
use mathlib.Core.Path.{sym, ◌∙◌}
use mathlib.Core.List.{List}
use lib.Dec.{eqb}
use lib.ListN.{get_or}
use native.Mathlib.Omega.{arith}
use Rattle.words.proofs.Tests.{by_test, eq_of, ne_of, T_of}
use Rattle.regions.specs.Calls.{point_no}
use Rattle.regions.specs.declared.Choice.{Choice}
use Rattle.image.specs.Valid.{valid}
use Rattle.search.proofs.Right.{steps_bound}
use Rattle.queries.specs.Searches.{FindsAncestors}
use Rattle.regions.proofs.Numbers.{image_right}

pub steps_at_most : (w : List ℕ) → ((i : ℕ) → get_or w i 0 < 4294967296) → (a p : ℕ) (ch : Choice) → p < 4294967296 → (out out' : List ℕ) (n total made : ℕ)
    → FindsAncestors w a p ch out n total made out' → made ≤ 4 + 2 * total
steps_at_most w s a p ch l out out' n total made f =
    by_test (eqb n 0)
    (λ t.
    let z = eq_of n 0 t in
    let d = f.done z in
    let b = steps_bound w s ch p l (T_of (image_right (valid w) (point_no a p) (sym z ∙ f.number_is))) in
    omega (arith, d.0, d.1))
    (λ t. let r = f.refused (ne_of n 0 t) in omega (arith, r.1))
