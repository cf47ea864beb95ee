-- A region stands in at most one list: all lists together are no longer than the set. So the records suffice.
-- Assumes nothing.
use Prim.Native.Nat.{ℕ, suc, ◌+◌, ◌≤◌, ◌<◌}
use mathlib.Core.List.{List}
use lib.ListN.{length}
use native.Mathlib.Omega.{arith}
use Rattle.words.proofs.Counted.{one, one_of_three, filter_three}
use Rattle.regions.specs.declared.Region.{Region}
use Rattle.xrtree.specs.Local.{boxb, box, home}
use Rattle.xrtree.proofs.Box.{of_box, to_box}

-- at home with a key, left of it, right of it
pub home_three : (lo k hi : ℕ) (x : Region) → lo ≤ k → k < hi → one (boxb lo (suc k) k hi x) + one (boxb lo k 0 k x) + one (boxb (suc k) hi 0 hi x) ≤ one (boxb lo hi 0 hi x)
home_three lo k hi x l u =
    one_of_three (boxb lo (suc k) k hi x) (boxb lo k 0 k x) (boxb (suc k) hi 0 hi x) (boxb lo hi 0 hi x)
    (λ a. let i = of_box lo (suc k) k hi x a in to_box lo hi 0 hi x (omega arith))
    (λ b. let i = of_box lo k 0 k x b in to_box lo hi 0 hi x (omega arith))
    (λ c. let i = of_box (suc k) hi 0 hi x c in to_box lo hi 0 hi x (omega arith))
    (λ a b. let i = of_box lo (suc k) k hi x a in let j = of_box lo k 0 k x b in omega arith)
    (λ a c. let i = of_box lo (suc k) k hi x a in let j = of_box (suc k) hi 0 hi x c in omega arith)
    (λ b c. omega (arith, of_box lo k 0 k x b, of_box (suc k) hi 0 hi x c))

-- the regions that lie between the bounds: those of a key, those left of it, those right of it
abbrev inner : ℕ → ℕ → List Region → List Region
inner lo hi rs = box lo hi 0 hi rs

pub inner_three : (rs : List Region) (lo k hi : ℕ) → lo ≤ k → k < hi → length (home lo k hi rs) + length (inner lo k rs) + length (inner (suc k) hi rs) ≤ length (inner lo hi rs)
unfolding box
inner_three rs lo k hi l u = filter_three (boxb lo (suc k) k hi) (boxb lo k 0 k) (boxb (suc k) hi 0 hi) (boxb lo hi 0 hi) (λ x. home_three lo k hi x l u) rs
