-- The sum of the shares, from some share on.
-- Assumes nothing.
use Prim.Native.Nat.{ℕ, ◌+◌, ◌<◌, ◌≤◌}
use mathlib.Core.Path.{◌≡◌}
use mathlib.Core.List.{List}
use lib.ListN.{length, get_or, drop, drop_of_length-le}
use lib.Seq.{drop-cons}
use native.Mathlib.Numerals.{add-one}
use Rattle.words.specs.Lists.{sum}

-- SHARES: the sum from one account on
pub sum_more : (shares : List ℕ) (a : ℕ) → a < length shares → sum (drop a shares) ≡ get_or shares a 0 + sum (drop (a + 1) shares)
unfolding sum
sum_more shares a h = rw (add-one, drop-cons shares a 0 h)

pub sum_none : (shares : List ℕ) (a : ℕ) → length shares ≤ a → sum (drop a shares) ≡ 0
unfolding sum
sum_none shares a h = rw (drop_of_length-le shares h)
