-- `census::taken` meets its contract. Each word that was passed is what was taken of a share.
use Prim.Native.Nat.{ℕ, ◌<◌, ◌+◌, ◌-◌}
use mathlib.Core.Path.{◌≡◌}
use lib.ListN.{length, get_or}
use Rattle.census.proofs.taken.Given as goal

abbrev pub invariant-loop-i : goal.invariant-loop-i
invariant-loop-i l = (length l.held ≡ 16) × ((k : ℕ) → k < l.i → get_or l.held k 0 ≡ get_or l.img (2 + k) 0 - get_or l.left k 0)
