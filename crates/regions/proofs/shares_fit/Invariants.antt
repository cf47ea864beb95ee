-- `regions::shares_fit` meets its contract: what is left of the room and of the shares keeps their difference.
use Prim.Native.Nat.{◌+◌, ◌≤◌}
use mathlib.Core.Path.{◌≡◌}
use lib.ListN.{drop}
use Rattle.words.specs.Lists.{sum}
use Rattle.regions.proofs.shares_fit.Given as goal

abbrev pub invariant-loop-share : goal.invariant-loop-share
invariant-loop-share l = (l.room ≤ 500) × (sum (drop l.share-index l.fn.shares) + 500 ≡ sum l.fn.shares + l.room)
