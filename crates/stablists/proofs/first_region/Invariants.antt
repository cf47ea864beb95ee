-- `stablists::first_region` meets its contract. The loop's invariant: the leftmost region below the page reached is the one that is looked for.
use Prim.Native.Nat.{◌-◌}
use mathlib.Core.Path.{◌≡◌}
use Rattle.stablists.specs.Pass.{first_region}
use Rattle.stablists.proofs.first_region.Given as goal

abbrev pub invariant-loop : goal.invariant-loop
invariant-loop l = first_region l.img (l.depth - l.counter) l.q ≡ first_region l.img l.depth l.p
