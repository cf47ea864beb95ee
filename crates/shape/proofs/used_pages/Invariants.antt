-- `shape::used_pages` meets its contract: what was counted so far are the pages in use below the next one.
use Prim.Native.Nat.{◌-◌, ◌<◌}
use mathlib.Core.Path.{◌≡◌}
use Rattle.shape.specs.Run.{used_to}
use Rattle.shape.proofs.used_pages.Given as goal

abbrev pub invariant-loop-p : goal.invariant-loop-p
invariant-loop-p l = (l.n < l.p) × (l.n ≡ used_to l.img (l.p - 1))
