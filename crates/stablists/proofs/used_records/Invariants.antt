-- `stablists::used_records` meets its contract. The loop's invariant: n of the places before q are used.
use Prim.Native.Nat.{◌<◌, ◌-◌}
use mathlib.Core.Path.{◌≡◌}
use Rattle.stablists.specs.Pass.{used_to}
use Rattle.stablists.proofs.used_records.Given as goal

abbrev pub invariant-loop-q : goal.invariant-loop-q
invariant-loop-q l = (l.n < l.q) × (l.n ≡ used_to l.img (l.q - 1))
