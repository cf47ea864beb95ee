-- `raising::raise` meets its contract: the keys from j on are done.
use Prim.Native.Nat.{ℕ, ◌≤◌}
use Rattle.raising.specs.Moves.{RaiseReady}
use Rattle.raising.proofs.Raising.{Rising}
use Rattle.raising.proofs.raise.Given as goal

abbrev pub invariant-loop-j : goal.invariant-loop-j
invariant-loop-j l = (l.j ≤ l.c) × ((h : ℕ) (g : RaiseReady l.initial.img l.page l.c h) → Rising l.initial.img l.page l.c h g l.img l.key l.ws l.j)
