-- `examples::keys_go` is safe: no more are found than were looked for.
use Prim.Native.Nat.{◌≤◌}
use Rattle.examples.proofs.keys_go.Given as goal

abbrev pub invariant-loop-i : goal.invariant-loop-i
invariant-loop-i g l = l.found ≤ l.i
