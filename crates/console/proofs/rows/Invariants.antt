-- `console::rows` is safe and ends.
use Prim.Native.Nat.{◌≤◌}
use lib.ListN.{length}
use Rattle.console.proofs.rows.Given as goal

abbrev pub invariant-loop : goal.invariant-loop
invariant-loop g l = l.at ≤ length l.words
