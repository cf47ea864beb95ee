-- `listing_join::print_join` is safe and ends.
use Prim.Native.Nat.{◌-◌, ◌≤◌}
use Rattle.listing_join.proofs.print_join.Given as goal

abbrev pub invariant-loop-account : goal.invariant-loop-account
invariant-loop-account g l = l.account ≤ 16

abbrev pub decreases-loop-account : goal.decreases-loop-account
decreases-loop-account g l = 16 - l.account
