-- `replay::play_all` is safe and ends.
use Prim.Native.Nat.{◌-◌, ◌≤◌}
use mathlib.Core.Path.{◌≡◌}
use lib.ListN.{length}
use Rattle.replay.proofs.play_all.Given as goal

abbrev pub invariant-loop-at : goal.invariant-loop-at
invariant-loop-at g l =
    (l.line ≤ l.at) × (l.at ≤ length l.text) × (length l.outer ≡ 12300) × (length l.inner ≡ 12300) × (length l.buffer ≡ 1024) × (length l.given ≡ 4096) × (length l.answers ≡ 4096)

abbrev pub decreases-loop-at : goal.decreases-loop-at
decreases-loop-at g l = length l.text - l.at
