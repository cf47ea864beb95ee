-- `join::pairs_from` meets its contract. The invariant: what was written, with the pairs of the d's before the cursor, is all, and the stack is at a place that is not
-- behind them. The measure: how many entries are left.
use mathlib.Core.Path.{◌≡◌}
use lib.ListN.{length}
use Rattle.regions.specs.Calls.{choice_of}
use Rattle.leaves.specs.Cursors.{left}
use Rattle.join.proofs.Turns.{Joining}
use Rattle.join.proofs.pairs_from.Given as goal

abbrev pub invariant-loop-kind : goal.invariant-loop-kind
invariant-loop-kind l =
    (l.choice ≡ choice_of l.kind) × Joining l.outer l.inner l.account l.kind l.mark l.all l.initial.out l.cursor l.held l.s l.out l.total

abbrev pub decreases-loop-kind : goal.decreases-loop-kind
decreases-loop-kind l = length (left l.inner l.cursor)
