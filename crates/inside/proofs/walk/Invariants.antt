-- `inside::walk` meets its contract. The invariant: what is asked for of the regions before the cursor is still to be counted and written.
-- The measure: how many entries are left.
use Prim.Native.Nat.{◌≤◌, ◌/◌}
use lib.ListN.{length}
use Rattle.words.specs.Lists.{filter}
use Rattle.regions.specs.Sets.{starts_behind}
use Rattle.image.specs.Read.{set_of}
use Rattle.leaves.specs.Cursors.{left}
use Rattle.inside.specs.Lists.{asked}
use Rattle.inside.proofs.Walks.{Walking}
use Rattle.inside.proofs.walk.Given as goal

abbrev pub invariant-loop-entry : goal.invariant-loop-entry
invariant-loop-entry l = (l.count ≤ length l.initial.out / 4) × Walking l.img l.wanted l.end (filter (asked l.wanted l.end) (filter (starts_behind l.from) (set_of l.img).regions)) l.initial.out l.cursor l.out l.count

abbrev pub decreases-loop-entry : goal.decreases-loop-entry
decreases-loop-entry l = length (left l.img l.cursor)
