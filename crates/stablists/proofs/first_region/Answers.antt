-- Down to the leftmost child by a turn each, and there its first entry.
use Rattle.stablists.proofs.Turns.{first_more, first_done}
use Rattle.stablists.proofs.first_region.Goals as goal

pub loop-preserved : goal.loop-preserved
loop-preserved c = first_more _ _ _ _ _ _ c.loop-test.true c.child-q.ensures c.loop.invariant

pub returns : goal.returns
returns c = first_done _ _ _ _ _ _ c.loop-test.false c.entry_region.ensures c.loop.invariant
