use native.Mathlib.Omega.{arith}
use Rattle.leafmet.proofs.Loops.{leaf_start, leaf_on_lem, leaf_done}
use Rattle.leafmet.proofs.leaf_own.Goals as goal

pub loop-i-init : goal.loop-i-init
loop-i-init c = (omega arith, leaf_start _ _ _ _ _ c.fill-n.ensures)

pub own_entry-requires : goal.own_entry-requires
own_entry-requires c = omega (arith, c.loop-i.invariant.1.total, c.loop-i.invariant.1.steps)

pub loop-i-preserved : goal.loop-i-preserved
loop-i-preserved c = (omega arith, leaf_on_lem _ _ _ _ _ _ c.loop-i.invariant.1 _ _ c.loop-i-test.true c.own_entry.ensures)

pub shape_of-out : goal.shape_of-out
shape_of-out c = c.loop-i.invariant.1.long

pub returns : goal.returns
returns c = leaf_done _ _ _ _ _ _ c.loop-i.invariant.1 c.loop-i-test.false
