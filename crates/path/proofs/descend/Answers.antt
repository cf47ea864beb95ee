use native.Mathlib.Omega.{arith}
use Rattle.path.proofs.Ranks.{rank_small}
use Rattle.path.proofs.Ways.{write_start, write_few, write_on, write_end}
use Rattle.path.proofs.descend.Goals as goal

pub loop-i-init : goal.loop-i-init
loop-i-init c = write_start _ _ _ _ c.root-at.ensures (omega (arith, c.depth-depth.ensures)) c.requires.bound.0 c.requires.bound.1 c.requires.fills

pub rank-requires : goal.rank-requires
rank-requires c = write_few _ _ _ _ _ _ c.loop-i.invariant

pub child-at-requires : goal.child-at-requires
child-at-requires c = rank_small _ _ _ c.rank.ensures (write_few _ _ _ _ _ _ c.loop-i.invariant)

pub loop-i-preserved : goal.loop-i-preserved
loop-i-preserved c = write_on _ _ _ _ _ _ _ _ _ c.loop-i.invariant (omega (arith, c.loop-i-test.true)) c.rank.ensures c.child-at.ensures

pub returns : goal.returns
returns c = write_end _ _ _ _ _ _ _ c.loop-i.invariant (omega (arith, c.loop-i-test.false)) c.depth-depth.ensures
