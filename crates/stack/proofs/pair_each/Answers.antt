use native.Mathlib.Omega.{arith}
use Rattle.stack.proofs.Stacked.{stacked_long, read_holds}
use Rattle.stack.proofs.Pairs.{paired_start, paired_more, paired_done, paired_full}
use Rattle.stack.proofs.pair_each.Goals as goal

pub loop-i-init : goal.loop-i-init
loop-i-init g c = paired_start _

pub returns-then-room-k : goal.returns-then-room-k
returns-then-room-k g c = rw c.if-not-this.true (paired_full _ _ c.loop-i.invariant _ c.if-room-k.true c.loop-i.auto.i-end)

pub pair_one-k-requires : goal.pair_one-k-requires
pair_one-k-requires g c = (omega (arith, c.loop-i.invariant.few, stacked_long c.args.held.now c.loop-i.i), read_holds _ _ _ _ _ _ c.region_at.ensures c.loop-i-test.true c.requires.all)

pub loop-i-preserved : goal.loop-i-preserved
loop-i-preserved g c = paired_more _ _ c.loop-i.invariant c.region_at.ensures c.pair_one-k.ensures

pub returns : goal.returns
returns g c = paired_done _ _ c.loop-i.invariant _ _ c.loop-i.auto.i-end c.loop-i-test.false
