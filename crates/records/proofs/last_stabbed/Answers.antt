use mathlib.Core.Path.{ap}
use lib.ListN.{length}
use native.Mathlib.Omega.{arith}
use Rattle.records.proofs.Chains.{step}
use Rattle.records.proofs.Spots.{spot_start, spot_end, spot_stop, spot_on, stabs_early, stabs_late, stabs_yes}
use Rattle.records.proofs.last_stabbed.Goals as goal

pub loop-q-init : goal.loop-q-init
loop-q-init c = spot_start c.requires

pub returns-then-x-r : goal.returns-then-x-r
returns-then-x-r c = spot_stop c.loop-q.invariant _ c.loop-q-test.true c.record_region-r.ensures (stabs_early _ _ c.if-x-r.true)

pub returns-then-r-x : goal.returns-then-r-x
returns-then-r-x c = spot_stop c.loop-q.invariant _ c.loop-q-test.true c.record_region-r.ensures (stabs_late _ _ c.if-x-r.false c.if-r-x.true)

pub loop-q-smaller : goal.loop-q-smaller
loop-q-smaller c = rw c.record_next-q.ensures (omega (arith, ap length (step c.loop-q.invariant.ends c.loop-q-test.true).is))

pub loop-q-preserved : goal.loop-q-preserved
loop-q-preserved c = rw c.record_next-q.ensures (spot_on c.loop-q.invariant _ c.loop-q-test.true c.record_region-r.ensures (stabs_yes _ _ c.if-x-r.false c.if-r-x.false))

pub returns : goal.returns
returns c = spot_end c.loop-q.invariant c.loop-q-test.false
