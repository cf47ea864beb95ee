use mathlib.Core.Path.{ap}
use lib.ListN.{length}
use native.Mathlib.Omega.{arith}
use Rattle.words.proofs.Tests.{lt_yes, lt_no}
use Rattle.records.proofs.Chains.{step}
use Rattle.records.proofs.Spots.{spot_start, spot_end, spot_stop, spot_on}
use Rattle.records.proofs.last_before.Goals as goal

pub loop-q-init : goal.loop-q-init
loop-q-init c = spot_start c.requires

pub returns-then-start-r : goal.returns-then-start-r
returns-then-start-r c = spot_stop c.loop-q.invariant _ c.loop-q-test.true c.record_region-r.ensures (lt_no _ _ c.if-start-r.true)

pub loop-q-smaller : goal.loop-q-smaller
loop-q-smaller c = rw c.record_next-q.ensures (omega (arith, ap length (step c.loop-q.invariant.ends c.loop-q-test.true).is))

pub loop-q-preserved : goal.loop-q-preserved
loop-q-preserved c = rw c.record_next-q.ensures (spot_on c.loop-q.invariant _ c.loop-q-test.true c.record_region-r.ensures (lt_yes _ _ c.if-start-r.false))

pub returns : goal.returns
returns c = spot_end c.loop-q.invariant c.loop-q-test.false
