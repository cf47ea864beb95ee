use mathlib.Core.Path.{ap}
use lib.ListN.{length}
use native.Mathlib.Omega.{arith}
use Rattle.records.proofs.Chains.{step}
use Rattle.handing.proofs.Clearing.{list_start, list_end, list_found, list_on}
use Rattle.handing.proofs.in_list.Goals as goal

pub loop-q-init : goal.loop-q-init
loop-q-init c = list_start _ _ _ c.requires

pub returns-then-r-start : goal.returns-then-r-start
returns-then-r-start c = list_found c.loop-q.invariant _ c.loop-q-test.true c.record_region-r.ensures c.if-r-start.true

pub loop-q-smaller : goal.loop-q-smaller
loop-q-smaller c = rw c.record_next-q.ensures (omega (arith, ap length (step c.loop-q.invariant.ends c.loop-q-test.true).is))

pub loop-q-preserved : goal.loop-q-preserved
loop-q-preserved c = rw c.record_next-q.ensures (list_on c.loop-q.invariant _ c.loop-q-test.true c.record_region-r.ensures c.if-r-start.false)

pub returns : goal.returns
returns c = list_end c.loop-q.invariant c.loop-q-test.false
