use mathlib.Core.Path.{sym, ◌∙◌}
use native.Mathlib.Omega.{arith}
use Rattle.tally.proofs.Tallies.{leads_all}
use Rattle.meets.proofs.Loops.{walk_ended, walk_full, walk_stop, walk_on}
use Rattle.meets.proofs.walk_list.Goals as goal

pub loop-init : goal.loop-init
loop-init c = leads_all

pub shape_of-out-then-q-eq0 : goal.shape_of-out-then-q-eq0
shape_of-out-then-q-eq0 c = c.loop.invariant.long

pub returns-then-q-eq0 : goal.returns-then-q-eq0
returns-then-q-eq0 c = walk_ended _ _ _ _ _ _ c.loop.invariant c.if-q-eq0.true

pub step-requires : goal.step-requires
step-requires c = omega (arith, c.loop.invariant.total, c.loop.invariant.steps)

pub shape_of-out-then-not-holds : goal.shape_of-out-then-not-holds
shape_of-out-then-not-holds c = c.loop.invariant.long

pub returns-then-not-holds : goal.returns-then-not-holds
returns-then-not-holds c = walk_stop _ _ _ _ _ _ c.loop.invariant _ _ (omega (arith, c.loop-test.true)) c.if-q-eq0.false c.record_region-a.ensures c.step.ensures (sym c.holds.ensures ∙ c.if-not-holds.true)

pub visit-requires : goal.visit-requires
visit-requires c = rw c.step.ensures (omega (arith, c.loop.invariant.total, c.loop.invariant.steps))

pub loop-preserved : goal.loop-preserved
loop-preserved c = walk_on _ _ _ _ _ _ c.loop.invariant _ _ (omega (arith, c.loop-test.true)) c.if-q-eq0.false c.record_region-a.ensures c.step.ensures _ _ _ (sym c.holds.ensures ∙ c.if-not-holds.false) c.visit.ensures c.record_next-q.ensures

pub shape_of-out : goal.shape_of-out
shape_of-out c = c.loop.invariant.long

pub returns : goal.returns
returns c = walk_full _ _ _ _ _ _ c.loop.invariant (omega (arith, c.loop-test.false))
