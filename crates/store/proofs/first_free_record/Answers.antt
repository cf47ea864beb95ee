use borrow.Author.Rules.{rules}
use native.Mathlib.Omega.{arith}
use Rattle.pages.specs.Layout.{record_used}
use Rattle.store.proofs.Turns.{record_free, record_taken, used_more, found_free, found_none}
use Rattle.store.proofs.first_free_record.Goals as goal

pub loop-q-init : goal.loop-q-init
loop-q-init c = (omega arith, omega arith, λ i l h. absurd (omega arith))

pub returns-then-record_end-eq0 : goal.returns-then-record_end-eq0
returns-then-record_end-eq0 c =
    let q = c.loop-q in
    let w = c.args.img.now in
    found_free (record_used w) 500 q.q q.invariant.0 (search rules) q.invariant.2 (record_free w q.q _ c.record_end.ensures c.if-record_end-eq0.true)

pub loop-q-preserved : goal.loop-q-preserved
loop-q-preserved c =
    let q = c.loop-q in
    let w = c.args.img.now in
    (omega arith, omega arith, used_more (record_used w) q.q q.invariant.2 (record_taken w q.q _ c.record_end.ensures c.if-record_end-eq0.false))

pub returns : goal.returns
returns c =
    let q = c.loop-q in
    found_none (record_used c.args.img.now) 500 q.q (search rules) q.invariant.2
