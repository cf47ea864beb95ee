use borrow.Author.Rules.{rules}
use native.Mathlib.Omega.{arith}
use Rattle.pages.specs.Layout.{page_used}
use Rattle.store.proofs.Turns.{page_free, page_taken, used_more, found_free, found_none}
use Rattle.store.proofs.first_free_page.Goals as goal

pub loop-p-init : goal.loop-p-init
loop-p-init c = (omega arith, omega arith, λ i l h. absurd (omega arith))

pub returns-then-mark-eq0 : goal.returns-then-mark-eq0
returns-then-mark-eq0 c =
    let q = c.loop-p in
    let w = c.args.img.now in
    found_free (page_used w) 160 q.p q.invariant.0 (search rules) q.invariant.2 (page_free w q.p _ c.mark.ensures c.if-mark-eq0.true)

pub loop-p-preserved : goal.loop-p-preserved
loop-p-preserved c =
    let q = c.loop-p in
    let w = c.args.img.now in
    (omega arith, omega arith, used_more (page_used w) q.p q.invariant.2 (page_taken w q.p _ c.mark.ensures c.if-mark-eq0.false))

pub returns : goal.returns
returns c =
    let q = c.loop-p in
    found_none (page_used c.args.img.now) 160 q.p (search rules) q.invariant.2
