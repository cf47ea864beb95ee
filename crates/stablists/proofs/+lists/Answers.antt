-- The loop starts and goes on by a turn over a key and the child on its left; the last child ends it.
use Rattle.std.proofs.Common.{arith, ◌∙◌}
use Rattle.pages.specs.Layout.{page_of}
use Rattle.stablists.proofs.Turns.{page_begin, page_stop_key, page_stop_child, page_more, page_done}
use Rattle.stablists.proofs.+lists.Goals as goal

pub loop-i-init : goal.loop-i-init
loop-i-init t c = (c.fill-n.ensures, page_begin _ _ _ _ _ _ _ _ (omega arith) c.fill-n.ensures)

pub loop-i-preserved : goal.loop-i-preserved
loop-i-preserved t c = (
  c.loop-i.invariant.0,
  page_more _ _ (page_of c.args.img.now c.args.p) _ _ _ _ _ _ _ _ c.loop-i-test.true c.key_number-key.ensures c.key_list.ensures c.loop-i.invariant.1
      _ _ _ c.in_ok-s.was c.child.ensures c.lists.ensures _ c.in_ok-s-2.was,
)

pub returns-in_err-s : goal.returns-in_err-s
returns-in_err-s t c =
    c.from_residual.ensures ∙ page_stop_key _ _ (page_of c.args.img.now c.args.p) _ _ _ _ _ _ _ _ c.loop-i-test.true c.key_number-key.ensures c.key_list.ensures c.loop-i.invariant.1 c.in_err-s.was

pub returns-in_err-s-2 : goal.returns-in_err-s-2
returns-in_err-s-2 t c =
    c.from_residual-in_err-s-2.ensures
    ∙ page_stop_child _ _ (page_of c.args.img.now c.args.p) _ _ _ _ _ _ _ _ c.loop-i-test.true c.key_number-key.ensures c.key_list.ensures c.loop-i.invariant.1
    _ _ _ c.in_ok-s.was c.child.ensures c.lists.ensures c.in_err-s-2.was

pub returns : goal.returns
returns t c =
    page_done _ _ (page_of c.args.img.now c.args.p) _ _ _ _ _ _ _ _ c.loop-i.auto.i-end c.loop-i-test.false c.child-2.ensures c.lists-2.ensures
    c.loop-i.invariant.1
