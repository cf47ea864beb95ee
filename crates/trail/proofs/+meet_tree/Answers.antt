-- The loop starts and goes on by a turn over the children, and its end is the whole.
use Rattle.std.proofs.Common.{◌+◌, ◌-◌, arith, ◌∙◌}
use Rattle.pages.specs.Layout.{page_of}
use Rattle.trail.proofs.Loops.{tree_begin, tree_more, tree_stop, tree_done}
use Rattle.trail.proofs.+meet_tree.Goals as goal

pub loop-i-init : goal.loop-i-init
loop-i-init t c = (c.fill-n.ensures, tree_begin _ _ _ _ _ _ _ (omega arith) c.fill-n.ensures)

pub loop-i-preserved : goal.loop-i-preserved
loop-i-preserved t c = (
  c.loop-i.invariant.0,
  tree_more _ _ _ (page_of c.args.img.now c.args.p) _ _ _ _ _ _ _ c.loop-i-test.true c.child.ensures c.meet_tree.ensures c.in_ok-s.was c.loop-i.invariant.1,
)

pub returns-in_err-s : goal.returns-in_err-s
returns-in_err-s t c =
    c.from_residual.ensures ∙ tree_stop _ _ (c.args.depth - 1) (page_of c.args.img.now c.args.p) _ _ _ _ _ _ c.loop-i-test.true c.child.ensures c.meet_tree.ensures c.in_err-s.was c.loop-i.invariant.1

pub returns-in_ok-s : goal.returns-in_ok-s
returns-in_ok-s t c =
    tree_done _ _ (c.args.depth - 1) (page_of c.args.img.now c.args.p) (c.loop-i.i + 1) c.fill-n.result _ _ (omega arith)
    (tree_more _ _ _ (page_of c.args.img.now c.args.p) _ _ _ _ _ _ _ c.loop-i-test.true c.child.ensures c.meet_tree.ensures c.in_ok-s.was c.loop-i.invariant.1)
