-- `shape::pass_tree`: a page that is wrong ends the pass, a leaf's entries are one run, and a turn passes a child and the key behind it.
use Rattle.std.proofs.Common.{◌-◌, ◌∙◌, arith}
use Rattle.shape.specs.Run.{events_at}
use Rattle.shape.proofs.Turns.{tree_stop, tree_fill, tree_leaf, tree_inner, inner_more, inner_child_stop, inner_key_stop, inner_done}
use Rattle.shape.proofs.+pass_tree.Goals as goal

pub returns-in_err-p : goal.returns-in_err-p
returns-in_err-p t c = c.from_residual.ensures ∙ tree_stop _ _ _ _ _ _ c.page_right.ensures c.in_err-p.ensures

pub pass_entries-requires : goal.pass_entries-requires
pass_entries-requires t c = tree_fill _ _ _ _ _ _ c.page_right.ensures c.in_ok-p.ensures

pub returns-then-level-eq0 : goal.returns-then-level-eq0
returns-then-level-eq0 t c = tree_leaf _ _ _ _ _ _ _ _ c.if-level-eq0.true c.page_right.ensures c.in_ok-p.ensures c.pass_entries.ensures

pub loop-i-init : goal.loop-i-init
loop-i-init t c =
    let f = tree_fill _ _ _ _ _ _ c.page_right.ensures c.in_ok-p.ensures in
    (omega arith, tree_inner _ (c.args.level - 1) _ _ _ _ _ _ _ (omega arith) c.page_right.ensures c.in_ok-p.ensures c.fill-n.ensures)

pub returns-in_err-u : goal.returns-in_err-u
returns-in_err-u t c =
    c.from_residual-in_err-u.ensures ∙
    inner_child_stop (events_at c.args.img.now (c.args.level - 1) 4) _ _ _ _ _ _ c.loop-i-test.true c.child.ensures c.in_err-u.ensures c.loop-i.invariant.1

pub returns-in_err-t : goal.returns-in_err-t
returns-in_err-t t c =
    c.from_residual-in_err-t.ensures ∙
    inner_key_stop (events_at c.args.img.now (c.args.level - 1) 4) _ _ _ _ _ _ _ _ _ c.loop-i-test.true c.child.ensures c.key_number.ensures
    (omega arith) c.in_ok-u.ensures c.in_err-t.ensures c.loop-i.invariant.1

pub loop-i-preserved : goal.loop-i-preserved
loop-i-preserved t c = (
  omega arith,
  inner_more (events_at c.args.img.now (c.args.level - 1) 4) _ _ _ _ _ _ _ _ _ _ c.loop-i-test.true c.child.ensures c.key_number.ensures
      (omega arith) c.in_ok-u.ensures c.in_ok-t.ensures c.loop-i.invariant.1,
)

pub returns : goal.returns
returns t c =
    inner_done (events_at c.args.img.now (c.args.level - 1) 4) _ _ _ _ _ _ _ (omega arith) c.child-2.ensures c.pass_tree-2.ensures c.loop-i.invariant.1
