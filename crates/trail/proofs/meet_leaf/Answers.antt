-- The loop starts and goes on by a turn over the entries, and its end is the whole.
use mathlib.Core.Path.{◌∙◌}
use Rattle.pages.specs.Layout.{page_of}
use Rattle.trail.proofs.Loops.{leaf_begin, leaf_more, leaf_stop, leaf_done}
use Rattle.trail.proofs.meet_leaf.Goals as goal

pub loop-i-init : goal.loop-i-init
loop-i-init c = (c.fill-n.ensures, leaf_begin _ _ _ _ _ c.fill-n.ensures)

pub loop-i-preserved : goal.loop-i-preserved
loop-i-preserved c = (
  c.loop-i.invariant.0,
  leaf_more _ _ (page_of c.args.img.now c.args.p) _ _ _ _ _ _ _ c.loop-i-test.true c.entry_region.ensures c.meet_region.ensures c.in_ok-s.was c.loop-i.invariant.1,
)

pub returns-in_err-s : goal.returns-in_err-s
returns-in_err-s c =
    c.from_residual.ensures ∙ leaf_stop _ _ (page_of c.args.img.now c.args.p) _ _ _ _ _ _ c.loop-i-test.true c.entry_region.ensures c.meet_region.ensures c.in_err-s.was c.loop-i.invariant.1

pub returns : goal.returns
returns c =
    leaf_done _ _ (page_of c.args.img.now c.args.p) _ _ _ _ c.loop-i-test.false c.loop-i.invariant.1
