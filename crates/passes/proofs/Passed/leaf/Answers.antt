-- `passes::Passed::leaf` meets its contract: each way out is one of the step's cases.
use Rattle.passes.proofs.Events.{leaf_no, leaf_first, leaf_next}
use Rattle.passes.proofs.Passed.leaf.Goals as goal
use Rattle.passes.proofs.Passed.leaf.Goals.{else-self-ne0-via-then-self-ne0+else-self-place, else-self-ne0-via-else-self-ne0}

pub returns-then-self-place : goal.returns-then-self-place
returns-then-self-place c = leaf_no _ _ _ c.if-self-ne0.true c.if-self-place.true

pub returns : goal.returns
returns c =
    elim c.else-self-ne0.branch [
      | else-self-ne0-via-then-self-ne0+else-self-place w ↦ leaf_next _ _ _ w.if-self-ne0.true w.if-self-place.false
      | else-self-ne0-via-else-self-ne0 w ↦ leaf_first _ _ _ w.if-self-ne0.false
    ]
