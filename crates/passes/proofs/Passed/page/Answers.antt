-- `passes::Passed::page` meets its contract: each way out is one of the step's cases.
use Rattle.passes.proofs.Events.{page_no, page_none, page_yes}
use Rattle.passes.proofs.Passed.page.Goals as goal
use Rattle.passes.proofs.Passed.page.Goals.{then-not-right-via-then-not-right, then-not-right-via-else-not-right+then-self-eq0}

pub returns-then-not-right : goal.returns-then-not-right
returns-then-not-right c =
    elim c.then-not-right.branch [
      | then-not-right-via-then-not-right w ↦ page_no _ _ w.if-not-right.true
      | then-not-right-via-else-not-right+then-self-eq0 w ↦ page_none _ _ w.if-not-right.false w.if-self-eq0.true
    ]

pub returns : goal.returns
returns c = page_yes _ _ c.if-not-right.false c.if-self-eq0.false
