-- `passes::Passed::code` meets its contract: each way out is one of the step's cases.
use Rattle.passes.proofs.Events.{code_no, code_yes}
use Rattle.passes.proofs.Passed.code.Goals as goal

pub returns-then-c-self : goal.returns-then-c-self
returns-then-c-self c = code_no _ _ c.if-c-self.true

pub returns : goal.returns
returns c = code_yes _ _ c.if-c-self.false
