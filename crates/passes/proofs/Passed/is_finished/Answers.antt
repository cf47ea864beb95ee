-- `passes::Passed::is_finished` meets its contract: the second test is asked where the first holds.
use Rattle.passes.proofs.Events.{end_open, end_rest}
use Rattle.passes.proofs.Passed.is_finished.Goals as goal

pub returns-then-self-eq1 : goal.returns-then-self-eq1
returns-then-self-eq1 c = end_rest c.args.self c.if-self-eq1.true

pub returns-else-self-eq1 : goal.returns-else-self-eq1
returns-else-self-eq1 c = end_open c.args.self c.if-self-eq1.false
