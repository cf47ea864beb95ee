-- `lines::break_behind` meets its contract.
use borrow.Author.Rules.{rules}
use Rattle.lines.proofs.Lined.{break_last, break_more}
use Rattle.lines.proofs.break_behind.Goals as goal

pub returns-then-left-eq0 : goal.returns-then-left-eq0
returns-then-left-eq0 c = break_last c.args.left (search rules)

pub returns-else-left-eq0 : goal.returns-else-left-eq0
returns-else-left-eq0 c = break_more c.args.left (search rules)
