-- `stack::pair_up` meets its contract: none is past the mark; else all are counted, or those that fit.
use Rattle.stack.proofs.Pairs.{paired_nothing}
use Rattle.stack.proofs.pair_up.Goals as goal

pub returns-then-none_past : goal.returns-then-none_past
returns-then-none_past c = paired_nothing (c.none_past.ensures c.if-none_past.true)

pub returns-then-all : goal.returns-then-all
returns-then-all c = rw c.if-all.true c.pair_each.ensures

pub returns-else-all : goal.returns-else-all
returns-else-all c = rw c.if-all.false c.pair_each-else-all.ensures
