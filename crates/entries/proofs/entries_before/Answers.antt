use Rattle.entries.proofs.Turns.{before_start, before_found, before_on, before_end}
use Rattle.entries.proofs.entries_before.Goals as goal

pub loop-i-init : goal.loop-i-init
loop-i-init c = before_start _ _ _ c.fill-n.ensures c.requires

pub returns-then-x-entry_start : goal.returns-then-x-entry_start
returns-then-x-entry_start c = before_found _ _ _ _ _ c.loop-i.invariant c.loop-i-test.true c.entry_start.ensures c.if-x-entry_start.true

pub loop-i-preserved : goal.loop-i-preserved
loop-i-preserved c = before_on _ _ _ _ _ c.loop-i.invariant c.loop-i-test.true c.entry_start.ensures c.if-x-entry_start.false

pub returns : goal.returns
returns c = before_end _ _ _ _ c.loop-i.invariant c.loop-i-test.false
