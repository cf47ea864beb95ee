use mathlib.Core.Path.{sym, ◌∙◌}
use Rattle.leaves.proofs.Turns.{pass_start, pass_found, pass_on, pass_end}
use Rattle.leaves.proofs.entry_rank.Goals as goal

pub loop-i-init : goal.loop-i-init
loop-i-init c = pass_start _ _ _ _ c.fill-n.ensures c.requires

pub returns-then-not-in_time : goal.returns-then-not-in_time
returns-then-not-in_time c = pass_found _ _ _ _ _ _ c.loop-i.invariant c.loop-i-test.true c.entry_start.ensures (sym c.in_time.ensures ∙ c.if-not-in_time.true)

pub loop-i-preserved : goal.loop-i-preserved
loop-i-preserved c = pass_on _ _ _ _ _ _ c.loop-i.invariant c.loop-i-test.true c.entry_start.ensures (sym c.in_time.ensures ∙ c.if-not-in_time.false)

pub returns : goal.returns
returns c = pass_end _ _ _ _ _ c.loop-i.invariant c.loop-i-test.false
