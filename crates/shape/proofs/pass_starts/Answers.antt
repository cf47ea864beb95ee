use native.Mathlib.Omega.{arith}
use mathlib.Core.Path.{◌∙◌}
use Rattle.shape.proofs.Turns.{starts_more, starts_stop, starts_done}
use Rattle.shape.proofs.pass_starts.Goals as goal

pub returns-in_err-t : goal.returns-in_err-t
returns-in_err-t c =
    c.from_residual.ensures ∙ starts_stop _ _ _ _ _ _ _ c.loop-i-test.true c.entry_start.ensures (omega arith) c.in_err-t.ensures c.loop-i.invariant

pub loop-i-preserved : goal.loop-i-preserved
loop-i-preserved c = starts_more _ _ _ _ _ _ _ _ c.loop-i-test.true c.entry_start.ensures (omega arith) c.in_ok-t.ensures c.loop-i.invariant

pub returns : goal.returns
returns c = starts_done _ _ _ _ _ c.loop-i-test.false c.loop-i.invariant
