use borrow.Author.Rules.{rules}
use native.Mathlib.Omega.{arith}
use Rattle.lines.proofs.Digits.{decimal_few}
use Rattle.lines.proofs.Putting.{placed_first, placed_next, placed_last}
use Rattle.lines.proofs.places.Goals as goal

pub loop-power-init : goal.loop-power-init
loop-power-init c = (omega arith, placed_first _ (search rules))

pub overflow_add-k : goal.overflow_add-k
overflow_add-k c = omega (arith, decimal_few c.args.n)

pub loop-power-preserved : goal.loop-power-preserved
loop-power-preserved c = (omega arith, placed_next _ _ _ (search rules) (search rules) c.loop-power.invariant.1)

pub returns : goal.returns
returns c = placed_last _ _ _ (search rules) c.loop-power.invariant.1
