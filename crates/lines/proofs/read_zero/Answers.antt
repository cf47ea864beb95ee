-- `lines::read_zero` meets its contract: a digit behind the 0 makes it a leading one.
use mathlib.Core.Path.{sym, ap, ◌∙◌}
use native.Mathlib.Omega.{arith}
use Rattle.lines.specs.Text.{is_digit}
use Rattle.lines.proofs.Runs.{byte_in, reads_zero, led}
use Rattle.lines.proofs.read_zero.Goals as goal

pub overflow_add-next : goal.overflow_add-next
overflow_add-next c = omega (arith, byte_in c.args.text.now c.args.at (omega arith))

pub returns-then-is_digit : goal.returns-then-is_digit
returns-then-is_digit c =
    let follows = ap is_digit (sym c.byte_at.ensures) ∙ sym c.is_digit.ensures ∙ c.if-is_digit.true in
    led c.args.text.now c.args.at c.requires follows

pub returns : goal.returns
returns c =
    reads_zero _ _ c.requires (ap is_digit (sym c.byte_at.ensures) ∙ sym c.is_digit.ensures ∙ c.if-is_digit.false)
