-- `form::read_count` meets its contract.
use native.Mathlib.Omega.{arith}
use mathlib.Core.Path.{refl}
use Rattle.form.proofs.Lines.{count_form, count_over, count_read}
use Rattle.form.proofs.read_count.Goals as goal

pub read_line-requires : goal.read_line-requires
read_line-requires c = (omega arith, omega arith)

pub returns-in_default : goal.returns-in_default
returns-in_default c = count_form c.args.text.now c.args.at c.args.most c.in_default.ensures

pub returns-then-most-count : goal.returns-then-most-count
returns-then-most-count c = count_over c.args.text.now c.args.at c.args.most _ _ c.in-Some.ensures c.if-most-count.true

pub returns : goal.returns
returns c = count_read c.args.text.now c.args.at c.args.most _ _ c.in-Some.ensures _ c.requires c.if-most-count.false refl
