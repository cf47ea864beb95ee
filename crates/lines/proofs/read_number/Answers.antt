use mathlib.Core.Path.{sym, ap, ◌∙◌}
use native.Mathlib.Omega.{arith}
use lib.ListN.{get_or}
use Rattle.lines.specs.Text.{is_digit}
use Rattle.lines.proofs.Digits.{digit_of}
use Rattle.lines.proofs.Runs.{counted_none, counted_more, digit_in, too_large, none_there, reads_all}
use Rattle.lines.proofs.read_number.Goals as goal

pub read_zero-requires : goal.read_zero-requires
read_zero-requires c = sym c.byte_at-b.ensures ∙ c.if-b-eq48.true

pub returns-then-b-eq48 : goal.returns-then-b-eq48
returns-then-b-eq48 c = c.read_zero.ensures

pub loop-v-init : goal.loop-v-init
loop-v-init c = (c.byte_at-b.ensures, omega arith, counted_none _ _)

pub overflow_sub-v : goal.overflow_sub-v
overflow_sub-v c = omega (arith, digit_of c.loop-v.b (sym c.is_digit.ensures ∙ c.loop-v-test.true))

pub overflow_add-v : goal.overflow_add-v
overflow_add-v c = omega (arith, digit_of c.loop-v.b (sym c.is_digit.ensures ∙ c.loop-v-test.true))

pub returns-then-v-gt4294967295 : goal.returns-then-v-gt4294967295
returns-then-v-gt4294967295 c =
    let h = c.loop-v in
    too_large _ _ _ _ (counted_more _ _ _ _ _ h.invariant.0 (sym c.is_digit.ensures ∙ c.loop-v-test.true) h.invariant.2) c.if-v-gt4294967295.true

pub overflow_add-i : goal.overflow_add-i
overflow_add-i c =
    let h = c.loop-v in
    omega (arith, digit_in c.args.text.now h.i (ap is_digit (sym h.invariant.0) ∙ sym c.is_digit.ensures ∙ c.loop-v-test.true))

pub loop-v-smaller : goal.loop-v-smaller
loop-v-smaller c =
    let h = c.loop-v in
    omega (arith, digit_in c.args.text.now h.i (ap is_digit (sym h.invariant.0) ∙ sym c.is_digit.ensures ∙ c.loop-v-test.true))

pub loop-v-preserved : goal.loop-v-preserved
loop-v-preserved c =
    let h = c.loop-v in
    (c.byte_at-b-in-loop-v.ensures, omega arith, counted_more _ _ _ _ _ h.invariant.0 (sym c.is_digit.ensures ∙ c.loop-v-test.true) h.invariant.2)

pub returns-then-i-at : goal.returns-then-i-at
returns-then-i-at c =
    let h = c.loop-v in
    let here = ap (λ j. is_digit (get_or c.args.text.now j 0)) (sym c.if-i-at.true) ∙ ap is_digit (sym h.invariant.0) ∙ sym c.is_digit.ensures ∙ c.loop-v-test.false in
    none_there c.args.text.now c.args.at here

pub returns : goal.returns
returns c =
    let h = c.loop-v in
    reads_all _ _ _ _
    (λ z. c.if-b-eq48.false (c.byte_at-b.ensures ∙ z))
    (λ z. c.if-i-at.false (sym z))
    h.invariant.1
    h.invariant.2
    (ap is_digit (sym h.invariant.0) ∙ sym c.is_digit.ensures ∙ c.loop-v-test.false)
