use Prim.Native.Nat.{◌+◌, ◌-◌}
use mathlib.Core.Path.{◌≡◌, refl, sym, ◌∙◌}
use borrow.Author.Rules.{rules}
use native.Mathlib.Omega.{arith}
use lib.ListN.{length-set}
use Rattle.lines.proofs.Runs.{byte_in}
use Rattle.lines.proofs.Lined.{break_some, reading_first, reading_last, reading_next, no_number_there, no_break_there}
use Rattle.lines.proofs.read_line.Goals as goal

pub loop-i-init : goal.loop-i-init
loop-i-init c = (refl, reading_first _ _ _ _ c.requires.0)

pub returns-in_err-n : goal.returns-in_err-n
returns-in_err-n c =
    let none = no_number_there _ _ _ _ _ _ c.loop-i.invariant.1 c.loop-i-test.true c.in_err-n.ensures in
    search rules

pub returns-then-byte_at-break_behind : goal.returns-then-byte_at-break_behind
returns-then-byte_at-break_behind c =
    no_break_there _ _ _ _ _ _ c.loop-i.invariant.1 c.loop-i-test.true _ _ c.in_ok-n.ensures
    (λ z. c.if-byte_at-break_behind.true (c.byte_at.ensures ∙ z ∙ sym c.break_behind.ensures))

pub overflow_add-next : goal.overflow_add-next
overflow_add-next c =
    let z = sym c.byte_at.ensures ∙ c.if-byte_at-break_behind.false ∙ c.break_behind.ensures in
    omega (arith, byte_in c.args.text.now c.in_ok-n.n.next (omega (arith, z, break_some (c.args.k - (c.loop-i.i + 1)))))

pub loop-i-preserved : goal.loop-i-preserved
loop-i-preserved c =
    let z = sym c.byte_at.ensures ∙ c.if-byte_at-break_behind.false ∙ c.break_behind.ensures in (
      length-set c.loop-i.numbers c.loop-i.i c.in_ok-n.n.value ∙ c.loop-i.invariant.0,
      reading_next _ _ _ _ _ _ c.loop-i.invariant.1 c.loop-i-test.true _ _ c.in_ok-n.ensures (omega arith) z,
    )

pub returns : goal.returns
returns c =
    let k = c.args.k in
    let e : c.loop-i.i ≡ k = omega arith in
    reading_last _ _ k _ _ (rw e at c.loop-i.invariant.1)
