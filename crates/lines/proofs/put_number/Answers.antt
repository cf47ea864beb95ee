use Prim.Native.Nat.{◌+◌, ◌-◌}
use mathlib.Core.Path.{◌≡◌, refl, sym, ap, ◌∙◌}
use borrow.Author.Rules.{rules}
use native.Mathlib.Omega.{arith}
use lib.ListN.{length, length-set}
use lib.Seq.{sets}
use Rattle.lines.specs.Text.{decimal}
use Rattle.lines.proofs.Digits.{decimal_few}
use Rattle.lines.proofs.Putting.{last_digits, decimal_last, last_put}
use Rattle.lines.proofs.put_number.Goals as goal

pub overflow_add-end : goal.overflow_add-end
overflow_add-end c = omega (arith, decimal_few c.args.n)

pub loop-i-init : goal.loop-i-init
loop-i-init c =
    let s = c.args in
    let few = decimal_few s.n in
    let all : s.at + c.places.result - s.at ≡ length (decimal s.n) = omega arith in
    (omega arith, omega arith, refl, ap (λ j. sets s.out.now s.at (last_digits j s.n)) all ∙ ap (λ l. sets s.out.now s.at l) (decimal_last s.n))

pub loop-i-preserved : goal.loop-i-preserved
loop-i-preserved c =
    (omega arith, omega arith, length-set c.loop-i.out _ _ ∙ c.loop-i.invariant.2, last_put _ _ _ _ _ (search rules) c.digit.ensures ∙ c.loop-i.invariant.3)

pub shape_of-out : goal.shape_of-out
shape_of-out c = c.loop-i.invariant.2

pub returns : goal.returns
unfolding last_digits
returns c =
    let s = c.args in
    let done : c.loop-i.i - s.at ≡ 0 = omega arith in
    (ap (λ j. sets c.loop-i.out s.at (last_digits j c.loop-i.rest)) (sym done) ∙ c.loop-i.invariant.3, omega arith, omega (arith, decimal_few s.n))
