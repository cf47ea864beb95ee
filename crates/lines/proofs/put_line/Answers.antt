use mathlib.Core.Path.{◌≡◌, refl}
use borrow.Author.Rules.{rules}
use native.Mathlib.Omega.{arith}
use Rattle.lines.proofs.Putting.{putting_first, putting_room, putting_next, putting_last}
use Rattle.lines.proofs.put_line.Goals as goal

pub loop-i-init : goal.loop-i-init
loop-i-init c = putting_first _ _ _ _ c.requires.0 (omega arith) c.requires.2

pub bounds-out-place : goal.bounds-out-place
bounds-out-place c =
    putting_room _ _ _ _ _ _ _ c.loop-i.invariant (search rules) (omega arith) _ _ _ refl c.put_number-place.ensures.0 c.put_number-place.ensures.1

pub loop-i-preserved : goal.loop-i-preserved
loop-i-preserved c =
    putting_next _ _ _ _ _ _ _ c.loop-i.invariant (search rules) (omega arith) _ _ _ refl c.put_number-place.ensures.0 c.put_number-place.ensures.1 _ c.break_behind.ensures

pub shape_of-out : goal.shape_of-out
shape_of-out c = c.loop-i.invariant.long

pub returns : goal.returns
returns c =
    let k = c.args.k in
    let e : c.loop-i.i ≡ k = omega arith in
    putting_last _ _ k _ _ _ (rw e at c.loop-i.invariant)
