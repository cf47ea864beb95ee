use mathlib.Core.Path.{refl, ◌∙◌}
use native.Mathlib.Omega.{arith}
use Rattle.raising.proofs.Raising.{rise_start, rise_done, x_is, turn_ends, rise_again}
use Rattle.raising.proofs.raise.Goals as goal

pub key_in-key-requires : goal.key_in-key-requires
key_in-key-requires c = omega (arith, c.requires.img_len)

pub loop-j-init : goal.loop-j-init
loop-j-init c = (omega arith, (λ h g. rise_start g c.key_in-key.result c.key_in-key.ensures))

pub key_in-from-requires : goal.key_in-from-requires
key_in-from-requires c = omega (arith, c.requires.img_len)

pub lift-l-requires : goal.lift-l-requires
lift-l-requires c =
    let l = c.loop-j in
    let p = c.requires in
    let s = l.invariant.1 p.by_index.0 p.by_index.1 in
    (s.touched.long ∙ p.img_len.0, turn_ends l.j c.loop-j-test.true s p.img_len.2 _ c.key_in-from.ensures)

pub set_key-s-requires : goal.set_key-s-requires
set_key-s-requires c =
    let l = c.loop-j in
    let p = c.requires in
    let s = l.invariant.1 p.by_index.0 p.by_index.1 in
    let e = s.page_is.fill_is in
    (omega (arith, p.img_len.1), omega (arith, p.img_len.2))

pub loop-j-preserved : goal.loop-j-preserved
loop-j-preserved c =
    let l = c.loop-j in
    let p = c.requires in (
      omega arith,
      (λ h g.
          rise_again l.j c.loop-j-test.true (l.invariant.1 h g) p.img_len.2 _ c.key_in-from.ensures _ c.lift-l.result (x_is g c.key_in-key.result c.key_in-key.ensures)
          c.lift-l.ensures c.set_key-s.ensures),
    )

pub shape_of-img : goal.shape_of-img
shape_of-img c =
    let l = c.loop-j in
    let p = c.requires in
    (l.invariant.1 p.by_index.0 p.by_index.1).touched.long

pub returns : goal.returns
returns c = λ h g. rise_done c.loop-j.j (omega (arith, c.loop-j-test.false)) _ refl refl (c.loop-j.invariant.1 h g)
