use native.Mathlib.Omega.{arith}
use native.Mathlib.Numerals.{add-one}
use mathlib.Core.Path.{◌∙◌}
use Rattle.handing.proofs.Sinking.{sink_start, sink_ends, sink_turn, sink_end}
use Rattle.handing.proofs.sink.Goals as goal

pub loop-i-init : goal.loop-i-init
loop-i-init c = sink_start _ _ _

pub lift-lifted-requires : goal.lift-lifted-requires
lift-lifted-requires c = let v = c.loop-i.invariant in let p = c.requires in (v.long ∙ p.0, sink_ends v p.2)

pub set_key-keyed-requires : goal.set_key-keyed-requires
set_key-keyed-requires c = let v = c.loop-i.invariant in (omega (arith, v.fill_is, c.requires.1), omega (arith, v.fill_is, c.loop-i-test.true))

pub loop-i-preserved : goal.loop-i-preserved
loop-i-preserved c = rw add-one (sink_turn c.loop-i.invariant _ _ _ _ c.lift-lifted.auto.img c.key_in-to.ensures (omega (arith, c.loop-i-test.true)) c.lift-lifted.ensures c.set_key-keyed.ensures)

pub shape_of-img : goal.shape_of-img
shape_of-img c = c.loop-i.invariant.long

pub returns : goal.returns
returns c = sink_end c.loop-i.invariant (omega (arith, c.loop-i-test.false))
