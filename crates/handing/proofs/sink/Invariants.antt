-- `sink` hands a key's list down to the keys of a page; the measure is what is left of the fill.
use Rattle.handing.proofs.Sinking.{SinkInv}
use Rattle.handing.proofs.sink.Given as goal

abbrev pub invariant-loop-i : goal.invariant-loop-i
invariant-loop-i l = SinkInv l.initial.img l.initial.page l.initial.rest l.img l.page l.rest l.i
