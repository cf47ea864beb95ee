-- `clear_flags` clears the flags of a leaf, entry by entry; the measure is what is left of the fill.
use Rattle.handing.proofs.Clearing.{list_at, ClearInv}
use Rattle.handing.proofs.clear_flags.Given as goal

abbrev pub invariant-loop-i : goal.invariant-loop-i
invariant-loop-i l = ClearInv (list_at l.img l.head) l.initial.ws l.ws l.i
