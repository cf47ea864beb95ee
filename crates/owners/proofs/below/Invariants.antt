-- `owners::below` counts as `below_in` does. The invariant: what is left, from key i on, gives the whole.
use Rattle.pages.specs.Layout.{page_of}
use Rattle.owners.proofs.Loops.{Passing}
use Rattle.owners.proofs.below.Given as goal

abbrev pub invariant-loop-i : goal.invariant-loop-i
invariant-loop-i l = Passing (page_of l.img l.page) l.x l.n l.i
