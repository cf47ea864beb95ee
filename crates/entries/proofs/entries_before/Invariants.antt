-- `entries::entries_before` counts as `entries_before` does. The invariant: what is left, from entry i on, gives the whole.
use Rattle.pages.specs.Layout.{page_of}
use Rattle.entries.proofs.Turns.{Before}
use Rattle.entries.proofs.entries_before.Given as goal

abbrev pub invariant-loop-i : goal.invariant-loop-i
invariant-loop-i l = Before (page_of l.img l.leaf) l.x l.n l.i
