-- `stack::pair_each` meets its contract. The invariant: the pairs with the first i are written and counted, all of them as long as the loop goes on.
use mathlib.Core.Bool.{true}
use Rattle.stack.specs.Stacks.{stacked}
use Rattle.pairing.specs.Pairs.{PairedUp}
use Rattle.stack.proofs.pair_each.Given as goal

abbrev pub invariant-loop-i : goal.invariant-loop-i
invariant-loop-i g l = PairedUp (stacked l.held l.i) l.kind l.mark l.d true l.initial.out l.total l.out l.k
