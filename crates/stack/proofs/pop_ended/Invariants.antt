-- `stack::pop_ended` meets its contract. The invariant: what ends behind p of the i that are left is what does of all.
use mathlib.Core.Path.{◌≡◌}
use Rattle.words.specs.Lists.{filter}
use Rattle.stack.specs.Stacks.{ends_behind, Falling, stacked}
use Rattle.stack.proofs.pop_ended.Given as goal

abbrev pub invariant-loop-i : goal.invariant-loop-i
invariant-loop-i l = Falling (stacked l.held l.i) × (filter (ends_behind l.p) (stacked l.held l.i) ≡ filter (ends_behind l.p) (stacked l.held l.n))
