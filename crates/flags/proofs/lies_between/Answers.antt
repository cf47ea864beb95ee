-- `flags::lies_between` meets its contract: start, then end.
use Rattle.std.proofs.Common.{arith}
use Rattle.std.proofs.lemmas.Bool.Decides.{nat_tests}
use Rattle.flags.specs.Pass.{between}
use Rattle.flags.proofs.lies_between.Goals as goal

pub returns-then-low-r : goal.returns-then-low-r
unfolding between
returns-then-low-r c = grind (arith, nat_tests)

pub returns-else-low-r : goal.returns-else-low-r
unfolding between
returns-else-low-r c = grind (arith, nat_tests)
