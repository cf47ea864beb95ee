-- `trail::at_home` meets its contract: start and end are compared with the bounds in turn.
use Rattle.std.proofs.Common.{arith}
use Rattle.std.proofs.lemmas.Bool.Decides.{nat_tests}
use Rattle.trail.specs.Pass.{is_home}
use Rattle.trail.proofs.at_home.Goals as goal

pub returns-then-home-end : goal.returns-then-home-end
unfolding is_home
returns-then-home-end c = grind (arith, nat_tests)

pub returns-else-home-end : goal.returns-else-home-end
unfolding is_home
returns-else-home-end c = grind (arith, nat_tests)
