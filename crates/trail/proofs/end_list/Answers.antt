-- `trail::end_list` meets its contract: a list that goes on is a failure.
use Rattle.std.proofs.Common.{rules}
use Rattle.trail.specs.Pass.{ended}
use Rattle.trail.proofs.end_list.Goals as goal

pub returns : goal.returns
unfolding ended
returns c = search rules
