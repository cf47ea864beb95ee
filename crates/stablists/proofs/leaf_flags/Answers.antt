-- `stablists::leaf_flags` meets its contract: a wrong flag ends the pass.
use Rattle.std.proofs.Common.{rules}
use Rattle.stablists.specs.Pass.{pass_at}
use Rattle.stablists.proofs.leaf_flags.Goals as goal

pub returns : goal.returns
unfolding pass_at
returns c = search rules
