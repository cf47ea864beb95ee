-- `regions::ends_before` meets its contract: one test, and it is the definition's.
use Rattle.regions.proofs.Small.{ends_is}
use Rattle.regions.proofs.ends_before.Goals as goal

pub returns : goal.returns
returns c = ends_is _ _
