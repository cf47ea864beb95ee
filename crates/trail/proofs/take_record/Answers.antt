-- `trail::take_record` meets its contract: each test that fails ends the pass, and the last one brings the next record.
use Rattle.std.proofs.Common.{arith}
use Rattle.std.proofs.lemmas.Bool.Decides.{nat_tests}
use Rattle.xrtree.specs.Rules.{same_region}
use Rattle.image.specs.Read.{record_region}
use Rattle.trail.specs.Pass.{step}
use Rattle.trail.proofs.take_record.Goals as goal

pub returns-then-t-lt1 : goal.returns-then-t-lt1
unfolding step same_region record_region
returns-then-t-lt1 c = grind (arith, nat_tests)

pub returns : goal.returns
unfolding step same_region record_region
returns c = grind (arith, nat_tests)
