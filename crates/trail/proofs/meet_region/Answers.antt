-- `trail::meet_region` meets its contract: by whether the region is at home.
use Rattle.std.proofs.Common.{rules}
use Rattle.trail.specs.Pass.{meet}
use Rattle.trail.proofs.meet_region.Goals as goal

pub returns-then-at_home : goal.returns-then-at_home
unfolding meet
returns-then-at_home c = search rules

pub returns-else-at_home : goal.returns-else-at_home
unfolding meet
returns-else-at_home c = search rules
