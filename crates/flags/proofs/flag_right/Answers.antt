-- `flags::flag_right` meets its contract: the flag is compared with the one that the bounds ask.
use Rattle.std.proofs.Common.{rules}
use Rattle.flags.specs.Pass.{flag_here}
use Rattle.flags.proofs.flag_right.Goals as goal

pub returns-then-lies_between : goal.returns-then-lies_between
unfolding flag_here
returns-then-lies_between c = search rules

pub returns-else-lies_between : goal.returns-else-lies_between
unfolding flag_here
returns-else-lies_between c = search rules
