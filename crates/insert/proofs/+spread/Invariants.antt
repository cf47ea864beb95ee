-- `insert::spread` calls itself one page further down the path. The measure is how many pages of the path lie below.
use Rattle.std.proofs.Common.{◌-◌}
use Rattle.insert.proofs.+spread.Given as goal

abbrev pub decreases-spread : goal.decreases-spread
decreases-spread l = l.leaf - l.at
