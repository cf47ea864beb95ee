-- What is asked of each ancestor that a search meets.
-- Assumes nothing.
use Rattle.std.specs.Prelude.{Bool, true}
use Rattle.regions.specs.Positions.{is_above}
use Rattle.regions.specs.declared.Region.{Region}
use Rattle.tally.specs.declared.Task.{Task}
use Rattle.tally.specs.declared.Task.TheVariants.{List as Listing, Above}

unfoldable pub accepts : Task → Region → Bool
accepts Listing a = true
accepts (Above l) a = is_above l a
