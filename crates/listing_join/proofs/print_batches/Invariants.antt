-- `listing_join::print_batches` is safe and ends. The measure: how many pairs are left past the mark; a batch that is not empty leaves fewer.
use mathlib.Core.Path.{◌≡◌}
use lib.ListN.{length}
use Rattle.regions.specs.Calls.{joined}
use Rattle.regions.specs.Desk.{past}
use Rattle.regions.specs.declared.Kind.TheVariants.{Ancestor}
use Rattle.image.specs.Read.{set_of}
use Rattle.listing_join.proofs.print_batches.Given as goal

abbrev pub invariant-loop-b : goal.invariant-loop-b
invariant-loop-b g l = (length l.pairs ≡ 1024) × (length l.out ≡ 11264)

abbrev pub decreases-loop-b : goal.decreases-loop-b
decreases-loop-b g l = length (past l.mark (joined (set_of l.outer) (set_of l.inner) l.account Ancestor))
