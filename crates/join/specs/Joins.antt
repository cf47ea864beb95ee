-- What the join answers.
-- Assumes nothing.
use Rattle.std.specs.Prelude.{ℕ, ◌≡◌, Bool, cond, List, length}
use Rattle.regions.specs.Limits.{pair_width}
use Rattle.regions.specs.Calls.{Pair, written, count_written, pair_words}

-- WHAT IS ANSWERED: as many of the pairs qs as fit; their total, or how many those are
pub record Joined (qs : List Pair) (all : Bool) (out out' : List ℕ) (r : ℕ) : Type 0 where
  pub words : out' ≡ written pair_words pair_width out qs
  pub total : r ≡ cond all (length qs) (count_written pair_width out qs)
