-- Which regions a walk along the leaves lists, and what it answers.
-- Assumes nothing.
use Rattle.std.specs.Prelude.{ℕ, ◌≡◌, Bool, true, ◌&&◌, List, leb, ltb}
use Rattle.regions.specs.Positions.{is_below}
use Rattle.regions.specs.Limits.{region_width}
use Rattle.regions.specs.Calls.{written, count_written, more_remain, region_words}
use Rattle.regions.specs.declared.Region.{Region}
use Rattle.inside.specs.declared.Wanted.{Wanted}
use Rattle.inside.specs.declared.Wanted.TheVariants.{All, Below, UpTo}
use Rattle.inside.specs.declared.Listing.{Listing}

-- a level that is not above the given one
unfoldable pub up_to : ℕ → Region → Bool
up_to l r = leb r.level l

-- all, those one level below, or those whose level is not above
unfoldable pub wants : Wanted → Region → Bool
wants All r = true
wants (Below l) r = is_below l r
wants (UpTo l) r = up_to l r

-- of those that start before the end
unfoldable pub asked : Wanted → ℕ → Region → Bool
asked wanted end r = wants wanted r && ltb r.start end

-- WHAT IS ANSWERED: as many as fit of the regions rs, how many those are, and whether more remain
pub record Listed (rs : List Region) (out out' : List ℕ) (r : Listing) : Type 0 where
  pub words : out' ≡ written region_words region_width out rs
  pub count : r.count ≡ count_written region_width out rs
  pub more : r.more ≡ more_remain region_width out rs
