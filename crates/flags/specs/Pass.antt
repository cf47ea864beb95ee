-- What an entry's flag has to say.
-- Assumes nothing.
use Rattle.std.specs.Prelude.{ℕ, Bool, ◌&&◌, cond, leb, ltb, eqb}
use Rattle.regions.specs.declared.Region.{Region}
use Rattle.xrtree.specs.Tree.{Entry}

-- A LEAF: the flag is 0 where the region lies between the bounds
unfoldable pub between : ℕ → ℕ → Region → Bool
between lo hi r = leb lo r.start && ltb r.end hi

unfoldable pub flag_here : ℕ → ℕ → Entry → Bool
flag_here lo hi e = eqb e.flag (cond (between lo hi e.region) 0 1)
