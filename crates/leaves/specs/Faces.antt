-- A cursor along the leaves, by the regions that it has before it.
-- Assumes nothing.
use Rattle.std.specs.Prelude.{ℕ, ◌≡◌, List, map}
use Rattle.regions.specs.declared.Region.{Region}
use Rattle.xrtree.specs.Tree.{Entry, region_of}
use Rattle.leaves.specs.declared.Cursor.{Cursor}
use Rattle.leaves.specs.Cursors.{Stands}

pub record Faces (w : List ℕ) (c : Cursor) (rs : List Region) : Type 0 where
  pub entries : List Entry
  pub stands : Stands w c entries
  pub regions : map region_of entries ≡ rs
