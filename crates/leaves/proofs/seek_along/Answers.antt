-- `leaves::seek_along` meets its contract: the last page of the path is the leaf where x belongs; the entry stands in it, or first in the next.
use native.Mathlib.Omega.{arith}
use mathlib.Core.Path.{◌≡◌}
use lib.ListN.{get_or}
use Rattle.pages.specs.Layout.{root_of}
use Rattle.image.specs.Read.{depth_of}
use Rattle.path.specs.Path.{down_to}
use Rattle.path.proofs.Ways.{valid_sized, path_read}
use Rattle.leaves.proofs.Finds.{seek_few, found_at}
use Rattle.leaves.proofs.seek_along.Goals as goal

pub depth-requires : goal.depth-requires
depth-requires c = (valid_sized _ c.requires.img_valid).1

pub offset_bounds-way-depth : goal.offset_bounds-way-depth
offset_bounds-way-depth c = omega (arith, c.depth.ensures, (valid_sized _ c.requires.img_valid).2)

pub bounds-way-depth : goal.bounds-way-depth
bounds-way-depth c = omega (arith, c.depth.ensures, (valid_sized _ c.requires.img_valid).2)

pub entry_rank-requires : goal.entry_rank-requires
entry_rank-requires c = let reached : get_or c.args.way c.depth.result 0 ≡ down_to (depth_of c.args.img.now) c.args.img.now c.args.x (root_of c.args.img.now) = let s = valid_sized c.args.img.now c.requires.img_valid in rw (c.requires.way_value, c.depth.ensures) (path_read c.args.img.now c.args.x _ s.2 s.1 (omega arith)) in seek_few _ c.requires.img_valid c.args.choice c.args.x _ (reached)

pub returns : goal.returns
returns c = let reached : get_or c.args.way c.depth.result 0 ≡ down_to (depth_of c.args.img.now) c.args.img.now c.args.x (root_of c.args.img.now) = let s = valid_sized c.args.img.now c.requires.img_valid in rw (c.requires.way_value, c.depth.ensures) (path_read c.args.img.now c.args.x _ s.2 s.1 (omega arith)) in found_at _ c.requires.img_valid c.args.choice c.args.x _ _ reached c.entry_rank.ensures c.cursor_at.ensures
