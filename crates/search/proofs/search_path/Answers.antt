use Prim.Native.Nat.{◌≤◌}
use mathlib.Core.Path.{◌≡◌}
use native.Mathlib.Omega.{arith}
use lib.ListN.{get_or}
use Rattle.pages.specs.Layout.{root_of, page_of, fill_of}
use Rattle.path.specs.Path.{down_to}
use Rattle.image.specs.Read.{depth_of}
use Rattle.search.proofs.Down.{way_at, way_few, path_start, path_on, path_end}
use Rattle.search.proofs.search_path.Goals as goal

pub loop-i-init : goal.loop-i-init
loop-i-init c = path_start c.args.img.now c.args.choice c.args.p c.fresh-t.ensures

pub step-requires : goal.step-requires
step-requires c = let low : (depth_of c.args.img.now ≤ 3) × (c.loop-i.i ≤ depth_of c.args.img.now) × (c.depth-depth.result ≤ 3) = omega (arith, c.depth-depth.ensures) in omega (arith, low, c.loop-i.invariant.total, c.loop-i.invariant.steps)

pub bounds-way-i : goal.bounds-way-i
bounds-way-i c = let low : (depth_of c.args.img.now ≤ 3) × (c.loop-i.i ≤ depth_of c.args.img.now) × (c.depth-depth.result ≤ 3) = omega (arith, c.depth-depth.ensures) in omega (arith, low)

pub page_lists-requires : goal.page_lists-requires
page_lists-requires c = let low : (depth_of c.args.img.now ≤ 3) × (c.loop-i.i ≤ depth_of c.args.img.now) × (c.depth-depth.result ≤ 3) = omega (arith, c.depth-depth.ensures) in let few : fill_of (page_of c.args.img.now (get_or c.args.way c.loop-i.i 0)) ≤ 8 = way_few c.args.img.now c.args.p c.args.way c.requires.way_value (low).0 c.loop-i.i (low).1 c.requires.fills in record { page_bound = few; small = rw c.step.ensures (omega (arith, low, c.loop-i.invariant.total, c.loop-i.invariant.steps)) }

pub loop-i-preserved : goal.loop-i-preserved
loop-i-preserved c = let low : (depth_of c.args.img.now ≤ 3) × (c.loop-i.i ≤ depth_of c.args.img.now) × (c.depth-depth.result ≤ 3) = omega (arith, c.depth-depth.ensures) in let on_way : get_or c.args.way c.loop-i.i 0 ≡ down_to c.loop-i.i c.args.img.now c.args.p (root_of c.args.img.now) = way_at c.args.img.now c.args.p c.args.way c.requires.way_value (low).0 c.loop-i.i (low).1 in let few : fill_of (page_of c.args.img.now (get_or c.args.way c.loop-i.i 0)) ≤ 8 = way_few c.args.img.now c.args.p c.args.way c.requires.way_value (low).0 c.loop-i.i (low).1 c.requires.fills in path_on c.args.img.now c.args.choice c.args.p c.loop-i.i c.loop-i.invariant _ (on_way) _ c.step.ensures _ _ (omega (arith, low, c.depth-depth.ensures)) (few) c.page_lists.ensures

pub step-requires-2 : goal.step-requires-2
step-requires-2 c = let low : (depth_of c.args.img.now ≤ 3) × (c.loop-i.i ≤ depth_of c.args.img.now) × (c.depth-depth.result ≤ 3) = omega (arith, c.depth-depth.ensures) in omega (arith, low, c.loop-i.invariant.total, c.loop-i.invariant.steps)

pub bounds-way-depth : goal.bounds-way-depth
bounds-way-depth c = let low : (depth_of c.args.img.now ≤ 3) × (c.loop-i.i ≤ depth_of c.args.img.now) × (c.depth-depth.result ≤ 3) = omega (arith, c.depth-depth.ensures) in omega (arith, low)

pub leaf_own-requires : goal.leaf_own-requires
leaf_own-requires c = let low : (depth_of c.args.img.now ≤ 3) × (c.loop-i.i ≤ depth_of c.args.img.now) × (c.depth-depth.result ≤ 3) = omega (arith, c.depth-depth.ensures) in let few : fill_of (page_of c.args.img.now (get_or c.args.way c.loop-i.i 0)) ≤ 8 = way_few c.args.img.now c.args.p c.args.way c.requires.way_value (low).0 c.loop-i.i (low).1 c.requires.fills in let ended : c.depth-depth.result ≡ c.loop-i.i = omega arith in record { page_bound = rw (ended) (few); small = rw c.step-2.ensures (omega (arith, low, c.loop-i.invariant.total, c.loop-i.invariant.steps)) }

pub returns : goal.returns
returns c = let low : (depth_of c.args.img.now ≤ 3) × (c.loop-i.i ≤ depth_of c.args.img.now) × (c.depth-depth.result ≤ 3) = omega (arith, c.depth-depth.ensures) in let on_way : get_or c.args.way c.loop-i.i 0 ≡ down_to c.loop-i.i c.args.img.now c.args.p (root_of c.args.img.now) = way_at c.args.img.now c.args.p c.args.way c.requires.way_value (low).0 c.loop-i.i (low).1 in let ended : c.depth-depth.result ≡ c.loop-i.i = omega arith in path_end c.args.img.now c.args.choice c.args.p c.loop-i.i c.loop-i.invariant _ (rw (ended) (on_way)) _ c.step-2.ensures _ _ (omega (arith, low, c.depth-depth.ensures)) c.leaf_own.ensures
