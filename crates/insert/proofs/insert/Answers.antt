-- `insert::insert` saves the region: its entry comes in, the fills are put right from the leaf up, and the root last.
use native.Mathlib.Omega.{arith}
use Rattle.path.proofs.Ways.{descend_asks}
use Rattle.insert.proofs.Entered.{enter_asks, depth_asks, spread_asks, top_asks, save_right}
use Rattle.insert.proofs.insert.Goals as goal

pub descend-path-requires : goal.descend-path-requires
descend-path-requires c = let asked = descend_asks _ c.requires.1 in record { bound = asked.0; fills = asked.1 }

pub put_entry-requires : goal.put_entry-requires
put_entry-requires c = enter_asks _ (λ i. omega (arith, c.slice_known-1.given i)) _ _ c.requires.1 c.requires.2 (omega (arith, c.well_formed)) _ c.descend-path.ensures

pub depth-d-requires : goal.depth-d-requires
depth-d-requires c = depth_asks _ (λ i. omega (arith, c.slice_known-1.given i)) _ _ c.requires.1 c.requires.2 (omega (arith, c.well_formed)) _ c.descend-path.ensures _ c.put_entry.ensures

pub spread-requires : goal.spread-requires
spread-requires c = spread_asks _ (λ i. omega (arith, c.slice_known-1.given i)) _ _ c.requires.1 c.requires.2 (omega (arith, c.well_formed)) _ c.descend-path.ensures _ c.put_entry.ensures _ c.depth-d.ensures

pub relieve_root-requires : goal.relieve_root-requires
relieve_root-requires c = top_asks _ (λ i. omega (arith, c.slice_known-1.given i)) _ _ c.requires.1 c.requires.2 (omega (arith, c.well_formed)) _ c.descend-path.ensures _ c.put_entry.ensures _ c.depth-d.ensures _ c.spread.ensures

pub returns : goal.returns
returns c = save_right _ (λ i. omega (arith, c.slice_known-1.given i)) _ _ c.requires.1 c.requires.2 (omega (arith, c.well_formed)) _ c.descend-path.ensures _ c.put_entry.ensures _ c.depth-d.ensures _ c.spread.ensures _ c.relieve_root.ensures
