-- `remove` takes the region out, mends the fills, and takes away a root with no key.
use native.Mathlib.Omega.{arith}
use Rattle.path.proofs.Ways.{descend_asks}
use Rattle.remove.proofs.Removing.{take_asks, high_enough, leaf_done, mend_asks, kept_done, shrink_asks, shrunk_done}
use Rattle.remove.proofs.remove.Goals as goal

pub descend-path-requires : goal.descend-path-requires
descend-path-requires c = let asked = descend_asks _ c.requires.1 in record { bound = asked.0; fills = asked.1 }

pub take_entry-requires : goal.take_entry-requires
take_entry-requires c = take_asks _ c.requires.1 (λ i. omega (arith, c.slice_known-1.given i)) _ _ c.requires.2 _ c.descend-path.ensures

pub depth-d-requires : goal.depth-d-requires
depth-d-requires c = high_enough _ c.requires.1 (λ i. omega (arith, c.slice_known-1.given i)) _ _ c.requires.2 _ c.descend-path.ensures _ c.take_entry.ensures

pub returns-then-d-eq0 : goal.returns-then-d-eq0
returns-then-d-eq0 c = leaf_done _ c.requires.1 (λ i. omega (arith, c.slice_known-1.given i)) _ _ c.requires.2 _ c.descend-path.ensures _ c.take_entry.ensures _ c.depth-d.ensures c.if-d-eq0.true

pub mend-requires : goal.mend-requires
mend-requires c =
    let asked = mend_asks _ c.requires.1 (λ i. omega (arith, c.slice_known-1.given i)) _ _ c.requires.2 _ c.descend-path.ensures _ c.take_entry.ensures _ c.depth-d.ensures c.if-d-eq0.false in
    (omega (arith, asked.0), asked.1, asked.2)

pub shrink_root-requires : goal.shrink_root-requires
shrink_root-requires c = shrink_asks _ c.requires.1 (λ i. omega (arith, c.slice_known-1.given i)) _ _ c.requires.2 _ c.descend-path.ensures _ c.take_entry.ensures _ c.depth-d.ensures c.if-d-eq0.false _ c.mend.ensures

pub returns-then-keys-eq0 : goal.returns-then-keys-eq0
returns-then-keys-eq0 c = shrunk_done _ c.requires.1 (λ i. omega (arith, c.slice_known-1.given i)) _ _ c.requires.2 _ c.descend-path.ensures _ c.take_entry.ensures _ c.depth-d.ensures c.if-d-eq0.false _ c.mend.ensures _ c.fill-keys.ensures c.if-keys-eq0.true _ c.shrink_root.ensures

pub returns-else-keys-eq0 : goal.returns-else-keys-eq0
returns-else-keys-eq0 c = kept_done _ c.requires.1 (λ i. omega (arith, c.slice_known-1.given i)) _ _ c.requires.2 _ c.descend-path.ensures _ c.take_entry.ensures _ c.depth-d.ensures c.if-d-eq0.false _ c.mend.ensures _ c.fill-keys.ensures c.if-keys-eq0.false
