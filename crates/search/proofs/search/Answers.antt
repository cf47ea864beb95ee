-- `search::search` meets its contract: what is found along the path are the ancestors.
use native.Mathlib.Omega.{arith}
use Rattle.tally.proofs.Tallies.{tallied_same}
use Rattle.search.proofs.Right.{found_right}
use Rattle.path.proofs.Ways.{descend_asks}
use Rattle.search.proofs.search.Goals as goal

pub search_path-requires : goal.search_path-requires
search_path-requires c = let s = descend_asks _ c.requires.img_valid in record { bound = s.0; fills = s.1; way_value = c.requires.way_value }

pub returns : goal.returns
returns c = tallied_same (found_right _ (λ i. omega (arith, c.shared_slice_known-1.given i)) _ _ (omega arith) c.requires.img_valid) c.search_path.ensures
