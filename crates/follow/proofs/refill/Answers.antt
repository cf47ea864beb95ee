-- `follow::refill` meets its contract: all ancestors have room.
use native.Mathlib.Omega.{arith}
use Rattle.image.proofs.Sound.{valid_sound}
use Rattle.path.proofs.Ways.{descend_asks}
use Rattle.follow.proofs.Moves.{refilled}
use Rattle.follow.proofs.refill.Goals as goal

pub descend-way-requires : goal.descend-way-requires
descend-way-requires c = let asked = descend_asks _ c.requires.outer_valid in record { bound = asked.0; fills = asked.1 }

pub returns : goal.returns
returns c = refilled _ _ _ _ _ _ _ _ c.requires.held_len (valid_sound _ (λ i. omega (arith, c.shared_slice_known-1.given i)) c.requires.outer_valid) c.ancestors_along-n.ensures c.seek_along-cur.ensures
