-- `follow::follow` meets its contract: what has ended is popped, and the way is made.
use native.Mathlib.Omega.{arith}
use Rattle.image.proofs.Sound.{valid_sound}
use Rattle.follow.proofs.Moves.{placed_few, behind_falls, behind_coming}
use Rattle.follow.proofs.follow.Goals as goal

pub pop_ended-n-requires : goal.pop_ended-n-requires
pop_ended-n-requires c = let s = valid_sound _ (λ i. omega (arith, c.shared_slice_known-1.given i)) c.requires.outer_valid in record { n_le_most_around = (placed_few c.requires.behind.near c.requires.behind.placed s, c.requires.behind.placed.long); falling = behind_falls c.requires.behind s }

pub catch_up-requires : goal.catch_up-requires
catch_up-requires c = record { outer_valid = c.requires.outer_valid; coming = behind_coming c.requires.behind _ c.pop_ended-n.ensures }
