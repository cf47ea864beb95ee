-- `follow::begin` meets its contract: at the account's first position the stack is empty; at a mark it is made by a search.
use native.Mathlib.Omega.{arith}
use mathlib.Core.Path.{refl}
use Rattle.regions.proofs.Means.{late_near}
use Rattle.image.proofs.Sound.{valid_sound}
use Rattle.follow.proofs.Moves.{placed_behind, begun}
use Rattle.follow.proofs.begin.Goals as goal

pub returns-in-Fresh : goal.returns-in-Fresh
returns-in-Fresh c = begun _ _ c.args.account _ _ _ _ (valid_sound _ (λ i. omega (arith, c.shared_slice_known-1.given i)) c.requires.outer_valid) c.requires.account_le_last_account.1 refl c.requires.account_bound c.seek_from-cur.ensures

pub returns-in-Last : goal.returns-in-Last
returns-in-Last c = placed_behind (late_near _ _).1 c.refill.ensures
