-- `join::pairs_past` meets its contract: no d of the account is left from the first position on, or the pairs are made from the first one on.
use native.Mathlib.Omega.{arith}
use Rattle.image.proofs.Sound.{set_rises}
use Rattle.leaves.proofs.Faces.{faces_few}
use Rattle.join.proofs.Turns.{join_none}
use Rattle.join.proofs.pairs_past.Goals as goal

pub start-p-requires : goal.start-p-requires
start-p-requires c = faces_few _ c.seek_from-first.ensures

pub returns-then-account_of-account : goal.returns-then-account_of-account
returns-then-account_of-account c = join_none _ _ _ _ _ _ _ _ _ _ _ (set_rises _ c.requires.inner_valid) c.first_position.ensures c.seek_from-first.ensures c.start-p.ensures c.account_of.ensures c.if-account_of-account.true

pub pairs_from-requires : goal.pairs_from-requires
pairs_from-requires c = record { outer_valid = c.requires.outer_valid; inner_valid = c.requires.inner_valid; account_le_last_account = (c.requires.account_le_last_account, omega (arith, c.first_position.ensures)); faces = rw c.first_position.ensures at c.seek_from-first.ensures; p_value = c.start-p.ensures }
