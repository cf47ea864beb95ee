-- `changes::delete_kept` meets its contract.
use native.Mathlib.Omega.{arith}
use Rattle.changes.proofs.Counts.{delete_counts, delete_counted}
use Rattle.changes.proofs.delete_kept.Goals as goal

pub bounds-held-account : goal.bounds-held-account
bounds-held-account c = (delete_counts c.args.img.now c.args.held.now c.requires.0 c.requires.1 _ _ _ c.in_ok-delete.ensures).0

pub overflow_sub-held : goal.overflow_sub-held
overflow_sub-held c = omega (arith, (delete_counts c.args.img.now c.args.held.now c.requires.0 c.requires.1 _ _ _ c.in_ok-delete.ensures).1)

pub bounds-held-account-2 : goal.bounds-held-account-2
bounds-held-account-2 c = (delete_counts c.args.img.now c.args.held.now c.requires.0 c.requires.1 _ _ _ c.in_ok-delete.ensures).0

pub returns-clause-deletes : goal.returns-clause-deletes
returns-clause-deletes c = let k = delete_counted c.args.img.now c.args.held.now c.requires.0 c.requires.1 _ _ _ c.in_ok-delete.ensures in (c.in_ok-delete.ensures, k.0, k.1)
