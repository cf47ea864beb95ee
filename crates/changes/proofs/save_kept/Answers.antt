-- `changes::save_kept` meets its contract.
use native.Mathlib.Omega.{arith}
use Rattle.changes.proofs.Counts.{save_counts, save_counted}
use Rattle.changes.proofs.save_kept.Goals as goal

pub bounds-held-account : goal.bounds-held-account
bounds-held-account c = (save_counts c.args.img.now c.args.held.now c.requires.0 c.requires.1 _ _ _ c.in_ok-save.ensures).0

pub overflow_add-held : goal.overflow_add-held
overflow_add-held c = omega (arith, (save_counts c.args.img.now c.args.held.now c.requires.0 c.requires.1 _ _ _ c.in_ok-save.ensures).1)

pub bounds-held-account-2 : goal.bounds-held-account-2
bounds-held-account-2 c = (save_counts c.args.img.now c.args.held.now c.requires.0 c.requires.1 _ _ _ c.in_ok-save.ensures).0

pub returns-clause-saves : goal.returns-clause-saves
returns-clause-saves c = let k = save_counted c.args.img.now c.args.held.now c.requires.0 c.requires.1 _ _ _ c.in_ok-save.ensures in (c.in_ok-save.ensures, k.0, k.1)
