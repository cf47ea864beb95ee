-- `store::set_root` meets its contract: one word is written.
use mathlib.Core.Path.{refl}
use Rattle.store.specs.Store.{set_root}
use Rattle.store.proofs.set_root.Goals as goal

pub returns : goal.returns
unfolding set_root
returns c = refl
