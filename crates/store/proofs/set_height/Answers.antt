-- `store::set_height` meets its contract: one word is written.
use mathlib.Core.Path.{refl}
use Rattle.store.specs.Store.{set_height}
use Rattle.store.proofs.set_height.Goals as goal

pub returns : goal.returns
unfolding set_height
returns c = refl
