-- `stack::region_at` meets its contract: four words.
use mathlib.Core.Path.{refl}
use Rattle.stack.proofs.Stacked.{region_read}
use Rattle.stack.proofs.region_at.Goals as goal

pub returns : goal.returns
returns c = region_read _ _ _ _ _ _ refl refl refl refl
