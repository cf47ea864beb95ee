-- `inside::descendants` meets its contract: what the walk lists are the descendants.
use mathlib.Core.Path.{refl}
use Rattle.image.specs.Read.{set_of}
use Rattle.inside.proofs.Walks.{lists_descendants}
use Rattle.inside.proofs.descendants.Goals as goal

pub returns : goal.returns
returns c = rw (← lists_descendants _ _ _ _ _ (set_of c.args.img.now) c.later.ensures refl) c.walk.ensures
