-- `inside::children` meets its contract: what the walk lists are the children.
use mathlib.Core.Path.{refl}
use Rattle.image.specs.Read.{set_of}
use Rattle.inside.proofs.Walks.{lists_children}
use Rattle.inside.proofs.children.Goals as goal

pub returns : goal.returns
returns c = rw (← lists_children _ _ _ _ _ _ (set_of c.args.img.now) c.later.ensures refl) c.walk.ensures
