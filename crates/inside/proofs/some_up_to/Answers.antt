-- `inside::some_up_to` meets its contract: with no room for a region, more remain exactly where there is one.
use mathlib.Core.Path.{refl}
use Rattle.image.specs.Read.{set_of}
use Rattle.inside.proofs.Walks.{some_wanted}
use Rattle.inside.proofs.some_up_to.Goals as goal

pub returns : goal.returns
returns c = some_wanted _ _ _ _ (set_of c.args.img.now) _ _ refl refl c.walk.ensures.more
