-- `newpages::inner_single` meets its contract: the words are written out, and the lists come out of them.
use mathlib.Core.Path.{refl}
use Rattle.image.specs.Decode.{keys_from, children_from}
use Rattle.newpages.proofs.inner_single.Goals as goal

pub returns : goal.returns
unfolding keys_from children_from
returns c = record { mark_is = refl; fill_is = refl; next_is = refl; keys_are = refl; children_are = refl }
