-- `pagewords::headed` meets its contract: the first three words.
use mathlib.Core.Path.{refl}
use Rattle.pagewords.specs.Words.{headed_by}
use Rattle.pagewords.proofs.headed.Goals as goal

pub returns : goal.returns
unfolding headed_by
returns c = refl
