-- `answers::put_region` meets its contract: the item is its four words.
use mathlib.Core.Path.{◌∙◌}
use Rattle.regions.specs.Calls.{region_words}
use Rattle.answers.specs.Items.{as_words}
use Rattle.answers.proofs.Items.{from_map}
use mathlib.Core.List.{[], ◌∷◌}
use Rattle.answers.proofs.put_region.Goals as goal

pub returns : goal.returns
returns c = c.put_four.ensures ∙ from_map as_words 4 region_words _ _ (c.args.r ∷ [])
