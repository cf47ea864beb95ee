-- `answers::put_pair` meets its contract: the item is its four words.
use mathlib.Core.Path.{◌∙◌}
use Rattle.regions.specs.Calls.{pair_words, pair_of}
use Rattle.answers.specs.Items.{as_words}
use Rattle.answers.proofs.Items.{from_map}
use mathlib.Core.List.{[], ◌∷◌}
use Rattle.answers.proofs.put_pair.Goals as goal

pub returns : goal.returns
returns c = c.put_four.ensures ∙ from_map as_words 4 pair_words _ _ (pair_of c.args.d c.args.a ∷ [])
