-- `pages::entry_region` meets its contract: the region at the offset by its definition.
use mathlib.Core.Path.{◌∙◌}
use Rattle.pages.proofs.entry_region.Goals as goal

pub returns : goal.returns
returns c = c.region_at.ensures ∙ rw c.entry_word.ensures
