-- `pages::entry_flag` meets its contract: the word at the offset by its definition.
use mathlib.Core.Path.{◌∙◌}
use Rattle.pages.proofs.entry_flag.Goals as goal

pub returns : goal.returns
returns c = c.page_word.ensures ∙ rw c.entry_word.ensures
