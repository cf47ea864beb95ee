-- `pages::key_words` meets its contract: four words from the offset by its definition on.
use mathlib.Core.Path.{◌∙◌}
use Rattle.pages.proofs.key_words.Goals as goal

pub returns : goal.returns
returns c =
    let b = c.key_word-b.ensures in
    (c.page_word.ensures ∙ rw b, c.page_word-2.ensures ∙ rw b, c.page_word-3.ensures ∙ rw b, c.page_word-4.ensures ∙ rw b)
