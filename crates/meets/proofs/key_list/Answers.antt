-- `meets::key_list` meets its contract: the stored pair does not hold p, or the list was walked.
use mathlib.Core.Path.{sym, ◌∙◌}
use Rattle.meets.proofs.Loops.{key_beside, key_walked}
use Rattle.meets.proofs.key_list.Goals as goal

pub returns-then-not-spans : goal.returns-then-not-spans
returns-then-not-spans c = key_beside _ _ _ _ _ _ _ c.key_words-k.ensures.1 c.key_words-k.ensures.2 (sym c.spans.ensures ∙ c.if-not-spans.true)

pub returns : goal.returns
returns c = key_walked _ _ _ _ _ _ _ c.key_words-k.ensures.1 c.key_words-k.ensures.2 _ _ _ c.key_words-k.ensures.3 (sym c.spans.ensures ∙ c.if-not-spans.false) c.walk_list.ensures
