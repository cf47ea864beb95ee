-- `words::word` meets its contract: past the end there is nothing, and the reader gives 0.
use borrow.Author.Rules.{rules}
use mathlib.Core.Path.{sym}
use lib.ListN.{get_or-eq_default}
use Rattle.words.proofs.word.Goals as goal

pub returns-else-i-w : goal.returns-else-i-w
returns-else-i-w c = sym (get_or-eq_default c.args.w.now 0 (search rules))
