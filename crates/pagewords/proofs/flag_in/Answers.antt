-- `pagewords::flag_in` meets its contract: read at the offset by its definition.
use Rattle.pagewords.proofs.flag_in.Goals as goal

pub returns : goal.returns
returns c = rw c.entry_word.ensures
