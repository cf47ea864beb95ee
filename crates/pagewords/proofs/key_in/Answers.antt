-- `pagewords::key_in` meets its contract: read at the offset by its definition.
use Rattle.pagewords.proofs.key_in.Goals as goal

pub returns : goal.returns
returns c = rw c.key_word-b.ensures
