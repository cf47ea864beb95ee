-- `pagewords::child_in` meets its contract: read at the offset by its definition.
use Rattle.pagewords.proofs.child_in.Goals as goal

pub returns : goal.returns
returns c = rw c.child_word.ensures
