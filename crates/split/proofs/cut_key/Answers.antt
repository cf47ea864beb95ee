-- `split::cut_key` meets its contract: the key between the two starts that it reads.
use mathlib.Core.Path.{◌∙◌}
use Rattle.split.proofs.cut_key.Goals as goal

pub returns : goal.returns
returns c = c.key_between.ensures ∙ simp (c.start_in-2.ensures, c.start_in.ensures)
