-- `pairing::pair_one` meets its contract: passed by, or written and counted.
use mathlib.Core.Path.{sym, ◌∙◌}
use Rattle.pairing.proofs.Pairs.{paired_none, paired_one}
use Rattle.pairing.proofs.pair_one.Goals as goal

pub returns-then-not-takes : goal.returns-then-not-takes
returns-then-not-takes c = paired_none (sym c.takes.ensures ∙ c.if-not-takes.true)

pub returns : goal.returns
returns c = paired_one (sym c.takes.ensures ∙ c.if-not-takes.false) c.put_pair.ensures
