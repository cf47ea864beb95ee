-- `tally::Tally::visit` meets its contract: passed by, or written and counted.
use mathlib.Core.Path.{sym, ◌∙◌}
use Rattle.tally.proofs.Tallies.{tallied_pass, tallied_take}
use Rattle.tally.proofs.Tally.visit.Goals as goal

pub returns-then-not-takes : goal.returns-then-not-takes
returns-then-not-takes c = tallied_pass (sym c.takes.ensures ∙ c.if-not-takes.true)

pub returns : goal.returns
returns c = tallied_take (sym c.takes.ensures ∙ c.if-not-takes.false) c.put_region.ensures
