-- `pairing::takes` meets its contract: not past the mark; else the level decides.
use mathlib.Core.Path.{sym, ◌∙◌}
use Rattle.pairing.proofs.Pairs.{takes_not, takes_fitting}
use Rattle.pairing.proofs.takes.Goals as goal

pub returns-then-not-is_past : goal.returns-then-not-is_past
returns-then-not-is_past c = takes_not _ _ _ _ (sym c.is_past.ensures ∙ c.if-not-is_past.true)

pub returns : goal.returns
returns c = c.level_fits.ensures ∙ takes_fitting _ _ _ _ c.requires (sym c.is_past.ensures ∙ c.if-not-is_past.false)
