-- `leafmet::own_entry` meets its contract: the entry is in a list, beside p, or met.
use mathlib.Core.Path.{sym, ◌∙◌}
use Rattle.leafmet.proofs.Loops.{entry_in_list, entry_outside, entry_visited}
use Rattle.leafmet.proofs.own_entry.Goals as goal

pub returns-then-entry_flag-ne0 : goal.returns-then-entry_flag-ne0
returns-then-entry_flag-ne0 c = entry_in_list _ _ _ _ _ _ c.entry_flag.ensures c.if-entry_flag-ne0.true

pub returns-then-not-holds : goal.returns-then-not-holds
returns-then-not-holds c = entry_outside _ _ _ _ _ _ c.entry_region-a.ensures (sym c.holds.ensures ∙ c.if-not-holds.true)

pub returns : goal.returns
returns c = entry_visited _ _ _ _ _ _ c.entry_region-a.ensures _ _ _ c.entry_flag.ensures c.if-entry_flag-ne0.false (sym c.holds.ensures ∙ c.if-not-holds.false) c.visit.ensures
