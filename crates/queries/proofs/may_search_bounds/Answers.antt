-- `queries::may_search_bounds` meets its contract.
use mathlib.Core.Path.{sym, ◌∙◌}
use Rattle.regions.proofs.Numbers.{image_number, own_number}
use Rattle.queries.proofs.Answers.{bounds_wrong, bounds_foreign, bounds_own}
use Rattle.queries.proofs.may_search_bounds.Goals as goal

pub returns-then-not-is_valid : goal.returns-then-not-is_valid
returns-then-not-is_valid c = (image_number _ _ (sym c.is_valid.ensures ∙ c.if-not-is_valid.true))

pub returns-then-not-well_bound : goal.returns-then-not-well_bound
returns-then-not-well_bound c = own_number _ 2 _ (sym c.is_valid.ensures ∙ c.if-not-is_valid.false) (bounds_wrong _ _ _ (sym c.well_bound.ensures ∙ c.if-not-well_bound.true))

pub returns-then-foreign : goal.returns-then-foreign
returns-then-foreign c = own_number _ 3 _ (sym c.is_valid.ensures ∙ c.if-not-is_valid.false) (bounds_foreign _ _ _ (sym c.well_bound.ensures ∙ c.if-not-well_bound.false) (sym c.foreign.ensures ∙ c.if-foreign.true))

pub returns : goal.returns
returns c = own_number _ 0 _ (sym c.is_valid.ensures ∙ c.if-not-is_valid.false) (bounds_own _ _ _ (sym c.well_bound.ensures ∙ c.if-not-well_bound.false) (sym c.foreign.ensures ∙ c.if-foreign.false))
