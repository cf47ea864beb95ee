-- `queries::may_search_at` meets its contract.
use mathlib.Core.Path.{sym, ◌∙◌}
use Rattle.regions.proofs.Numbers.{image_number, own_number}
use Rattle.queries.proofs.Answers.{point_foreign, point_own}
use Rattle.queries.proofs.may_search_at.Goals as goal

pub returns-then-not-is_valid : goal.returns-then-not-is_valid
returns-then-not-is_valid c = image_number _ _ (sym c.is_valid.ensures ∙ c.if-not-is_valid.true)

pub returns-then-foreign : goal.returns-then-foreign
returns-then-foreign c = own_number _ 3 _ (sym c.is_valid.ensures ∙ c.if-not-is_valid.false) (point_foreign _ _ (sym c.foreign.ensures ∙ c.if-foreign.true))

pub returns : goal.returns
returns c = own_number _ 0 _ (sym c.is_valid.ensures ∙ c.if-not-is_valid.false) (point_own _ _ (sym c.foreign.ensures ∙ c.if-foreign.false))
