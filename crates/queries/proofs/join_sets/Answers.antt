-- `queries::join_sets` meets its contract.
use mathlib.Core.Path.{sym, ◌∙◌}
use native.Mathlib.Omega.{arith}
use Rattle.words.proofs.Tests.{T_of}
use Rattle.image.specs.Valid.{valid}
use Rattle.regions.specs.Calls.{join_no}
use Rattle.queries.proofs.Answers.{outer_invalid, either_invalid, join_foreign, join_refused, join_found}
use Rattle.queries.proofs.join_sets.Goals as goal

pub returns-then-not-is_valid : goal.returns-then-not-is_valid
returns-then-not-is_valid c = join_refused c.args.outer.now c.args.inner.now c.args.account _ _ 1 (λ z. omega arith) (outer_invalid (valid c.args.outer.now) (valid c.args.inner.now) (join_no c.args.account) (sym c.is_valid.ensures ∙ c.if-not-is_valid.true))

pub returns-then-not-is_valid-2 : goal.returns-then-not-is_valid-2
returns-then-not-is_valid-2 c = join_refused c.args.outer.now c.args.inner.now c.args.account _ _ 1 (λ z. omega arith) (either_invalid (valid c.args.outer.now) (valid c.args.inner.now) (join_no c.args.account) (sym c.is_valid.ensures ∙ c.if-not-is_valid.false) (sym c.is_valid-2.ensures ∙ c.if-not-is_valid-2.true))

pub returns-then-account-gt-LAST_ACCOUNT : goal.returns-then-account-gt-LAST_ACCOUNT
returns-then-account-gt-LAST_ACCOUNT c = join_refused c.args.outer.now c.args.inner.now c.args.account _ _ 3 (λ z. omega arith) (join_foreign (valid c.args.outer.now) (valid c.args.inner.now) c.args.account (sym c.is_valid.ensures ∙ c.if-not-is_valid.false) (sym c.is_valid-2.ensures ∙ c.if-not-is_valid-2.false) c.if-account-gt-LAST_ACCOUNT.true)

pub pairs_past-total-requires : goal.pairs_past-total-requires
pairs_past-total-requires c = record { outer_valid = T_of (sym c.is_valid.ensures ∙ c.if-not-is_valid.false); inner_valid = T_of (sym c.is_valid-2.ensures ∙ c.if-not-is_valid-2.false); account_le_last_account = c.if-account-gt-LAST_ACCOUNT.false }

pub returns : goal.returns
returns c = join_found c.args.outer.now c.args.inner.now c.args.account _ _ _ _ (sym c.is_valid.ensures ∙ c.if-not-is_valid.false) (sym c.is_valid-2.ensures ∙ c.if-not-is_valid-2.false) c.if-account-gt-LAST_ACCOUNT.false c.pairs_past-total.ensures
