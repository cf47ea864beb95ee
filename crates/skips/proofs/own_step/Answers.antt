-- `skips::own_step` meets its contract: the end; a region of another account; one of this.
use mathlib.Core.Path.{sym, ◌∙◌}
use Rattle.skips.proofs.Ways.{own_end, own_other, own_one}
use Rattle.skips.proofs.own_step.Goals as goal

pub returns-in_err-entry : goal.returns-in_err-entry
returns-in_err-entry c = c.from_residual.ensures ∙ own_end _ _ (sym c.step.ensures ∙ c.in_err-entry.was)

pub returns-then-account_of-account : goal.returns-then-account_of-account
returns-then-account_of-account c = own_one _ _ _ _ _ (sym c.step.ensures ∙ c.in_ok-entry.was) c.account_of.ensures c.if-account_of-account.true

pub returns-else-account_of-account : goal.returns-else-account_of-account
returns-else-account_of-account c = own_other _ _ _ _ _ (sym c.step.ensures ∙ c.in_ok-entry.was) c.account_of.ensures c.if-account_of-account.false
