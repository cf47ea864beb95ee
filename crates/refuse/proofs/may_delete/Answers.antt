-- `refuse::may_delete` meets its contract.
use mathlib.Core.Path.{sym, ◌∙◌}
use Rattle.image.specs.Read.{set_of}
use Rattle.refuse.proofs.Numbers.{delete_foreign, delete_absent, delete_goes}
use Rattle.refuse.proofs.may_delete.Goals as goal

pub returns-then-foreign : goal.returns-then-foreign
returns-then-foreign c = delete_foreign (set_of c.args.img.now) _ _ (sym c.foreign.ensures ∙ c.if-foreign.true)

pub returns-then-not-is_held : goal.returns-then-not-is_held
returns-then-not-is_held c = delete_absent (set_of c.args.img.now) _ _ (sym c.foreign.ensures ∙ c.if-foreign.false) (sym c.is_held.ensures ∙ c.if-not-is_held.true)

pub returns : goal.returns
returns c = delete_goes (set_of c.args.img.now) _ _ (sym c.foreign.ensures ∙ c.if-foreign.false) (sym c.is_held.ensures ∙ c.if-not-is_held.false)
