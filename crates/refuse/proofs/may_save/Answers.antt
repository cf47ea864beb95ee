-- `refuse::may_save` meets its contract.
use mathlib.Core.Path.{sym, ◌∙◌}
use Rattle.image.specs.Read.{set_of}
use Rattle.refuse.proofs.Numbers.{save_region, save_foreign, save_held, save_cross, save_level, save_share, save_goes, formed_order, own_low}
use Rattle.refuse.proofs.may_save.Goals as goal

pub returns-then-not-well_formed : goal.returns-then-not-well_formed
returns-then-not-well_formed c = save_region (set_of c.args.img.now) _ _ (sym c.well_formed-2.ensures ∙ c.if-not-well_formed.true)

pub returns-then-foreign : goal.returns-then-foreign
returns-then-foreign c = save_foreign (set_of c.args.img.now) _ _ (sym c.well_formed-2.ensures ∙ c.if-not-well_formed.false) (sym c.foreign.ensures ∙ c.if-foreign.true)

pub returns-then-is_held : goal.returns-then-is_held
returns-then-is_held c = save_held (set_of c.args.img.now) _ _ (sym c.well_formed-2.ensures ∙ c.if-not-well_formed.false) (sym c.foreign.ensures ∙ c.if-foreign.false) (sym c.is_held.ensures ∙ c.if-is_held.true)

pub crosses_held-requires : goal.crosses_held-requires
crosses_held-requires c = record { img_valid = c.requires.img_valid; start_lt_end = formed_order _ (sym c.well_formed-2.ensures ∙ c.if-not-well_formed.false); img_value = (sym c.is_held.ensures ∙ c.if-is_held.false); before_value = c.innermost_at-before.ensures }

pub returns-then-crosses_held : goal.returns-then-crosses_held
returns-then-crosses_held c = save_cross (set_of c.args.img.now) _ _ (sym c.well_formed-2.ensures ∙ c.if-not-well_formed.false) (sym c.foreign.ensures ∙ c.if-foreign.false) (sym c.is_held.ensures ∙ c.if-is_held.false) (sym c.crosses_held.ensures ∙ c.if-crosses_held.true)

pub contradicts_held-requires : goal.contradicts_held-requires
contradicts_held-requires c = record { img_valid = c.requires.img_valid; start_lt_end = formed_order _ (sym c.well_formed-2.ensures ∙ c.if-not-well_formed.false); img_value = (sym c.crosses_held.ensures ∙ c.if-crosses_held.false); before_value = c.innermost_at-before.ensures }

pub returns-then-contradicts_held : goal.returns-then-contradicts_held
returns-then-contradicts_held c = save_level (set_of c.args.img.now) _ _ (sym c.well_formed-2.ensures ∙ c.if-not-well_formed.false) (sym c.foreign.ensures ∙ c.if-foreign.false) (sym c.is_held.ensures ∙ c.if-is_held.false) (sym c.crosses_held.ensures ∙ c.if-crosses_held.false) (sym c.contradicts_held.ensures ∙ c.if-contradicts_held.true)

pub is_full-requires : goal.is_full-requires
is_full-requires c = record { img_valid = c.requires.img_valid; account_lt_account_count = (own_low _ _ (sym c.foreign.ensures ∙ c.if-foreign.false), c.requires.account_value (own_low _ _ (sym c.foreign.ensures ∙ c.if-foreign.false))) }

pub returns-then-is_full : goal.returns-then-is_full
returns-then-is_full c = save_share (set_of c.args.img.now) _ _ (sym c.well_formed-2.ensures ∙ c.if-not-well_formed.false) (sym c.foreign.ensures ∙ c.if-foreign.false) (sym c.is_held.ensures ∙ c.if-is_held.false) (sym c.crosses_held.ensures ∙ c.if-crosses_held.false) (sym c.contradicts_held.ensures ∙ c.if-contradicts_held.false) (sym c.is_full.ensures ∙ c.if-is_full.true)

pub returns : goal.returns
returns c = save_goes (set_of c.args.img.now) _ _ (sym c.well_formed-2.ensures ∙ c.if-not-well_formed.false) (sym c.foreign.ensures ∙ c.if-foreign.false) (sym c.is_held.ensures ∙ c.if-is_held.false) (sym c.crosses_held.ensures ∙ c.if-crosses_held.false) (sym c.contradicts_held.ensures ∙ c.if-contradicts_held.false) (sym c.is_full.ensures ∙ c.if-is_full.false)
