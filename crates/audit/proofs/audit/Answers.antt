-- `audit::audit` meets its contract: the three parts decide validity.
use mathlib.Core.Path.{sym, ◌∙◌}
use Rattle.std.specs.Prelude.{[]}
use Rattle.audit.proofs.Ways.{no_shape, no_regions, no_lists, all_right}
use Rattle.audit.proofs.audit.Goals as goal

pub returns-then-not-shaped : goal.returns-then-not-shaped
returns-then-not-shaped c = no_shape c.args.img.now [] (sym c.shaped.ensures ∙ c.if-not-shaped.true)

pub returns-in_err-held : goal.returns-in_err-held
returns-in_err-held c = rw c.from_residual.ensures (no_regions c.args.img.now [] (sym c.shaped.ensures ∙ c.if-not-shaped.false) (sym c.in_err-held.ensures.decides))

pub returns-then-not-lists_right : goal.returns-then-not-lists_right
returns-then-not-lists_right c = no_lists c.args.img.now [] (sym c.shaped.ensures ∙ c.if-not-shaped.false) (sym c.in_ok-held.ensures.decides) (sym c.lists_right.ensures ∙ c.if-not-lists_right.true)

pub returns : goal.returns
returns c = all_right c.args.img.now _ (sym c.shaped.ensures ∙ c.if-not-shaped.false) (sym c.in_ok-held.ensures.decides) (sym c.lists_right.ensures ∙ c.if-not-lists_right.false) c.in_ok-held.ensures.counts
