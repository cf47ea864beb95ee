-- `stablists::key_list` meets its contract: pair, regions on the left, first region on the right, end.
use mathlib.Core.Path.{sym, ◌∙◌}
use Rattle.pages.specs.Layout.{page_of}
use Rattle.stablists.proofs.Turns.{key_no, key_stop_left, key_stop_right, key_on}
use Rattle.stablists.proofs.key_list.Goals as goal

pub returns-then-not-pair_right : goal.returns-then-not-pair_right
returns-then-not-pair_right c = key_no _ _ (page_of c.args.img.now c.args.p) _ _ _ _ (sym c.pair_right.ensures ∙ c.if-not-pair_right.true)

pub returns-in_err-under : goal.returns-in_err-under
returns-in_err-under c =
    c.from_residual.ensures
    ∙ key_stop_left _ _ (page_of c.args.img.now c.args.p) c.args.i _ _ _ _ (record { low = c.args.low; key = c.key_words-k.result.key; high = c.args.high }) _ _ _
    (sym c.pair_right.ensures ∙ c.if-not-pair_right.false) (λ j. record { low = c.args.low; key = c.key_words-k.ensures.0 j; high = c.args.high })
    c.key_words-k.ensures.3 c.begin_list-begun.ensures c.child.ensures c.meet_tree.ensures c.in_err-under.was

pub returns-in_err-meet_region : goal.returns-in_err-meet_region
returns-in_err-meet_region c =
    c.from_residual-in_err-meet_region.ensures
    ∙ key_stop_right _ _ (page_of c.args.img.now c.args.p) c.args.i _ _ _ _ (record { low = c.args.low; key = c.key_words-k.result.key; high = c.args.high }) _ _ _
    (sym c.pair_right.ensures ∙ c.if-not-pair_right.false) (λ j. record { low = c.args.low; key = c.key_words-k.ensures.0 j; high = c.args.high })
    c.key_words-k.ensures.3 c.begin_list-begun.ensures c.child.ensures c.meet_tree.ensures
    _ _ _ _ c.in_ok-under.was c.child-2.ensures c.first_region-next.ensures c.meet_region.ensures c.in_err-meet_region.was

pub returns : goal.returns
returns c =
    key_on _ _ (page_of c.args.img.now c.args.p) c.args.i _ _ _ _ (record { low = c.args.low; key = c.key_words-k.result.key; high = c.args.high }) _ _ _
    (sym c.pair_right.ensures ∙ c.if-not-pair_right.false) (λ j. record { low = c.args.low; key = c.key_words-k.ensures.0 j; high = c.args.high })
    c.key_words-k.ensures.3 c.begin_list-begun.ensures c.child.ensures c.meet_tree.ensures
    _ _ _ _ c.in_ok-under.was c.child-2.ensures c.first_region-next.ensures c.meet_region.ensures _ _ c.in_ok-meet_region.was c.end_list.ensures
