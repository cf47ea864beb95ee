use native.Mathlib.Omega.{arith}
use mathlib.Core.Path.{refl, sym, ◌∙◌}
use Rattle.regions.proofs.Means.{late_near}
use Rattle.image.proofs.Sound.{set_rises, starts_small, valid_sound, at_most_500}
use Rattle.leaves.proofs.Faces.{faces_few}
use Rattle.follow.proofs.Moves.{placed_few}
use Rattle.join.proofs.Moves.{placed_holds, placed_rises}
use Rattle.join.proofs.Turns.{start_low, join_start, join_end, join_full, join_behind, join_onward, join_inside, join_small, join_less, join_on}
use Rattle.join.proofs.pairs_from.Goals.{else-loop-kind-test, then-loop-kind-test+in_default}
use Rattle.join.proofs.pairs_from.Goals as goal

pub begin-s-requires : goal.begin-s-requires
begin-s-requires c = record { outer_valid = c.requires.outer_valid; account_le_last_account = (c.requires.account_le_last_account.0, refl); account_bound = start_low _ _ _ _ _ c.requires.account_le_last_account.1 (set_rises _ c.requires.inner_valid) c.requires.faces c.requires.p_value }

pub loop-kind-init : goal.loop-kind-init
loop-kind-init c = (c.choice_of-choice.ensures, join_start _ _ _ _ _ _ _ _ _ _ _ _ c.requires.account_le_last_account.1 (set_rises _ c.requires.inner_valid) c.requires.faces c.requires.p_value (rw c.choice_of-choice.ensures at c.begin-s.ensures) refl (at_most_500 _ (λ i. omega (arith, c.shared_slice_known-2-1.given i)) c.requires.inner_valid))

pub own_step-requires : goal.own_step-requires
own_step-requires c = faces_few _ c.loop-kind.invariant.1.faces

pub slice_bounds-follow-end : goal.slice_bounds-follow-end
slice_bounds-follow-end c = sym c.loop-kind.invariant.1.stack.placed.long

pub follow-s-requires : goal.follow-s-requires
follow-s-requires c = record { outer_valid = c.requires.outer_valid; behind = rw c.loop-kind.invariant.0 (join_behind c.loop-kind.invariant.1 (set_rises _ c.requires.inner_valid) _ _ (sym c.own_step.ensures ∙ c.in-Some.is)) }

pub slice_bounds-pair_up-end : goal.slice_bounds-pair_up-end
slice_bounds-pair_up-end c = sym c.follow-s.ensures.long

pub pair_up-total-requires : goal.pair_up-total-requires
pair_up-total-requires c = record { n_le_most_around = (placed_few (late_near _ _).1 c.follow-s.ensures (valid_sound _ (λ i. omega (arith, c.shared_slice_known-1.given i)) c.requires.outer_valid), join_small c.loop-kind.invariant.1 (set_rises _ c.requires.inner_valid), c.follow-s.ensures.long); all = placed_holds _ (rw c.loop-kind.invariant.0 at c.follow-s.ensures); rising = placed_rises c.follow-s.ensures (set_rises _ c.requires.outer_valid) }

pub next_d-cursor-requires : goal.next_d-cursor-requires
next_d-cursor-requires c = record { outer_valid = c.requires.outer_valid; inner_valid = c.requires.inner_valid; faces = c.follow-s.ensures.faces; faces_2 = join_onward c.loop-kind.invariant.1 (set_rises _ c.requires.inner_valid) _ _ (sym c.own_step.ensures ∙ c.in-Some.is); p_bound = join_inside c.loop-kind.invariant.1 (set_rises _ c.requires.inner_valid) _ _ (sym c.own_step.ensures ∙ c.in-Some.is) (valid_sound _ (λ i. omega (arith, c.shared_slice_known-2-1.given i)) c.requires.inner_valid).formed (starts_small _ (λ i. omega (arith, c.shared_slice_known-2-1.given i)) c.requires.inner_valid) }

pub loop-kind-smaller : goal.loop-kind-smaller
loop-kind-smaller c = join_less c.loop-kind.invariant.1 (set_rises _ c.requires.inner_valid) _ _ (sym c.own_step.ensures ∙ c.in-Some.is) _ _ _ _ _ (rw c.loop-kind.invariant.0 at c.follow-s.ensures) c.pair_up-total.ensures (rw c.loop-kind.invariant.0 at c.next_d-cursor.ensures)

pub loop-kind-preserved : goal.loop-kind-preserved
loop-kind-preserved c = (c.loop-kind.invariant.0, join_on c.loop-kind.invariant.1 (set_rises _ c.requires.inner_valid) _ _ (sym c.own_step.ensures ∙ c.in-Some.is) _ _ _ _ _ (rw c.loop-kind.invariant.0 at c.follow-s.ensures) c.pair_up-total.ensures (rw c.loop-kind.invariant.0 at c.next_d-cursor.ensures) (valid_sound _ (λ i. omega (arith, c.shared_slice_known-1.given i)) c.requires.outer_valid))

pub shape_of-out : goal.shape_of-out
shape_of-out c = c.loop-kind.invariant.1.long

pub returns : goal.returns
returns c =
    elim c.loop-kind-test.branch [
      | else-loop-kind-test w ↦ join_full c.loop-kind.invariant.1 (set_rises _ c.requires.inner_valid) _ _ c.wants_more.ensures w.loop-kind-test.false c.told.ensures
      | then-loop-kind-test+in_default w ↦ join_end c.loop-kind.invariant.1 (set_rises _ c.requires.inner_valid) _ (sym w.own_step.ensures ∙ w.in_default.is) c.told.ensures
    ]
