use mathlib.Core.Path.{sym, ◌∙◌}
use native.Mathlib.Omega.{arith}
use lib.Seq.{length-take-le}
use Rattle.printout.proofs.Texts.{batch_bytes, batch_words_lem, batch_room}
use Rattle.printout.proofs.Whole.{batch_less, join_ascends}
use Rattle.listing_join.proofs.print_batches.Goals as goal

pub loop-b-init : goal.loop-b-init
loop-b-init g c = c.requires.pairs_len

pub next_lines-b-requires : goal.next_lines-b-requires
next_lines-b-requires g c = let i = c.loop-b.invariant in record { both_valid = c.requires.both_valid; account_le_last_account = c.requires.account_le_last_account; words_len = (i.0, omega arith) }

pub shape_of-pairs-then-b-eq0 : goal.shape_of-pairs-then-b-eq0
shape_of-pairs-then-b-eq0 g c = batch_words_lem c.next_lines-b.ensures ∙ c.loop-b.invariant.0 ∙ sym c.requires.pairs_len.0

pub shape_of-out-then-b-eq0 : goal.shape_of-out-then-b-eq0
shape_of-out-then-b-eq0 g c = batch_room c.next_lines-b.ensures ∙ c.loop-b.invariant.1 ∙ sym c.requires.pairs_len.1

pub slice_bounds-text-end : goal.slice_bounds-text-end
slice_bounds-text-end g c = omega (arith, batch_bytes c.next_lines-b.ensures, batch_room c.next_lines-b.ensures, c.loop-b.invariant.1)

pub slice_bounds-text-end-in-loop-b : goal.slice_bounds-text-end-in-loop-b
slice_bounds-text-end-in-loop-b g c = sym (length-take-le _ _ (omega (arith, batch_bytes c.next_lines-b.ensures, batch_room c.next_lines-b.ensures, c.loop-b.invariant.1)))

pub loop-b-smaller : goal.loop-b-smaller
loop-b-smaller g c = let b = c.next_lines-b.ensures in let v = c.requires.both_valid in rw b.mark_is (batch_less _ _ (join_ascends _ _ _ v.0 v.1) (λ z. c.if-b-eq0.false (b.pairs_are ∙ z)))

pub loop-b-preserved : goal.loop-b-preserved
loop-b-preserved g c = let b = c.next_lines-b.ensures in (batch_words_lem b ∙ c.loop-b.invariant.0, batch_room b ∙ c.loop-b.invariant.1)
