-- `listing::read_listing` meets its contract.
use Rattle.std.proofs.lemmas.Result.{err_from_is_err_and}
use Rattle.regions.proofs.Refused.{refused_some}
use Rattle.listing.proofs.Whole.{oversized, outer_refused, inner_refused, line_too_many, all_read}
use Rattle.listing.proofs.read_listing.Goals as goal

pub returns-then-text-gt-MOST_BYTES : goal.returns-then-text-gt-MOST_BYTES
returns-then-text-gt-MOST_BYTES c = oversized c.args.text.now c.args.outer.now c.args.inner.now c.if-outer-ne-IMAGE_WORDS.false c.if-inner-ne-IMAGE_WORDS.false c.if-text-gt-MOST_BYTES.true

pub returns-in_err-a : goal.returns-in_err-a
returns-in_err-a c =
    let p = err_from_is_err_and c.from_residual.result c.from_residual.ensures.1 in
    rw (p.1, p.2) (outer_refused c.args.text.now c.args.outer.now c.args.inner.now c.if-outer-ne-IMAGE_WORDS.false c.if-inner-ne-IMAGE_WORDS.false c.if-text-gt-MOST_BYTES.false _ _ _ _ c.in_err-a.ensures (refused_some c.in_err-a.field-0.0.refusal))

pub returns-in_err-b : goal.returns-in_err-b
returns-in_err-b c =
    let p = err_from_is_err_and c.from_residual-in_err-b.result c.from_residual-in_err-b.ensures.1 in
    rw (p.1, p.2) (inner_refused c.args.text.now c.args.outer.now c.args.inner.now c.if-outer-ne-IMAGE_WORDS.false c.if-inner-ne-IMAGE_WORDS.false c.if-text-gt-MOST_BYTES.false _ _ _ c.in_ok-a.ensures _ _ _ _ c.in_err-b.ensures (refused_some c.in_err-b.field-0.0.refusal))

pub returns-then-b-text : goal.returns-then-b-text
returns-then-b-text c = line_too_many c.args.text.now c.args.outer.now c.args.inner.now c.if-outer-ne-IMAGE_WORDS.false c.if-inner-ne-IMAGE_WORDS.false c.if-text-gt-MOST_BYTES.false _ _ _ c.in_ok-a.ensures _ _ _ c.in_ok-b.ensures c.if-b-text.true

pub returns : goal.returns
returns c = all_read c.args.text.now c.args.outer.now c.args.inner.now c.if-outer-ne-IMAGE_WORDS.false c.if-inner-ne-IMAGE_WORDS.false c.if-text-gt-MOST_BYTES.false _ _ _ c.in_ok-a.ensures _ _ _ c.in_ok-b.ensures _ _ c.if-b-text.false c.copy_from_slice.ensures.after c.copy_from_slice-2.ensures.after
