-- `desk::asks_part` meets its contract: the buffer's test and the place's refuse, and then `may_ask` decides of the seat.
use native.Mathlib.Omega.{arith}
use Rattle.std.proofs.lemmas.Result.{err_from_is_err_and}
use Rattle.regions.proofs.Refused.{refused_some}
use Rattle.seats.proofs.Fitting.{eight_seats}
use Rattle.desk.proofs.Answered.{place_fits, place_below, asked_no_buffer, asked_no_place, asked_answered}
use Rattle.desk.proofs.asks_part.Goals as goal

pub returns-then-buffer-ne-BUFFER_WORDS : goal.returns-then-buffer-ne-BUFFER_WORDS
returns-then-buffer-ne-BUFFER_WORDS c = asked_no_buffer _ _ _ _ c.if-buffer-ne-BUFFER_WORDS.true

pub returns-in_err-at : goal.returns-in_err-at
returns-in_err-at c = let x = err_from_is_err_and c.from_residual.result c.from_residual.ensures.1 in rw (x.1, x.2) (asked_no_place c.args.desk.now _ _ _ c.if-buffer-ne-BUFFER_WORDS.false _ (refused_some _) c.in_err-at.ensures.number)

pub bounds-desk-at : goal.bounds-desk-at
bounds-desk-at c =
    let o = c.in_ok-at.ensures in
    omega (arith, o.place, place_below _ _ o.number, eight_seats c.args.desk.now (place_fits _ _ o.number))

pub returns : goal.returns
returns c = let o = c.in_ok-at.ensures in asked_answered c.args.desk.now _ _ _ c.if-buffer-ne-BUFFER_WORDS.false o.number _ o.place _ c.may_ask.ensures
