-- `desk::close_seat` meets its contract: a refusal leaves the desk, and else the seat is stored as `closes` hands it back.
use native.Mathlib.Omega.{arith}
use Rattle.std.proofs.lemmas.Result.{err_from_is_err_and}
use Rattle.regions.proofs.Refused.{refused_some}
use Rattle.seats.proofs.Fitting.{eight_seats}
use Rattle.desk.proofs.Answered.{place_fits, place_below, close_no_place, close_refused, close_stored}
use Rattle.desk.proofs.close_seat.Goals as goal

pub returns-in_err-at : goal.returns-in_err-at
returns-in_err-at c = let x = err_from_is_err_and c.from_residual.result c.from_residual.ensures.1 in rw (x.1, x.2) (close_no_place c.args.desk.now _ _ (refused_some _) c.in_err-at.ensures.number)

pub slice_copy_out-closes : goal.slice_copy_out-closes
slice_copy_out-closes c =
    let o = c.in_ok-at.ensures in
    omega (arith, o.place, place_below _ _ o.number, eight_seats c.args.desk.now (place_fits _ _ o.number))

pub bounds-desk-at : goal.bounds-desk-at
bounds-desk-at c =
    let o = c.in_ok-at.ensures in
    omega (arith, o.place, place_below _ _ o.number, eight_seats c.args.desk.now (place_fits _ _ o.number))

pub returns-in_err-desk : goal.returns-in_err-desk
returns-in_err-desk c =
    let o = c.in_ok-at.ensures in
    let x = err_from_is_err_and c.from_residual-in_err-desk.result c.from_residual-in_err-desk.ensures.1 in rw (x.1, x.2) (close_refused c.args.desk.now _ o.number _ o.place _ _ (refused_some _) c.in_err-desk.ensures)

pub returns : goal.returns
returns c = let o = c.in_ok-at.ensures in close_stored c.args.desk.now _ o.number _ o.place _ c.in_ok-desk.ensures
