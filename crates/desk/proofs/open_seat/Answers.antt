-- `desk::open_seat` meets its contract: a refusal leaves the desk, and else the seat is stored as `opens` hands it back.
use native.Mathlib.Omega.{arith}
use Rattle.std.proofs.lemmas.Result.{err_from_is_err_and}
use Rattle.regions.proofs.Refused.{refused_some}
use Rattle.seats.proofs.Fitting.{eight_seats}
use Rattle.desk.proofs.Answered.{place_fits, place_below, open_no_place, open_refused, open_stored}
use Rattle.desk.proofs.open_seat.Goals as goal

pub returns-in_err-at : goal.returns-in_err-at
returns-in_err-at c = let x = err_from_is_err_and c.from_residual.result c.from_residual.ensures.1 in rw (x.1, x.2) (open_no_place c.args.desk.now _ _ _ _ _ (refused_some _) c.in_err-at.ensures.number)

pub slice_copy_out-opens : goal.slice_copy_out-opens
slice_copy_out-opens c =
    let o = c.in_ok-at.ensures in
    omega (arith, o.place, place_below _ _ o.number, eight_seats c.args.desk.now (place_fits _ _ o.number))

pub bounds-desk-at : goal.bounds-desk-at
bounds-desk-at c =
    let o = c.in_ok-at.ensures in
    omega (arith, o.place, place_below _ _ o.number, eight_seats c.args.desk.now (place_fits _ _ o.number))

pub returns-in_err-desk : goal.returns-in_err-desk
returns-in_err-desk c =
    let o = c.in_ok-at.ensures in
    let x = err_from_is_err_and c.from_residual-in_err-desk.result c.from_residual-in_err-desk.ensures.1 in rw (x.1, x.2) (open_refused c.args.desk.now _ _ _ _ o.number _ o.place _ _ (refused_some _) c.in_err-desk.ensures)

pub returns : goal.returns
returns c = let o = c.in_ok-at.ensures in open_stored c.args.desk.now _ _ _ _ o.number _ o.place _ c.in_ok-desk.ensures
