-- `desk::round` meets its contract: by its number, and where that is 0 by what all eight turns do.
use Rattle.std.proofs.lemmas.Result.{err_from_is_err_and}
use Rattle.regions.proofs.Refused.{refused_some}
use Rattle.desk.proofs.Served.{told_number, may_serve, round_refused, round_served}
use Rattle.desk.proofs.round.Goals as goal

pub returns-in_err-may_round : goal.returns-in_err-may_round
returns-in_err-may_round c =
    let a = c.args in
    let x = err_from_is_err_and c.from_residual.result c.from_residual.ensures.1 in rw (x.1, x.2)
    (round_refused _ _ _ _ _ (told_number a.outer.now a.inner.now a.desk.now a.buffer.now _ _ _ c.in_err-may_round.ensures c.images_valid-images.ensures c.desk_fits.ensures) (refused_some _))

pub serve-requires : goal.serve-requires
serve-requires c =
    let a = c.args in
    may_serve _ _ _ _ (told_number a.outer.now a.inner.now a.desk.now a.buffer.now _ _ _ c.in_ok-may_round.ensures c.images_valid-images.ensures c.desk_fits.ensures)

pub returns : goal.returns
returns c =
    let a = c.args in
    round_served _ _ _ _ _ _ _ (told_number a.outer.now a.inner.now a.desk.now a.buffer.now _ _ _ c.in_ok-may_round.ensures c.images_valid-images.ensures c.desk_fits.ensures) c.serve.ensures
