-- `listing::read_set` meets its contract.
use Rattle.std.proofs.lemmas.Result.{err_from_is_err_and}
use Rattle.form.specs.Form.{Shares, no_shares}
use Rattle.regions.proofs.Refused.{refused_some}
use Rattle.listing.proofs.Whole.{set_refused, set_shares, set_opened, set_read}
use Rattle.listing.proofs.read_set.Goals as goal

pub returns-in_err-g : goal.returns-in_err-g
returns-in_err-g c =
    let p = err_from_is_err_and c.from_residual.result c.from_residual.ensures.1 in
    rw (p.1, p.2) (set_refused c.args.text.now c.args.line c.args.at _ _ _ no_shares _ _ c.in_err-g.ensures (refused_some c.in_err-g.field-0.0.refusal))

pub read_regions-requires-clause-img_empty : goal.read_regions-requires-clause-img_empty
read_regions-requires-clause-img_empty c =
    let s : Shares = record { sixteen = c.in_ok-g.g.shares; from = c.in_ok-g.g.from } in
    set_opened c.args.text.now c.args.line c.args.at _ _ s c.in_ok-g.ensures _ _ c.in-Ok.ensures

pub returns-in-Ok : goal.returns-in-Ok
returns-in-Ok c =
    let s : Shares = record { sixteen = c.in_ok-g.g.shares; from = c.in_ok-g.g.from } in
    set_read c.args.text.now c.args.line c.args.at _ _ s c.in_ok-g.ensures c.args.img.now _ c.in-Ok.ensures _ _ _ _ c.requires.img_len c.read_regions.ensures

pub returns-in-Err : goal.returns-in-Err
returns-in-Err c =
    let s : Shares = record { sixteen = c.in_ok-g.g.shares; from = c.in_ok-g.g.from } in
    set_shares c.args.text.now c.args.line c.args.at _ _ s c.in_ok-g.ensures c.args.img.now _ _ _ c.requires.img_len c.in-Err.ensures (refused_some c.in-Err.refusal)
