-- `listing::take_region` meets its contract.
use Rattle.std.proofs.lemmas.Result.{err_from_is_err_and}
use Rattle.regions.proofs.Refused.{refused_some}
use Rattle.listing.proofs.Regions.{takes_form, takes_none, takes_saved}
use Rattle.listing.proofs.take_region.Goals as goal

pub returns-in_default : goal.returns-in_default
returns-in_default c = takes_form _ _ c.args.img.now _ _ c.requires.counted.0 c.in_default.ensures

pub returns-in_err-save_kept : goal.returns-in_err-save_kept
returns-in_err-save_kept c =
    let p = err_from_is_err_and c.from_residual.result c.from_residual.ensures.1 in
    let (s, v, k) = c.in_err-save_kept.ensures.saves in
    rw (p.1, p.2) (takes_none _ _ c.args.img.now _ _ c.in-Some.ensures _ c.account_of-account.ensures _ _ _ _ s v (refused_some c.in_err-save_kept.field-0.0))

pub returns : goal.returns
returns c = let (s, v, k) = c.in_ok-save_kept.ensures.saves in takes_saved _ _ c.args.img.now _ _ c.in-Some.ensures _ c.account_of-account.ensures _ _ s v k
