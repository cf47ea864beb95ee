-- `split::store_split` meets its contract: three stores at three places.
use borrow.Author.Rules.{rules}
use Rattle.split.proofs.Storing.{stored_by}
use Rattle.split.proofs.store_split.Goals as goal

pub returns : goal.returns
returns c =
    let a = c.requires in
    stored_by _ _ _ _ c.args.p c.args.r c.args.q c.args.left c.args.right c.args.above
    c.store_page.ensures c.store_page-2.ensures c.store_page-3.ensures
    (record { long = a.0; p_low = a.1; p_high = a.2; r_low = a.3; r_high = a.4; q_low = a.5; q_high = a.6; p_r = a.7; p_q = a.8; r_q = a.9 })
    (search rules) (search rules) (search rules)
