-- `refuse::is_full` meets its contract.
use Rattle.refuse.proofs.Numbers.{full_is}
use Rattle.refuse.proofs.is_full.Goals as goal

pub returns : goal.returns
returns c = full_is c.args.img.now c.args.held c.args.account _ c.requires.account_lt_account_count.0 c.requires.account_lt_account_count.1 c.word-share.ensures
