-- `newpages::set_flag` meets its contract: one word is written.
use borrow.Author.Rules.{rules}
use Rattle.newpages.proofs.Leaves.{set_flag_is}
use Rattle.newpages.proofs.set_flag.Goals as goal

pub returns : goal.returns
returns c =
    rw c.entry_word.ensures (set_flag_is c.args.ws (search rules) c.args.i c.args.flag c.requires.0 c.requires.1)
