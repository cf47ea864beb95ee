-- `newpages::inner_left` meets its contract: only the head is written.
use borrow.Author.Rules.{rules}
use Rattle.newpages.proofs.Inners.{inner_left_is}
use Rattle.newpages.proofs.inner_left.Goals as goal

pub returns : goal.returns
returns c =
    rw c.headed.ensures (inner_left_is c.args.ws (search rules) c.args.c c.requires.1)
