-- `newpages::leaf_left` meets its contract: only the head is written.
use borrow.Author.Rules.{rules}
use Rattle.newpages.proofs.Leaves.{leaf_left_is}
use Rattle.newpages.proofs.leaf_left.Goals as goal

pub returns : goal.returns
returns c =
    rw c.headed.ensures (leaf_left_is c.args.ws (search rules) c.args.c c.args.next c.requires.1)
