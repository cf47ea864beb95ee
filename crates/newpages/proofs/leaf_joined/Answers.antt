-- `newpages::leaf_joined` meets its contract: the calls leave the words that the law speaks of.
use mathlib.Core.Path.{refl}
use Rattle.pages.specs.Layout.{fill_of}
use borrow.Author.Rules.{rules}
use Rattle.newpages.proofs.Leaves.{leaf_joined_is}
use Rattle.newpages.proofs.leaf_joined.Goals as goal

pub returns : goal.returns
returns c =
    rw (c.headed.ensures, c.copied-moved.ensures, c.entry_word-a.ensures)
    (leaf_joined_is c.args.left c.args.right (search rules) (search rules) (fill_of c.args.left) (fill_of c.args.right) refl refl c.requires)
