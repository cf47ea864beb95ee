-- `newpages::leaf_right` meets its contract: the calls leave the words that the law speaks of.
use mathlib.Core.Path.{refl}
use Rattle.pages.specs.Layout.{fill_of}
use borrow.Author.Rules.{rules}
use Prim.Native.Nat.{◌-◌}
use Rattle.newpages.proofs.Leaves.{leaf_right_is}
use Rattle.newpages.proofs.leaf_right.Goals as goal

pub returns : goal.returns
returns c =
    rw (c.headed.ensures, c.copied-moved.ensures, c.entry_word-a.ensures)
    (leaf_right_is c.args.ws (search rules) c.args.c (fill_of c.args.ws - c.args.c) refl c.requires.0 c.requires.1)
