-- `newpages::leaf_without` meets its contract: the calls leave the words that the law speaks of.
use mathlib.Core.Path.{refl}
use borrow.Author.Rules.{rules}
use native.Mathlib.Omega.{arith}
use Prim.Native.Nat.{◌-◌}
use Rattle.pages.specs.Layout.{fill_of}
use Rattle.newpages.proofs.Leaves.{leaf_without_is}
use Rattle.newpages.proofs.leaf_without.Goals as goal

pub returns : goal.returns
returns c =
    rw (c.headed.ensures, c.copied-moved.ensures, c.entry_word-a.ensures)
    (leaf_without_is c.args.ws (search rules) c.args.i (fill_of c.args.ws) (fill_of c.args.ws - 1) refl c.requires.0 c.requires.1 (omega arith))
