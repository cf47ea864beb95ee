-- `newpages::inner_right` meets its contract: the calls leave the words that the law speaks of.
use Rattle.pages.specs.Layout.{fill_of}
use borrow.Author.Rules.{rules}
use native.Mathlib.Omega.{arith}
use Prim.Native.Nat.{◌+◌, ◌-◌}
use Rattle.newpages.proofs.Inners.{inner_right_is}
use Rattle.newpages.proofs.inner_right.Goals as goal

pub returns : goal.returns
returns c =
    rw (c.headed.ensures, c.copied-moved.ensures, c.copied-keyed.ensures, c.child_word-b.ensures, c.key_word-a.ensures)
    (inner_right_is c.args.ws (search rules) c.args.c (fill_of c.args.ws - (c.args.c + 1)) (omega arith) c.requires.0 c.requires.1)
