-- `newpages::inner_without` meets its contract: the calls leave the words that the law speaks of.
use borrow.Author.Rules.{rules}
use native.Mathlib.Omega.{arith}
use Prim.Native.Nat.{◌+◌, ◌-◌}
use Rattle.pages.specs.Layout.{fill_of}
use Rattle.newpages.proofs.Inners.{inner_without_is}
use Rattle.newpages.proofs.inner_without.Goals as goal

pub returns : goal.returns
returns c =
    rw (c.headed.ensures, c.copied-moved.ensures, c.copied-keyed.ensures, c.child_word-b.ensures, c.key_word-a.ensures)
    (inner_without_is c.args.ws (search rules) c.args.i (fill_of c.args.ws - (c.args.i + 1)) (fill_of c.args.ws - 1) (omega arith) c.requires.0 c.requires.1 (omega arith))
