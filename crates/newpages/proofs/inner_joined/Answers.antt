-- `newpages::inner_joined` meets its contract: the calls leave the words that the law speaks of.
use mathlib.Core.Path.{refl}
use borrow.Author.Rules.{rules}
use native.Mathlib.Omega.{arith}
use Prim.Native.Nat.{◌+◌}
use Rattle.pages.specs.Layout.{fill_of}
use Rattle.newpages.proofs.Inners.{inner_joined_is}
use Rattle.newpages.proofs.inner_joined.Goals as goal

pub returns : goal.returns
returns c =
    rw (c.headed.ensures, c.copied-moved.ensures, c.copied-keyed.ensures, c.put_key-put.ensures, c.child_word-b.ensures, c.key_word-a.ensures)
    (inner_joined_is c.args.left c.args.right (search rules) (search rules) (fill_of c.args.left) (fill_of c.args.right) (fill_of c.args.left + fill_of c.args.right + 1) c.args.k refl refl
    c.requires (omega arith))
