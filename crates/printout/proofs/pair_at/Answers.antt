-- `printout::pair_at` meets its contract: word by word.
use borrow.Author.Rules.{rules}
use Prim.Native.Nat.{◌*◌}
use Rattle.printout.proofs.Texts.{four_words}
use Rattle.printout.proofs.pair_at.Goals as goal

pub returns : goal.returns
returns c = four_words c.args.words.now (4 * c.args.i) (search rules)
