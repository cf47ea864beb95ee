-- `newpages::set_key` meets its contract: the key's words are written.
use borrow.Author.Rules.{rules}
use Rattle.newpages.proofs.Inners.{set_key_is}
use Rattle.newpages.proofs.set_key.Goals as goal

pub returns : goal.returns
returns c =
    rw (c.put_key.ensures, c.key_word.ensures) (set_key_is c.args.ws (search rules) c.args.i c.args.k c.requires.0 c.requires.1)
