-- `pages::record_word` meets its contract: the record's first word and i words more.
use Rattle.pages.proofs.Placed.{record_word_is}
use Rattle.pages.proofs.record_word.Goals as goal

pub returns : goal.returns
returns c = record_word_is c.args.img.now _ _ _ _ c.requires c.record_at.ensures c.word.ensures
