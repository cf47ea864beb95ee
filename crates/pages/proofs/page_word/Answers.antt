-- `pages::page_word` meets its contract: the page's first word and i words more.
use Rattle.pages.proofs.Placed.{page_word_is}
use Rattle.pages.proofs.page_word.Goals as goal

pub returns : goal.returns
returns c = page_word_is c.args.img.now _ _ _ _ c.requires c.page_at.ensures c.word.ensures
