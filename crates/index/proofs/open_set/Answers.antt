-- `index::open_set` meets its contract: each refusal changes no word, and what is left otherwise is the opened image.
use borrow.Author.Rules.{rules}
use native.Mathlib.Omega.{arith}
use mathlib.Core.Path.{sym, ◌∙◌}
use lib.ListN.{length-set}
use Rattle.index.proofs.Opened.{open_image, open_shares, open_done, image_opened}
use Rattle.index.proofs.open_set.Goals as goal

pub returns-then-img-ne-IMAGE_WORDS : goal.returns-then-img-ne-IMAGE_WORDS
returns-then-img-ne-IMAGE_WORDS c = open_image _ _ c.if-img-ne-IMAGE_WORDS.true

pub returns-then-not-shares_fit : goal.returns-then-not-shares_fit
returns-then-not-shares_fit c = open_shares _ c.args.shares c.if-img-ne-IMAGE_WORDS.false (sym c.shares_fit.ensures ∙ c.if-not-shares_fit.true)

pub returns : goal.returns
returns c =
    open_done c.args.img.now _ c.args.shares (omega arith) (sym c.shares_fit.ensures ∙ c.if-not-shares_fit.false)
    (image_opened c.args.img.now c.fill.new.self c.args.shares c.copy_from_slice.new.self (omega arith) (c.fill.ensures.after (λ y e. e)) c.copy_from_slice.ensures.after)
