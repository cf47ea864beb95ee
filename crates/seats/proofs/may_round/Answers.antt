-- `seats::may_round` meets its contract: by the tests that led to each answer.
use borrow.Author.Tests.{eq-eqb, ne_eqb}
use Rattle.words.specs.Lists.{first_no}
use Rattle.seats.proofs.may_round.Goals as goal

pub returns-then-not-images : goal.returns-then-not-images
unfolding first_no
returns-then-not-images c = simp (c.if-not-images.true)

pub returns-then-not-desk : goal.returns-then-not-desk
unfolding first_no
returns-then-not-desk c = simp (c.if-not-images.false, c.if-not-desk.true)

pub returns-then-words-ne-BUFFER_WORDS : goal.returns-then-words-ne-BUFFER_WORDS
unfolding first_no
returns-then-words-ne-BUFFER_WORDS c = simp (c.if-not-images.false, c.if-not-desk.false, ne_eqb _ _ c.if-words-ne-BUFFER_WORDS.true)

pub returns : goal.returns
unfolding first_no
returns c = simp (c.if-not-images.false, c.if-not-desk.false, eq-eqb _ _ c.if-words-ne-BUFFER_WORDS.false)
