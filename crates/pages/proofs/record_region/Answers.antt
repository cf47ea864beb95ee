-- `pages::record_region` meets its contract: four words, one for each part of the region.
use Rattle.pages.proofs.record_region.Goals as goal

pub returns : goal.returns
returns c =
    λ i. record { start = c.record_word.ensures i; end = c.record_word-2.ensures i; level = c.record_word-3.ensures i; reference = c.record_word-4.ensures i }
