-- `pages::region_at` meets its contract: four words, one for each part of the region.
use Rattle.pages.proofs.region_at.Goals as goal

pub returns : goal.returns
returns c =
    λ i. record { start = c.page_word.ensures i; end = c.page_word-2.ensures i; level = c.page_word-3.ensures i; reference = c.page_word-4.ensures i }
