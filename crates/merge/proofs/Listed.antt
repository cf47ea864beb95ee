-- What is listed of a page after two children of it became one: regions, leaves and pages by lists, records by counts.
-- Assumes nothing.
use Prim.Native.Nat.{ℕ, suc, ◌+◌}
use mathlib.Core.Path.{◌≡◌, ap, ◌∙◌}
use mathlib.Core.List.{List, ◌++◌}
use Rattle.words.specs.Lists.{count}
use Rattle.xrtree.specs.Tree.{Key, Tree, Listing, listed, list_records, record_places}
use Rattle.xrtree.specs.Holes.{Post, fill}
use Rattle.xrtree.proofs.Holes.{before_kids, after_kids}
use Rattle.steps.specs.Steps.{rekeyed, next_places}
use Rattle.steps.proofs.Listed.{Keyless, after_rekeyed, page_listed, rest_records, rest_rekeyed, page_records}

-- one child, before a key whose list is another
pub joined_listed : {B : Type 0} (L : Listing B) (s : Keyless L) (h q : ℕ) (pre : List (Tree h × Key)) (post : Post (Tree h)) (t : Tree h) (j : Key)
    → listed L (suc h) (fill q pre (rekeyed post j) t) ≡ L.on_page q 0 ++ (before_kids L h pre ++ (listed L h t ++ after_kids L h post))
joined_listed {B} L s h q pre post t j =
    page_listed L s h q pre (rekeyed post j) t ∙ ap (λ (z : List B). L.on_page q 0 ++ (before_kids L h pre ++ (listed L h t ++ z))) (after_rekeyed L s h post j)

pub joined_records : (h q x : ℕ) (pre : List (Tree h × Key)) (post : Post (Tree h)) (t : Tree h) (j : Key)
    → count x (record_places (suc h) (fill q pre (rekeyed post j) t))
    ≡ count x (before_kids list_records h pre) + count x (record_places h t) + count x (next_places (rekeyed post j)) + count x (rest_records h post)
joined_records h q x pre post t j = page_records h q x pre (rekeyed post j) t ∙ rw (rest_rekeyed h post j)
