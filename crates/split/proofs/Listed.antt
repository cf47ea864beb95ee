-- What is listed of a page after a child of it became two: regions, leaves and pages by lists, records by counts.
-- Assumes nothing.
use Prim.Native.Nat.{ℕ, suc, ◌+◌}
use mathlib.Core.Path.{◌≡◌, ap, ◌∙◌}
use mathlib.Core.List.{List, [], ◌∷◌, ◌++◌}
use Rattle.words.specs.Lists.{count}
use Rattle.xrtree.specs.Tree.{Key, Tree, Listing, listed, list_records, record_places}
use Rattle.xrtree.specs.Holes.{Post, fill}
use Rattle.xrtree.proofs.Holes.{before_kids, after_kids}
use Rattle.steps.specs.Steps.{rekeyed, next_places}
use Rattle.steps.proofs.Listed.{Keyless, after_rekeyed, pair_listed, rest_records, rest_rekeyed, pair_records}

pub split_listed : {B : Type 0} (L : Listing B) (s : Keyless L) (h q : ℕ) (pre : List (Tree h × Key)) (post : Post (Tree h)) (l r : Tree h) (k j : Key)
    → listed L (suc h) (fill q (pre ++ (l, k) ∷ []) (rekeyed post j) r) ≡ L.on_page q 0 ++ (before_kids L h pre ++ ((listed L h l ++ listed L h r) ++ after_kids L h post))
split_listed {B} L s h q pre post l r k j =
    pair_listed L s h q pre (rekeyed post j) l r k
    ∙ ap (λ (z : List B). L.on_page q 0 ++ (before_kids L h pre ++ ((listed L h l ++ listed L h r) ++ z))) (after_rekeyed L s h post j)

pub split_records : (h q x : ℕ) (pre : List (Tree h × Key)) (post : Post (Tree h)) (l r : Tree h) (k j : Key)
    → count x (record_places (suc h) (fill q (pre ++ (l, k) ∷ []) (rekeyed post j) r))
    ≡ count x (before_kids list_records h pre) + count x (record_places h l) + count x k.places + count x (record_places h r) + count x (next_places (rekeyed post j)) + count x (rest_records h post)
split_records h q x pre post l r k j = pair_records h q x pre (rekeyed post j) l r k ∙ rw (rest_rekeyed h post j)
