-- A save or a delete changes its owner's list, and no region of a leaf: the tree keeps its regions.
-- Assumes nothing.
use Prim.Native.Nat.{ℕ, zero, suc}
use mathlib.Core.Path.{◌≡◌, refl, ap}
use mathlib.Core.List.{List, [], ◌∷◌, ◌++◌}
use lib.Dec.{leb, ltb}
use Rattle.words.proofs.Tests.{by_test}
use Rattle.regions.specs.declared.Region.{Region}
use Rattle.xrtree.specs.Tree.{Key, Tree, weave, listed, regions}
use Rattle.xrtree.specs.Claims.{regions_in}
use Rattle.xrtree.specs.Moves.{own_kids, own}

-- the owner's list may change: no region of a leaf does
own_weave : (g : List Region → List Region) (w : Key → List ℕ) (r : Region) (h : ℕ) → ((c : Tree h) → regions h (own g w r h c) ≡ regions h c) → (cs : List (Tree h × Key)) (last : Tree h)
    → regions_in h (own_kids (own g w r h) g w r cs last).0 (own_kids (own g w r h) g w r cs last).1 ≡ regions_in h cs last
unfolding weave own_kids
own_weave g w r h ih [] last = ih last
own_weave g w r h ih (c ∷ cs) last =
    by_test (ltb c.1.key r.start) (λ t. rw t (ap (λ (z : List Region). regions h c.0 ++ z) (own_weave g w r h ih cs last)))
    (λ t. rw t (by_test (leb c.1.key r.end) (λ s. rw s) (λ s. rw s (ap (λ (z : List Region). z ++ regions_in h cs last) (ih c.0)))))

pub own_regions : (g : List Region → List Region) (w : Key → List ℕ) (r : Region) (h : ℕ) (t : Tree h) → regions h (own g w r h t) ≡ regions h t
unfolding listed own
own_regions g w r zero t = refl
own_regions g w r (suc h) t = own_weave g w r h (λ c. own_regions g w r h c) t.kids t.last
