-- What the path of a start says of the tree in the words: its inner pages have at most nine keys, its last page is the leaf, and the owner along it is the tree's.
-- Assumes nothing.
use Prim.Native.Nat.{ℕ, zero, suc, ◌≤◌}
use mathlib.Core.Path.{◌≡◌, refl, sym, ap, ◌∙◌, subst}
use mathlib.Core.Bool.{Bool, ◌&&◌}
use mathlib.Core.List.{List, [], ◌∷◌}
use lib.Dec.{T, ltb, leb}
use lib.ListN.{length, get_or, take}
use native.Mathlib.Omega.{arith}
use Rattle.words.specs.Lists.{All}
use Rattle.words.proofs.Tests.{by_test, and_left, and_right}
use Rattle.pages.specs.Layout.{root_of, page_of, fill_of, child_in, record_used}
use Rattle.xrtree.specs.Tree.{Key, Leaf, Tree, all_kids}
use Rattle.xrtree.specs.Rules.{filled, filled_below}
use Rattle.image.specs.Read.{kids_from, read_tree}
use Rattle.image.proofs.Fills.{within_facts}
use Rattle.image.proofs.Listings.{kids_long}
use Rattle.path.specs.Path.{child_for, path_from, down_to, padded, kid_for}
use Rattle.path.proofs.Ranks.{kid_rank}
use Rattle.owners.specs.Owners.{owner_along}
use Rattle.holding.specs.Held.{place_of, EveryKid}
use Rattle.holding.proofs.Reading.{held_read}
use Rattle.standing.specs.Stands.{Roomy}
use Rattle.standing.proofs.Whole.{keys_short}
use Rattle.entries.specs.Ways.{leaf_on}
use Rattle.entries.specs.Owners.{spot_of, inside_from}
use Rattle.entries.specs.Lies.{Lies}
use Rattle.entries.proofs.Leafs.{leaf_read}
use Rattle.entries.proofs.Owning.{owner_read}
use Rattle.entries.proofs.Alongs.{way_places}

-- FOUR WORDS
inside_path : (w : List ℕ) (x h p : ℕ) → h ≤ 3 → take h (padded (path_from h w x p)) ≡ inside_from h w x p
unfolding padded path_from inside_from
inside_path w x zero p l = refl
inside_path w x (suc zero) p l = refl
inside_path w x (suc (suc zero)) p l = refl
inside_path w x (suc (suc (suc zero))) p l = refl
inside_path w x (suc (suc (suc (suc h)))) p l = absurd (omega arith)

last_path : (w : List ℕ) (x h p : ℕ) → h ≤ 3 → get_or (padded (path_from h w x p)) h 0 ≡ down_to h w x p
unfolding padded path_from down_to
last_path w x zero p l = refl
last_path w x (suc zero) p l = refl
last_path w x (suc (suc zero)) p l = refl
last_path w x (suc (suc (suc zero))) p l = refl
last_path w x (suc (suc (suc (suc h)))) p l = absurd (omega arith)

-- THE TREE THAT IS READ
every_kid : {A : Type 0} (P : A → Type 0) (x : ℕ) (cs : List (A × Key)) (last : A) → EveryKid P cs last → P (kid_for x cs last)
unfolding kid_for
every_kid P x [] last g = g
every_kid P x (c ∷ cs) last g = by_test (ltb x c.1.key) (λ t. rw t g.0) (λ t. rw t (every_kid P x cs last g.1))

inside_fills : (w : List ℕ) (x h p : ℕ) → Roomy h (read_tree h w p) → All (λ q. fill_of (page_of w q) ≤ 9) (inside_from h w x p)
unfolding read_tree inside_from
inside_fills w x zero p r = tt
inside_fills w x (suc h) p r =
    let n = fill_of (page_of w p) in (
      subst (λ k. k ≤ 9) (kids_long (read_tree h w) w (page_of w p) 0 n) r.0,
      inside_fills w x h (child_for w x p)
          (subst (Roomy h) (kid_rank (read_tree h w) w (page_of w p) x) (every_kid (Roomy h) x (kids_from (read_tree h w) w (page_of w p) 0 n) (read_tree h w (child_in (page_of w p) n)) r.1)),
    )

path_read : (w : List ℕ) (x h p : ℕ) → path_from h w x p ≡ way_places x h (read_tree h w p)
unfolding path_from read_tree way_places
path_read w x zero p = refl
path_read w x (suc h) p = ap (p ∷◌) (path_read w x h (child_for w x p) ∙ sym (ap (way_places x h) (kid_rank (read_tree h w) w (page_of w p) x)))

-- A TREE THAT LIES IN THE WORDS
module _ (w : List ℕ) (h : ℕ) (t : Tree h) (a : Lies w h t) (root : root_of w ≡ place_of h t) where
  read_is : read_tree h w (root_of w) ≡ t
  read_is = ap (read_tree h w) root ∙ held_read h w t a.held (keys_short (record_used w) h t a.records)

  pub path_places : (x : ℕ) → path_from h w x (root_of w) ≡ way_places x h t
  path_places x = path_read w x h (root_of w) ∙ ap (way_places x h) read_is

  module _ (path : List ℕ) (x d : ℕ) (low : h ≤ 3) (is : path ≡ padded (path_from h w x (root_of w))) (deep : d ≡ h) where
    inside : take d path ≡ inside_from h w x (root_of w)
    inside = rw (is, deep) (inside_path w x h (root_of w) low)

    pub path_fills : All (λ q. fill_of (page_of w q) ≤ 9) (take d path)
    path_fills = subst (All (λ q. fill_of (page_of w q) ≤ 9)) (sym inside) (inside_fills w x h (root_of w) (subst (Roomy h) (sym read_is) a.roomy))

    pub path_leaf : get_or path d 0 ≡ (leaf_on x h t).place
    path_leaf = rw (is, deep) (last_path w x h (root_of w) low ∙ at (down_to h w x (root_of w)) ∙ ap (λ (l : Leaf). l.place) (sym (leaf_read w x h (root_of w)) ∙ ap (leaf_on x h) read_is))
      where
        at : (p : ℕ) → p ≡ (read_tree 0 w p).place
        at p = unfold read_tree in refl

    pub path_owner : (e : ℕ) → x ≤ e → owner_along w x e (take d path) ≡ spot_of x e h t
    path_owner e l = ap (owner_along w x e) inside ∙ owner_read w x e l h (root_of w) ∙ ap (spot_of x e h) read_is

-- A LEAF of a tree with right fills has room for one more
filled_kid : {A : Type 0} (x : ℕ) (g : A → Bool) (cs : List (A × Key)) (last : A) → T (all_kids g cs last) → T (g (kid_for x cs last))
unfolding all_kids kid_for
filled_kid x g [] last f = f
filled_kid x g (c ∷ cs) last f = by_test (ltb x c.1.key) (λ t. rw t (and_left (g c.0) _ f)) (λ t. rw t (filled_kid x g cs last (and_right (g c.0) _ f)))

below_leaf : (x h : ℕ) (t : Tree h) → T (filled_below h t) → length (leaf_on x h t).entries ≤ 8
unfolding filled_below leaf_on
below_leaf x zero t f = (within_facts 4 8 (length t.entries) f).1
below_leaf x (suc h) t f =
    below_leaf x h (kid_for x t.kids t.last) (filled_kid x (filled_below h) t.kids t.last (and_right (leb 4 (length t.kids) && leb (length t.kids) 8) _ f))

pub filled_leaf : (x h : ℕ) (t : Tree h) → T (filled h t) → length (leaf_on x h t).entries ≤ 8
unfolding filled leaf_on
filled_leaf x zero t f = (within_facts 0 8 (length t.entries) f).1
filled_leaf x (suc h) t f =
    below_leaf x h (kid_for x t.kids t.last) (filled_kid x (filled_below h) t.kids t.last (and_right (leb 1 (length t.kids) && leb (length t.kids) 8) _ f))
