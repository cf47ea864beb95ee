-- What the words say of a tree that they hold: how much a page holds, the rank of x in it, the pages of a path.
-- Assumes nothing.
use Prim.Native.Nat.{ℕ, zero, suc, ◌+◌, ◌≤◌, ◌<◌}
use mathlib.Core.Path.{◌≡◌, sym, ap, ◌∙◌, subst}
use mathlib.Core.List.{List, [], ◌∷◌}
use lib.ListN.{length, get_or}
use native.Mathlib.Omega.{arith}
use Rattle.regions.specs.declared.Region.{Region}
use Rattle.xrtree.specs.Tree.{Key, Tree}
use Rattle.xrtree.specs.Holes.{Post, fill_kids, fill}
use Rattle.xrtree.specs.Holes.Post.{at_key, at_end}
use Rattle.pages.specs.Layout.{root_of, page_of, fill_of, key_word}
use Rattle.image.specs.Read.{read_tree, depth_of}
use Rattle.image.specs.Decode.{keys_from}
use Rattle.image.proofs.Listings.{entries_long}
use Rattle.holding.specs.Held.{place_of, KeysHeld, Held}
use Rattle.standing.proofs.Whole.{tree_is}
use Rattle.steps.specs.Steps.{size}
use Rattle.path.specs.Path.{rank_from, rank_in, child_for, path_from, path_of, down_to, padded}
use Rattle.path.proofs.Ranks.{rank_none, rank_here, rank_on, kid_rank}
use Rattle.path.proofs.Ways.{path_read, down_none, down_on}
use Rattle.room.specs.Ways.{OnWay}
use Rattle.roots.specs.WholeTree.{Whole}
use Rattle.insert.specs.Spreads.{OnPath}

-- a page says how many entries or keys it holds
pub held_size : (w : List ℕ) (h : ℕ) (t : Tree h) → Held w h t → fill_of (page_of w (place_of h t)) ≡ size h t
held_size w zero t g = sym (entries_long (page_of w t.place) 0 (fill_of (page_of w t.place))) ∙ ap length g.entries_are
held_size w (suc h) t g = g.0.fill_is

-- THE RANK of x in a page is the index of the child on its way
module _ {A : Type 0} (w ws : List ℕ) (x : ℕ) where
  rank_held : (i m : ℕ) (pre : List (A × Key)) (post : Post A) (c : A) → KeysHeld w (keys_from ws i m) (fill_kids pre post c) → OnWay x pre post → rank_from ws x i m ≡ i + length pre
  unfolding keys_from
  rank_held i zero [] (at_key k cs last) c g o = absurd g
  rank_held i (suc m) [] (at_key k cs last) c g o =
      let l : x < get_or ws (key_word i) 0 = omega (arith, g.0.key_is, o.1) in
      omega (arith, rank_here ws x i m l)
  rank_held i zero [] at_end c g o = omega (arith, rank_none ws x i)
  rank_held i (suc m) [] at_end c g o = absurd g
  rank_held i zero (d ∷ pre) (at_key k cs last) c g o = absurd g
  rank_held i zero (d ∷ pre) at_end c g o = absurd g
  rank_held i (suc m) (d ∷ pre) (at_key k cs last) c g o =
      let l : get_or ws (key_word i) 0 ≤ x = omega (arith, g.0.key_is, o.0.0) in
      omega (arith, rank_on ws x i m l, rank_held (suc i) m pre (at_key k cs last) c g.1 (o.0.1, o.1))
  rank_held i (suc m) (d ∷ pre) at_end c g o =
      let l : get_or ws (key_word i) 0 ≤ x = omega (arith, g.0.key_is, o.0.0) in
      omega (arith, rank_on ws x i m l, rank_held (suc i) m pre at_end c g.1 (o.0.1, o.1))

pub rank_is : (w : List ℕ) (x h q : ℕ) (pre : List (Tree h × Key)) (post : Post (Tree h)) (c : Tree h) → Held w (suc h) (fill q pre post c) → OnWay x pre post → rank_in (page_of w q) x ≡ length pre
unfolding rank_in
rank_is w x h q pre post c g o = omega (arith, rank_held w (page_of w q) x 0 (fill_of (page_of w q)) pre post c g.0.keys_held o)

-- THE PATH of a tree that is read
on_path : (w : List ℕ) (x h p : ℕ) (path : List ℕ) (at : ℕ) → ((j : ℕ) → j ≤ h → get_or path (at + j) 0 ≡ down_to j w x p) → OnPath path at x h (read_tree h w p)
unfolding read_tree
on_path w x zero p path at f = let e : at + 0 ≡ at = omega arith in rw e at (f 0 (omega arith)) ∙ down_none w x p
on_path w x (suc h) p path at f = (
  let e : at + 0 ≡ at = omega arith in rw e at (f 0 (omega arith)) ∙ down_none w x p,
  subst (OnPath path (suc at) x h) (sym (kid_rank (read_tree h w) w (page_of w p) x)) (on_path w x h (child_for w x p) path (suc at) (λ j l. next j l)),
)
  where
    next : (j : ℕ) → j ≤ h → get_or path (suc at + j) 0 ≡ down_to j w x (child_for w x p)
    next j l = let e : at + suc j ≡ suc at + j = omega arith in rw e at (f (suc j) (omega arith)) ∙ down_on w x j p

-- and of a whole tree that stands
pub whole_path : (w : List ℕ) (x : ℕ) (path : List ℕ) (rs : List Region) (h : ℕ) (t : Tree h) → Whole w rs h t → h ≤ 3 → path ≡ padded (path_from h w x (root_of w)) → OnPath path 0 x h t
whole_path w x path rs h t a l e =
    let d : h ≡ depth_of w = omega (arith, a.height) in
    let is : path ≡ padded (path_of w x) = e ∙ ap (λ k. padded (path_from k w x (root_of w))) d in
    subst (OnPath path 0 x h) (tree_is w rs h t a.stands a.same a.root a.height) (on_path w x h (root_of w) path 0 (λ j u. word is j (omega arith)))
  where
    word : path ≡ padded (path_of w x) → (j : ℕ) → j ≤ depth_of w → get_or path (0 + j) 0 ≡ down_to j w x (root_of w)
    word is j u =
        let z : 0 + j ≡ j = omega arith in
        rw (z, is) (path_read w x j (omega (arith, a.height)) (omega (arith, a.height)) u)
