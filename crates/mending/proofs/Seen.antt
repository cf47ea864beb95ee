-- What the words say of a page and its children: how much each holds, and which child x belongs to.
-- Assumes nothing.
use Prim.Native.Nat.{ℕ, zero, suc, ◌+◌}
use mathlib.Core.Path.{◌≡◌, ap, ◌∙◌, sym}
use mathlib.Core.List.{List, [], ◌∷◌}
use lib.ListN.{length}
use native.Mathlib.Omega.{arith}
use Rattle.regions.specs.declared.Region.{Region}
use Rattle.pages.specs.Layout.{page_of, fill_of, child_in}
use Rattle.xrtree.specs.Tree.{Key, Tree}
use Rattle.xrtree.specs.Holes.{Post, fill_kids, fill}
use Rattle.xrtree.specs.Holes.Post.{at_key, at_end}
use Rattle.image.specs.Decode.{keys_from}
use Rattle.path.specs.Path.{rank_from, rank_in}
use Rattle.path.proofs.Ranks.{rank_none, rank_here, rank_on}
use Rattle.holding.specs.Held.{KeysHeld, Held, place_of}
use Rattle.standing.specs.Stands.{Around, Stands}
use Rattle.newkey.proofs.Flagging.{entries_long}
use Rattle.steps.specs.Steps.{size, ChildAt}
use Rattle.room.specs.Ways.{OnWay}
use Rattle.split.proofs.Seen.{child_is, child_stands}

-- what a child's words say, read in steps
pub child_read : (w : List ℕ) (q i p n : ℕ) → p ≡ child_in (page_of w q) i → n ≡ fill_of (page_of w p) → n ≡ fill_of (page_of w (child_in (page_of w q) i))
child_read w q i p n a b = b ∙ ap (λ z. fill_of (page_of w z)) a

-- HOW MUCH A PAGE HOLDS
pub fill_size : (w : List ℕ) (h : ℕ) (t : Tree h) → Held w h t → fill_of (page_of w (place_of h t)) ≡ size h t
fill_size w zero t g = sym (entries_long (page_of w t.place) 0 (fill_of (page_of w t.place))) ∙ ap length g.entries_are
fill_size w (suc h) t g = g.0.fill_is

pub child_size : {w : List ℕ} {h q i : ℕ} (s : ChildAt w h q i) → fill_of (page_of w (child_in (page_of w q) i)) ≡ size h s.child
child_size {w} {h} s = ap (λ p. fill_of (page_of w p)) (child_is s) ∙ fill_size w h s.child (child_stands s).held

-- THE RANK
module _ {A : Type 0} (w ws : List ℕ) (x : ℕ) where
  pub rank_go : (i m : ℕ) (pre : List (A × Key)) (post : Post A) (t : A) → KeysHeld w (keys_from ws i m) (fill_kids pre post t) → OnWay x pre post → rank_from ws x i m ≡ i + length pre
  unfolding keys_from
  rank_go i zero [] (at_key k cs last) t g o = absurd g
  rank_go i (suc m) [] (at_key k cs last) t g o = rank_here ws x i m (omega (arith, g.0.key_is, o.1)) ∙ omega arith
  rank_go i zero [] at_end t g o = rank_none ws x i ∙ omega arith
  rank_go i (suc m) [] at_end t g o = absurd g
  rank_go i zero (c ∷ pre) (at_key k cs last) t g o = absurd g
  rank_go i (suc m) (c ∷ pre) (at_key k cs last) t g o =
      rank_on ws x i m (omega (arith, g.0.key_is, o.0.0)) ∙ rank_go (suc i) m pre (at_key k cs last) t g.1 (o.0.1, o.1) ∙ omega arith
  rank_go i zero (c ∷ pre) at_end t g o = absurd g
  rank_go i (suc m) (c ∷ pre) at_end t g o =
      rank_on ws x i m (omega (arith, g.0.key_is, o.0.0)) ∙ rank_go (suc i) m pre at_end t g.1 (o.0.1, o.1) ∙ omega arith

pub rank_is : (w : List ℕ) (rs : List Region) (h lo hi q : ℕ) (pre : List (Tree h × Key)) (post : Post (Tree h)) (child : Tree h) (o : Around) (x : ℕ)
    → Stands w rs (suc h) lo hi (fill q pre post child) o → OnWay x pre post → rank_in (page_of w q) x ≡ length pre
unfolding rank_in
rank_is w rs h lo hi q pre post child o x s y = rank_go w (page_of w q) x 0 (fill_of (page_of w q)) pre post child s.held.0.keys_held y ∙ omega arith
