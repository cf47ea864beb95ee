-- When the entry has gone out of its leaf: all is rightly filled but that leaf, which holds three at least.
-- Assumes nothing.
use Prim.Native.Nat.{ℕ, zero, suc, ◌≤◌}
use mathlib.Core.Path.{sym, subst}
use mathlib.Core.List.{List, [], ◌∷◌}
use lib.Dec.{T}
use native.Mathlib.Omega.{arith}
use Rattle.words.specs.Lists.{All}
use Rattle.xrtree.specs.Tree.{Key, Leaf, Inner, Tree}
use Rattle.xrtree.specs.Rules.{filled_below, filled}
use Rattle.xrtree.specs.Holes.{Post}
use Rattle.xrtree.specs.Holes.Post.{at_key, at_end}
use Rattle.holding.specs.Held.{EveryKid}
use Rattle.steps.specs.Steps.{size, KidsFilled}
use Rattle.room.specs.Ways.{Filled, Behind, Ahead, KidsBut, Way, Below}
use Rattle.room.proofs.Fills.{kids_every, of_filled, of_root, of_root_leaf, to_root_leaf, every_fill, hole_but}
use Rattle.entries.specs.Ways.{Greater}
use Rattle.entries.specs.Changed.{SameKids, SamePost, WayStep, OneLess, Shrunk}
use Rattle.entries.proofs.Alongs.{low_same, high_same}
use Rattle.entries.proofs.Fills.{along_long}

module _ {A : Type 0} where
  -- the children off the way are the same
  all_same : (P : A → Type 0) (a b : List (A × Key)) → SameKids a b → All (λ c. P c.0) a → All (λ c. P c.0) b
  all_same P [] [] s p = tt
  all_same P [] (d ∷ b) s p = absurd s
  all_same P (c ∷ a) [] s p = absurd s
  all_same P (c ∷ a) (d ∷ b) s p = (subst P (sym s.0) p.0, all_same P a b s.2 p.1)

  behind_same : (P : A → Type 0) (a b : Post A) → SamePost a b → Behind P a → Behind P b
  behind_same P (at_key k cs z) (at_key k' cs' z') s p = subst (λ l. EveryKid P l z') (sym s.1) (subst (λ y. EveryKid P cs y) (sym s.2) p)
  behind_same P (at_key k cs z) at_end s p = absurd s
  behind_same P at_end (at_key k' cs' z') s p = absurd s
  behind_same P at_end at_end s p = tt

  ahead : (x : ℕ) (post : Post A) → Greater x post → Ahead x post
  ahead x (at_key k cs z) g = g
  ahead x at_end g = g

-- one page on the way
step_below : (x h : ℕ) (G : Tree h → Tree h → Type 0) (t t' : Tree (suc h)) (a : WayStep x h G t t') → (Filled h a.child → Way 3 8 x h a.child') → KidsFilled (suc h) t → Below 3 8 x h t'
step_below x h G t t' a f k =
    let e = subst (λ (u : Inner (Tree h)). EveryKid (Filled h) u.kids u.last) a.was (kids_every (filled_below h) t.kids t.last k) in
    let o = every_fill (Filled h) a.pre a.post a.child e in
    subst (λ (u : Inner (Tree h)). KidsBut (Filled h) (Way 3 8 x h) x u.kids u.last) (sym a.is)
    (hole_but (Filled h) (Way 3 8 x h) x a.pre' a.post' a.child'
    (low_same x a.pre a.pre' a.before a.low, ahead x a.post' (high_same x a.post a.post' a.after a.high))
    (all_same (Filled h) a.pre a.pre' a.before o.0.0, behind_same (Filled h) a.post a.post' a.after o.0.1) (f o.1))

shrunk_way : (x h : ℕ) (t t' : Tree h) → Shrunk x h t t' → Filled h t → Way 3 8 x h t'
shrunk_way x zero t t' a f = let b = of_filled 0 t f in (omega (arith, a.2, b.0), omega (arith, a.2, b.1))
shrunk_way x (suc h) t t' a f =
    let b = of_filled (suc h) t f in
    let n = along_long OneLess x h t t' a in
    (omega (arith, b.0), omega (arith, b.1), step_below x h (Shrunk x h) t t' a (λ g. shrunk_way x h a.child a.child' a.below g) b.2)

-- A ROOT
pub shrunk_below : (x h : ℕ) (t t' : Tree (suc h)) → Shrunk x (suc h) t t' → T (filled (suc h) t) → Below 3 8 x h t' × (1 ≤ size (suc h) t') × (size (suc h) t' ≤ 8)
shrunk_below x h t t' a f =
    let b = of_root h t f in
    let n = along_long OneLess x h t t' a in
    (step_below x h (Shrunk x h) t t' a (λ g. shrunk_way x h a.child a.child' a.below g) b.2, omega (arith, b.0), omega (arith, b.1))

pub shrunk_leaf : (x : ℕ) (t t' : Leaf) → Shrunk x 0 t t' → T (filled 0 t) → T (filled 0 t')
shrunk_leaf x t t' a f = to_root_leaf t' (omega (arith, a.2, of_root_leaf t f))
