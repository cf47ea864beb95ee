-- For those who put the fills right: a tree that changed along one way has its fills but for the leaf at the end of the way.
-- Assumes nothing.
use Prim.Native.Nat.{ℕ, suc}
use mathlib.Core.Path.{◌≡◌, refl, sym, ap, ◌∙◌}
use mathlib.Core.List.{List, [], ◌∷◌}
use lib.ListN.{length}
use Rattle.xrtree.specs.Tree.{Key, Leaf, Inner, Tree}
use Rattle.xrtree.specs.Holes.{Post, fill_kids}
use Rattle.xrtree.specs.Holes.Post.{at_key, at_end}
use Rattle.entries.specs.Changed.{SameKids, SamePost, WayStep, Along}

-- THE CHILDREN off the way are the same, so what every child passes is decided by the one on it
module _ {A : Type 0} where
  pub kids_long : (pre pre' : List (A × Key)) (post post' : Post A) (c c' : A) → SameKids pre pre' → SamePost post post' → length (fill_kids pre' post' c') ≡ length (fill_kids pre post c)
  kids_long [] [] (at_key k cs z) (at_key k' cs' z') c c' a b = ap (λ l. suc (length l)) b.1
  kids_long [] [] (at_key k cs z) at_end c c' a b = absurd b
  kids_long [] [] at_end (at_key k' cs' z') c c' a b = absurd b
  kids_long [] [] at_end at_end c c' a b = refl
  kids_long [] (d ∷ pre') post post' c c' a b = absurd a
  kids_long (d ∷ pre) [] post post' c c' a b = absurd a
  kids_long (d ∷ pre) (d' ∷ pre') (at_key k cs z) (at_key k' cs' z') c c' a b = ap suc (kids_long pre pre' (at_key k cs z) (at_key k' cs' z') c c' a.2 b)
  kids_long (d ∷ pre) (d' ∷ pre') (at_key k cs z) at_end c c' a b = absurd b
  kids_long (d ∷ pre) (d' ∷ pre') at_end (at_key k' cs' z') c c' a b = absurd b
  kids_long (d ∷ pre) (d' ∷ pre') at_end at_end c c' a b = ap suc (kids_long pre pre' at_end at_end c c' a.2 b)

module _ (R : Leaf → Leaf → Type 0) (x : ℕ) where
  -- a page on the way has as many keys as before
  pub along_long : (h : ℕ) (t t' : Inner (Tree h)) → WayStep x h (Along R x h) t t' → length t'.kids ≡ length t.kids
  along_long h t t' a =
      ap (λ (u : Inner (Tree h)). length u.kids) a.is ∙ kids_long a.pre a.pre' a.post a.post' a.child a.child' a.before a.after
      ∙ sym (ap (λ (u : Inner (Tree h)). length u.kids) a.was)
