-- A tree around a part of it; the way of a start down to its leaf, and what is done to the leaf at its end.
-- Assumes nothing.
use Rattle.std.specs.Prelude.{ℕ, zero, suc, ◌≤◌, ◌<◌, cond, List, [], ◌∷◌, ltb}
use Rattle.words.specs.Lists.{All}
use Rattle.xrtree.specs.Tree.{Entry, Key, Leaf, Tree}
use Rattle.xrtree.specs.Claims.{leaf_at, page_at}
use Rattle.xrtree.specs.Holes.{Post, fill}
use Rattle.xrtree.specs.Holes.Post.{at_key, at_end}
use Rattle.path.specs.Path.{kid_for}

-- AROUND A PART of height m in a tree of height h: on each page the place, the keys before the way, what follows it
pub data Below (m : ℕ) : ℕ → Type 0 where
  here : Below m m
  down : {h : ℕ} → ℕ → List (Tree h × Key) → Post (Tree h) → Below m h → Below m (suc h)

unfoldable pub within : {m h : ℕ} → Below m h → Tree m → Tree h
within here t = t
within (down q pre post c) t = fill q pre post (within c t)

-- a way on which x lies: keys at most x before it, a greater one behind it
abbrev pub Greater : {A : Type 0} → ℕ → Post A → Type 0
Greater x (at_key k cs last) = x < k.key
Greater x at_end = Unit {0}

abbrev pub On : ℕ → {m h : ℕ} → Below m h → Type 0
On x here = Unit {0}
On x (down q pre post c) = All (λ k. k.1.key ≤ x) pre × Greater x post × On x c

-- THE LEAF at the end of x's way, and f done to it
unfoldable pub leaf_on : ℕ → (h : ℕ) → Tree h → Leaf
leaf_on x zero t = t
leaf_on x (suc h) t = leaf_on x h (kid_for x t.kids t.last)

module _ {A : Type 0} (f : A → A) (x : ℕ) where
  unfoldable pub kids_at : List (A × Key) → A → List (A × Key) × A
  kids_at [] last = ([], f last)
  kids_at (c ∷ cs) last = cond (ltb x c.1.key) ((f c.0, c.1) ∷ cs, last) (c ∷ (kids_at cs last).0, (kids_at cs last).1)

unfoldable pub at_leaf : (Leaf → Leaf) → ℕ → (h : ℕ) → Tree h → Tree h
at_leaf f x zero t = f t
at_leaf f x (suc h) t = page_at t.place (kids_at (at_leaf f x h) x t.kids t.last).0 (kids_at (at_leaf f x h) x t.kids t.last).1

-- a leaf with other entries
abbrev pub renew : (List Entry → List Entry) → Leaf → Leaf
renew g l = leaf_at l.place l.next (g l.entries)
