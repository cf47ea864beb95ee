-- A tree with a hole: a page without one of its children, and the way down to a page d pages below. What is put in the hole makes the tree whole.
-- Assumes nothing.
use Rattle.std.specs.Prelude.{ℕ, zero, suc, List, [], ◌∷◌, ◌++◌}
use Rattle.xrtree.specs.Tree.{Key, Inner, Tree}
use Rattle.xrtree.specs.Claims.{page_at}

-- the lower bound behind some keys of a page
module _ {A : Type 0} where
  unfoldable pub lo_after : ℕ → List (A × Key) → ℕ
  lo_after lo [] = lo
  lo_after lo (c ∷ cs) = lo_after (suc c.1.key) cs

-- A HOLE among the children of a page: some keys before it, and a key with what follows, or nothing
pub data Post (A : Type 0) : Type 0 where
  at_key : Key → List (A × Key) → A → Post A
  at_end : Post A

abbrev pub fill_kids : {A : Type 0} → List (A × Key) → Post A → A → List (A × Key)
fill_kids pre (at_key k cs last) t = pre ++ (t, k) ∷ cs
fill_kids pre at_end t = pre

abbrev pub fill_last : {A : Type 0} → Post A → A → A
fill_last (at_key k cs last) t = last
fill_last at_end t = t

abbrev pub fill : {A : Type 0} → ℕ → List (A × Key) → Post A → A → Inner A
fill q pre post t = page_at q (fill_kids pre post t) (fill_last post t)

abbrev pub hi_post : {A : Type 0} → ℕ → Post A → ℕ
hi_post hi (at_key k cs last) = k.key
hi_post hi at_end = hi

-- THE WAY DOWN to a hole d pages below: each page's place, the keys before the way, what follows it
abbrev pub up : ℕ → ℕ → ℕ
up zero m = m
up (suc d) m = suc (up d m)

abbrev pub Ctx : ℕ → ℕ → Type 0
Ctx zero m = Unit {0}
Ctx (suc d) m = ℕ × List (Tree (up d m) × Key) × Post (Tree (up d m)) × Ctx d m

abbrev pub plug : (d m : ℕ) → Ctx d m → Tree m → Tree (up d m)
plug zero m c t = t
plug (suc d) m c t = fill c.0 c.1 c.2 (plug d m c.3 t)

abbrev pub lo_at : (d m : ℕ) → ℕ → Ctx d m → ℕ
lo_at zero m lo c = lo
lo_at (suc d) m lo c = lo_at d m (lo_after lo c.1) c.3

abbrev pub hi_at : (d m : ℕ) → ℕ → Ctx d m → ℕ
hi_at zero m hi c = hi
hi_at (suc d) m hi c = hi_at d m (hi_post hi c.2) c.3
