-- What a page, a leaf, a start or a key does to the state of the walk, by cases on its tests.
-- Assumes nothing.
use Prim.Native.Nat.{ℕ, ◌+◌, ◌-◌, ◌<◌, ◌≤◌}
use mathlib.Core.Path.{◌≡◌}
use mathlib.Core.Bool.{Bool, true, false}
use native.Mathlib.Omega.{arith}
use lib.Dec.{eqb}
use Rattle.std.specs.Prelude.{Some, None}
use Rattle.words.proofs.Tests.{eq_yes, eq_no, lt_yes, le_yes, le_no}
use Rattle.passes.specs.Run.{step_page, step_leaf, step_code, finished}
use Rattle.passes.specs.declared.Passed.{Passed}

-- a page
pub page_no : (g : Bool) (s : Passed) → g ≡ false → None ≡ step_page g s
unfolding step_page
page_no g s h = rw h

pub page_none : (g : Bool) (s : Passed) → g ≡ true → s.left ≡ 0 → None ≡ step_page g s
unfolding step_page
page_none g s k l = rw (k, l)

pub page_yes : (g : Bool) (s : Passed) → g ≡ true → (s.left ≡ 0 → ⊥)
    → Some (record { link = s.link; low = s.low; left = s.left - 1 }) ≡ step_page g s
unfolding step_page
page_yes g s k l = rw (k, lt_yes 0 s.left (omega arith))

-- a leaf
pub leaf_no : (p next : ℕ) (s : Passed) → (s.link ≡ 0 → ⊥) → (s.link ≡ p + 1 → ⊥) → None ≡ step_leaf p next s
unfolding step_leaf
leaf_no p next s k l = rw (eq_no s.link 0 k, eq_no s.link (p + 1) l)

pub leaf_first : (p next : ℕ) (s : Passed) → s.link ≡ 0
    → Some (record { link = next + 1; low = s.low; left = s.left }) ≡ step_leaf p next s
unfolding step_leaf
leaf_first p next s k = rw (eq_yes s.link 0 k)

pub leaf_next : (p next : ℕ) (s : Passed) → (s.link ≡ 0 → ⊥) → s.link ≡ p + 1
    → Some (record { link = next + 1; low = s.low; left = s.left }) ≡ step_leaf p next s
unfolding step_leaf
leaf_next p next s k l = rw (eq_no s.link 0 k, eq_yes s.link (p + 1) l)

-- a start or a key
pub code_no : (c : ℕ) (s : Passed) → c < s.low → None ≡ step_code c s
unfolding step_code
code_no c s k = rw (le_no s.low c k)

pub code_yes : (c : ℕ) (s : Passed) → s.low ≤ c → Some (record { link = s.link; low = c + 1; left = s.left }) ≡ step_code c s
unfolding step_code
code_yes c s k = rw (le_yes s.low c k)

-- the end
pub end_open : (s : Passed) → (s.link ≡ 1 → ⊥) → eqb s.link 1 ≡ finished s
unfolding finished
end_open s k = rw (eq_no s.link 1 k)

pub end_rest : (s : Passed) → s.link ≡ 1 → eqb s.left 0 ≡ finished s
unfolding finished
end_rest s k = rw (eq_yes s.link 1 k)
