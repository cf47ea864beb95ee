-- The run over a flat list of events decides four flat tests of it: every page right, codes ascending, leaves linked, as many pages as were counted.
-- Assumes nothing.
use Prim.Native.Nat.{ℕ, zero, suc, ◌+◌, ◌-◌}
use mathlib.Core.Path.{◌≡◌, refl, sym, ap, ◌∙◌}
use mathlib.Core.Bool.{Bool, true, false, ◌&&◌, ◌||◌, cond}
use mathlib.Core.List.{List, [], ◌∷◌, ◌++◌, append_assoc}
use lib.ListN.{length}
use lib.Dec.{leb, ltb, eqb, eqb-suc-suc, eqb-suc-zero, eqb-zero-suc}
use native.Mathlib.Omega.{arith}
use Rattle.words.specs.Lists.{all}
use Rattle.words.proofs.Tests.{and_false, lt_yes}
use Rattle.xrtree.specs.Tree.{Item}
use Rattle.std.specs.Prelude.{Some, None, option_and_then}
use Rattle.passes.specs.Run.{step_page, step_leaf, step_code, finished}
use Rattle.passes.specs.declared.Passed.{Passed}
use Rattle.shape.specs.Run.{Event, code, step, run, run_finished}
use Rattle.shape.specs.Run.Event.{page, leaf, item}

abbrev pub each : {A B : Type 0} → (A → List B) → List A → List B
each f [] = []
each f (x ∷ xs) = f x ++ each f xs

pub each_append : {A B : Type 0} (f : A → List B) (xs ys : List A) → each f (xs ++ ys) ≡ each f xs ++ each f ys
each_append f [] ys = refl
each_append f (x ∷ xs) ys = ap (λ l. f x ++ l) (each_append f xs ys) ∙ sym (append_assoc (f x) (each f xs) (each f ys))

-- what each test takes of an event
abbrev pub tests : Event → List Bool
tests (page g) = g ∷ []
tests (leaf p n) = []
tests (item x) = []

abbrev pub links : Event → List (ℕ × ℕ)
links (page g) = []
links (leaf p n) = (p, n) ∷ []
links (item x) = []

abbrev pub points : Event → List Item
points (page g) = []
points (leaf p n) = []
points (item x) = x ∷ []

-- every code is at least a, and greater than the one before
unfoldable pub ascends : ℕ → List Item → Bool
ascends a [] = true
ascends a (x ∷ xs) = leb a (code x) && ascends (code x + 1) xs

-- the leaf before leads to the first one where l is not 0, each to the next, the last to none
unfoldable pub chained : ℕ → List (ℕ × ℕ) → Bool
chained l [] = eqb l 1
chained l (q ∷ qs) = (eqb l 0 || eqb l (q.0 + 1)) && chained (q.1 + 1) qs

abbrev pub going : ℕ → ℕ → ℕ → Passed
going l a g = record { link = l; low = a; left = g }

abbrev pub Decides : List Event → Type 0
Decides es = (l a g : ℕ) → run_finished (run es (going l a g))
    ≡ (all (λ b. b) (each tests es) && (ascends a (each points es) && (chained l (each links es) && eqb (length (each tests es)) g)))

page_none : (es : List Event) (l a : ℕ) → false
    ≡ (all (λ b. b) (each tests es) && (ascends a (each points es) && (chained l (each links es) && eqb (suc (length (each tests es))) 0)))
page_none es l a = rw (eqb-suc-zero (length (each tests es))) (sym (simp and_false))

page_some : (es : List Event) → Decides es → (l a g k : ℕ) (b : Bool) → b ≡ true → k ≡ g → run_finished (option_and_then (run es) (cond b (Some (going l a k)) None))
    ≡ (all (λ b. b) (each tests es) && (ascends a (each points es) && (chained l (each links es) && eqb (suc (length (each tests es))) (suc g))))
page_some es ih l a g k b e q = rw (e, q, eqb-suc-suc (length (each tests es)) g) (ih l a g)

page_true : (es : List Event) → Decides es → Decides (page true ∷ es)
unfolding run step step_page all
page_true es ih l a zero = page_none es l a
page_true es ih l a (suc g) = page_some es ih l a g (suc g - 1) (ltb 0 (suc g)) (lt_yes 0 (suc g) (omega arith)) (omega arith)

page_false : (es : List Event) → Decides (page false ∷ es)
unfolding run step step_page all
page_false es l a g = refl

leaf_tested : (es : List Event) → Decides es → (n a g : ℕ) (b : Bool) → run_finished (option_and_then (run es) (cond b (Some (going (n + 1) a g)) None))
    ≡ (all (λ b. b) (each tests es) && (ascends a (each points es) && ((b && chained (n + 1) (each links es)) && eqb (length (each tests es)) g)))
leaf_tested es ih n a g true = ih (n + 1) a g
leaf_tested es ih n a g false = sym (simp and_false)

item_tested : (es : List Event) → Decides es → (c l g : ℕ) (b : Bool) → run_finished (option_and_then (run es) (cond b (Some (going l (c + 1) g)) None))
    ≡ (all (λ b. b) (each tests es) && ((b && ascends (c + 1) (each points es)) && (chained l (each links es) && eqb (length (each tests es)) g)))
item_tested es ih c l g true = ih l (c + 1) g
item_tested es ih c l g false = sym (simp and_false)

leaf_case : (p n : ℕ) (es : List Event) → Decides es → Decides (leaf p n ∷ es)
unfolding run step step_leaf chained
leaf_case p n es ih l a g = leaf_tested es ih n a g (eqb l 0 || eqb l (p + 1))

item_case : (x : Item) (es : List Event) → Decides es → Decides (item x ∷ es)
unfolding run step step_code ascends
item_case x es ih l a g = item_tested es ih (code x) l g (leb a (code x))

decides_none : Decides []
unfolding run ascends chained all finished
decides_none l a zero = refl
decides_none l a (suc g) = rw (eqb-suc-zero g, eqb-zero-suc g)

pub decides : (es : List Event) → Decides es
decides [] = decides_none
decides (page true ∷ es) = page_true es (decides es)
decides (page false ∷ es) = page_false es
decides (leaf p n ∷ es) = leaf_case p n es (decides es)
decides (item x ∷ es) = item_case x es (decides es)
