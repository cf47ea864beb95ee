-- The stack of what has not ended in two arrays, and one region that enters: a law for each way out.
-- Assumes nothing.
use Prim.Native.Nat.{ℕ, zero, suc, ◌+◌, ◌-◌, ◌<◌, ◌≤◌}
use mathlib.Core.Path.{◌≡◌, refl, ap, ap₂, ◌∙◌}
use mathlib.Core.Bool.{true, false}
use mathlib.Core.List.{List, [], ◌∷◌}
use lib.Dec.{eqb, ltb}
use lib.ListN.{length, get_or, set}
use lib.Seq.{get_or-set_same, get_or-set_other}
use native.Mathlib.Omega.{arith}
use native.Mathlib.Numerals.{add-one}
use Rattle.std.specs.Prelude.{Some, None}
use Rattle.words.proofs.Tests.{by_test, eq_of, ne_of, lt_of, nlt_of, lt_yes, lt_no}
use Rattle.words.proofs.Says.{Says, and_says, lt_says, true_so, so_true, so_false}
use Rattle.regions.specs.Limits.{most_around}
use Rattle.regions.specs.Positions.{account, well_formed}
use Rattle.regions.specs.declared.Region.{Region}
use Rattle.regions.proofs.Means.{formed_says}
use Rattle.nesting.specs.Pass.{Around, kept, pop, stack_of, under, going, left_for, take_one, enter}

abbrev at : List ℕ → List ℕ → ℕ → Around
at ends levels k = record { end = get_or ends k 0; level = get_or levels k 0 }

-- levels rise inwards: the one in place k is above k
abbrev pub Above : ℕ → List ℕ → Type 0
Above top levels = (k : ℕ) → k < top → k < get_or levels k 0

-- THE INNERMOST alone is asked
pub under_says : (r : Region) (t : Around) (ts : List Around) → Says (under r (t ∷ ts)) ((r.end < t.end) × (t.level < r.level))
unfolding under
under_says r t ts = and_says (lt_says r.end t.end) (lt_says t.level r.level)

module _ (ends levels : List ℕ) where
  stack_pred : (k : ℕ) → 0 < k → stack_of ends levels k ≡ at ends levels (k - 1) ∷ stack_of ends levels (k - 1)
  unfolding stack_of
  stack_pred k h = let e : k ≡ suc (k - 1) = omega arith in ap (stack_of ends levels) e

  -- closing
  pub pop_stop : (k s : ℕ) → 0 < k → s ≤ get_or ends (k - 1) 0 → stack_of ends levels (k - 1 + 1) ≡ pop s (stack_of ends levels k)
  unfolding pop
  pop_stop k s h l = let e : k - 1 + 1 ≡ k = omega arith in rw (e, stack_pred k h, lt_no (get_or ends (k - 1) 0) s l)

  pub pop_down : (k s : ℕ) → 0 < k → get_or ends (k - 1) 0 < s → pop s (stack_of ends levels (k - 1)) ≡ pop s (stack_of ends levels k)
  unfolding pop
  pop_down k s h l = rw (stack_pred k h, lt_yes (get_or ends (k - 1) 0) s l)

  pub pop_none : (k s : ℕ) → k ≤ 0 → stack_of ends levels 0 ≡ pop s (stack_of ends levels k)
  unfolding pop stack_of
  pop_none k s h = let e : k ≡ 0 = omega arith in rw e

  -- asking
  module _ (r : Region) (t : ℕ) where
    pub under_none : t ≤ 0 → under r (stack_of ends levels t) ≡ true
    unfolding under stack_of
    under_none h = let z : t ≡ 0 = omega arith in rw z

    inner_says : 0 < t → Says (under r (stack_of ends levels t)) ((r.end < get_or ends (t - 1) 0) × (get_or levels (t - 1) 0 < r.level))
    inner_says h = rw (stack_pred t h) (under_says r (at ends levels (t - 1)) (stack_of ends levels (t - 1)))

    pub under_some : 0 < t → r.end < get_or ends (t - 1) 0 → get_or levels (t - 1) 0 < r.level → under r (stack_of ends levels t) ≡ true
    under_some h k l = so_true (inner_says h) (k, l)

    pub under_cross : 0 < t → get_or ends (t - 1) 0 ≤ r.end → under r (stack_of ends levels t) ≡ false
    under_cross h k = so_false (inner_says h) (λ m. omega (arith, m.0))

    pub under_flat : 0 < t → r.level ≤ get_or levels (t - 1) 0 → under r (stack_of ends levels t) ≡ false
    under_flat h l = so_false (inner_says h) (λ m. omega (arith, m.1))

    -- the level of what is let in is above its place
    deep : (top : ℕ) → Above top levels → t ≤ top → well_formed r ≡ true → under r (stack_of ends levels t) ≡ true → t < r.level
    deep top f l w u =
        by_test (ltb 0 t)
        (λ h. let k = lt_of 0 t h in omega (arith, f (t - 1) (omega arith), (true_so (inner_says k) u).1))
        (λ h. omega (arith, nlt_of 0 t h, (true_so (formed_says r) w).low))

    -- so that the place is there
    pub stack_room : (top : ℕ) → Above top levels → t ≤ top → well_formed r ≡ true → under r (stack_of ends levels t) ≡ true → t < most_around
    stack_room top f l w u = omega (arith, deep top f l w u, (true_so (formed_says r) w).high)

-- PUSHING
stack_set : (ends levels : List ℕ) (t e l k : ℕ) → k ≤ t → stack_of (set ends t e) (set levels t l) k ≡ stack_of ends levels k
unfolding stack_of
stack_set ends levels t e l zero h = refl
stack_set ends levels t e l (suc k) h =
    rw (get_or-set_other ends t k e 0 (omega arith), get_or-set_other levels t k l 0 (omega arith))
    (ap (λ q. at ends levels k ∷ q) (stack_set ends levels t e l k (omega arith)))

push : (ends levels : List ℕ) (t : ℕ) (x : Around) → t < length ends → t < length levels
    → stack_of (set ends t x.end) (set levels t x.level) (t + 1) ≡ x ∷ stack_of ends levels t
unfolding stack_of
push ends levels t x h k =
    rw (add-one t, get_or-set_same ends t x.end 0 h, get_or-set_same levels t x.level 0 k, stack_set ends levels t x.end x.level t (omega arith))

above_more : (levels : List ℕ) (t l : ℕ) → t < length levels → ((k : ℕ) → k < t → k < get_or levels k 0) → t < l → (k : ℕ) → k ≤ t → k < get_or (set levels t l) k 0
above_more levels t l h f d k b =
    by_test (eqb k t)
    (λ e. let q = eq_of k t e in rw q (omega (arith, get_or-set_same levels t l 0 h)))
    (λ e. let q : (k ≡ t → ⊥) = ne_of k t e in omega (arith, get_or-set_other levels t k l 0 q, f k (omega arith)))

-- ONE REGION
module _ (r : Region) (ends levels left : List ℕ) (top : ℕ) where
  pub enter_ill : well_formed r ≡ false → None ≡ enter r (going (stack_of ends levels top) left)
  unfolding enter
  enter_ill f = rw f

  pub enter_spent : (a x : ℕ) → well_formed r ≡ true → a ≡ account r.start → x ≡ get_or left a 0 → x ≡ 0 → None ≡ enter r (going (stack_of ends levels top) left)
  unfolding enter
  enter_spent a x f ea ex z = rw (f, lt_no 0 (left_for r left) (let k : x ≡ left_for r left = ex ∙ ap (λ i. get_or left i 0) ea in omega arith))

  -- of its account's share something is left
  module _ (a x t : ℕ) (w : well_formed r ≡ true) (ea : a ≡ account r.start) (ex : x ≡ get_or left a 0) (z : 0 < x) (p : stack_of ends levels t ≡ pop r.start (stack_of ends levels top)) where
    some_left : 0 < left_for r left
    some_left = let i : x ≡ left_for r left = ex ∙ ap (λ i. get_or left i 0) ea in omega arith

    pub enter_barred : under r (stack_of ends levels t) ≡ false → None ≡ enter r (going (stack_of ends levels top) left)
    unfolding enter
    enter_barred u = rw (w, lt_yes 0 (left_for r left) some_left, ← p, u)

    enter_right : under r (stack_of ends levels t) ≡ true → Some (going (kept r ∷ stack_of ends levels t) (take_one r left)) ≡ enter r (going (stack_of ends levels top) left)
    unfolding enter
    enter_right u = rw (w, lt_yes 0 (left_for r left) some_left, ← p, u)

    pub entered : length ends ≡ most_around → length levels ≡ most_around → Above top levels → t ≤ top → under r (stack_of ends levels t) ≡ true
        → Some (going (stack_of (set ends t r.end) (set levels t r.level) (t + 1)) (set left a (x - 1))) ≡ enter r (going (stack_of ends levels top) left)
    entered n m f l u =
        let k = stack_room ends levels r t top f l w u in
        let q : set left a (x - 1) ≡ take_one r left = rw (ex, ea) in
        ap₂ (λ (b : List Around) (c : List ℕ). Some (going b c)) (push ends levels t (kept r) (omega arith) (omega arith)) q ∙ enter_right u

pub above_entered : (r : Region) (ends levels : List ℕ) (top t : ℕ) → length levels ≡ most_around → Above top levels → t ≤ top → well_formed r ≡ true → under r (stack_of ends levels t) ≡ true
    → Above (t + 1) (set levels t r.level)
above_entered r ends levels top t m f l w u =
    let k = stack_room ends levels r t top f l w u in
    λ i b. above_more levels t r.level (omega arith) (λ j q. f j (omega arith)) (deep ends levels r t top f l w u) i (omega arith)

-- ROOM: what is not 0 stands in the array
pub some_at : (l : List ℕ) (a : ℕ) → 0 < get_or l a 0 → a < length l
some_at [] a h = absurd (omega arith)
some_at (x ∷ xs) zero h = omega arith
some_at (x ∷ xs) (suc a) h = omega (arith, some_at xs a h)
