-- Runs of words one behind the other in a page.
-- Assumes nothing.
use Prim.Native.Nat.{ℕ, ◌+◌, ◌-◌, ◌<◌, ◌≤◌}
use mathlib.Core.Path.{◌≡◌, refl, ap, ◌∙◌}
use mathlib.Core.List.{List, [], ◌∷◌}
use lib.ListN.{length, get_or, take, drop, length-take, length-drop}
use lib.Seq.{sets, length-sets, get_or-take, get_or-drop}
use native.Mathlib.Omega.{arith}
use Rattle.words.proofs.Written.{sets_below, sets_above, sets_in}
use Rattle.pages.specs.Layout.{mark_of, fill_of, next_of}
use Rattle.pagewords.specs.Words.{copied_in, headed_by}

-- m words of u, from word s on, are those of v from word t on
pub record Seg (u : List ℕ) (s : ℕ) (v : List ℕ) (t m : ℕ) : Type 0 where
  pub same : (x : ℕ) → x < m → get_or u (s + x) 0 ≡ get_or v (t + x) 0

pub seg_self : (u : List ℕ) (s m : ℕ) → Seg u s u s m
seg_self u s m = record { same = λ x h. refl }

-- a run that is written elsewhere leaves them
pub seg_below : {u v : List ℕ} {s t m : ℕ} (a : ℕ) (xs : List ℕ) → s + m ≤ a → Seg u s v t m → Seg (sets u a xs) s v t m
seg_below {u} {v} {s} a xs h g = record { same = λ x l. sets_below xs u a (s + x) 0 (omega arith) ∙ g.same x l }

pub seg_above : {u v : List ℕ} {s t m : ℕ} (a : ℕ) (xs : List ℕ) → a + length xs ≤ s → Seg u s v t m → Seg (sets u a xs) s v t m
seg_above {u} {v} {s} a xs h g = record { same = λ x l. sets_above xs u a (s + x) 0 (omega arith) ∙ g.same x l }

-- a run that is written stands there
pub seg_in : (u : List ℕ) (a : ℕ) (xs : List ℕ) → a + length xs ≤ length u → Seg (sets u a xs) a xs 0 (length xs)
seg_in u a xs h = record { same = λ x l. sets_in xs u a x 0 l h ∙ ap (λ n. get_or xs n 0) (zero_add x) }
  where
    zero_add : (x : ℕ) → x ≡ 0 + x
    zero_add x = omega arith

-- COPIES: the same of a run out of a page
module _ (u : List ℕ) (a : ℕ) (v : List ℕ) (b n : ℕ) where
  pub copy_long : length (copied_in u a v b n) ≡ length u
  unfolding copied_in
  copy_long = length-sets u a (take n (drop b v))

  run_long : b + n ≤ length v → length (take n (drop b v)) ≡ n
  run_long h = simp (length-take, length-drop) (omega arith)

  pub copy_below : {w : List ℕ} {s t m : ℕ} → s + m ≤ a → Seg u s w t m → Seg (copied_in u a v b n) s w t m
  unfolding copied_in
  copy_below h g = seg_below a (take n (drop b v)) h g

  pub copy_above : {w : List ℕ} {s t m : ℕ} → b + n ≤ length v → a + n ≤ s → Seg u s w t m → Seg (copied_in u a v b n) s w t m
  unfolding copied_in
  copy_above l h g = seg_above a (take n (drop b v)) (omega (arith, run_long l)) g

  -- a part of the copy, from word s on
  pub copy_in : (s t m : ℕ) → b + n ≤ length v → a + n ≤ length u → a ≤ s → s + m ≤ a + n → t + a ≡ b + s → Seg (copied_in u a v b n) s v t m
  unfolding copied_in
  copy_in s t m l k h g e = record { same = λ x y. word x (omega arith) }
    where
      word : (x : ℕ) → s + x < a + n → get_or (sets u a (take n (drop b v))) (s + x) 0 ≡ get_or v (t + x) 0
      word x y =
          let f : s + x ≡ a + (s + x - a) = omega arith in
          let z : b + (s + x - a) ≡ t + x = omega arith in
          ap (λ j. get_or (sets u a (take n (drop b v))) j 0) f
          ∙ sets_in (take n (drop b v)) u a (s + x - a) 0 (omega (arith, run_long l)) (omega (arith, run_long l))
          ∙ get_or-take n (drop b v) (s + x - a) 0 (omega arith) ∙ get_or-drop b v (s + x - a) 0 ∙ ap (λ j. get_or v j 0) z

-- THE HEAD
module _ (u : List ℕ) (mark fill next : ℕ) where
  pub head_above : {w : List ℕ} {s t m : ℕ} → 3 ≤ s → Seg u s w t m → Seg (headed_by u mark fill next) s w t m
  unfolding headed_by
  head_above h g = seg_above 0 (mark ∷ fill ∷ next ∷ []) (omega arith) g

  pub head_words : 3 ≤ length u → (mark_of (headed_by u mark fill next) ≡ mark) × (fill_of (headed_by u mark fill next) ≡ fill) × (next_of (headed_by u mark fill next) ≡ next)
  unfolding headed_by
  head_words h = (word 0 (omega arith), word 1 (omega arith), word 2 (omega arith))
    where
      word : (k : ℕ) → k < 3 → get_or (sets u 0 (mark ∷ fill ∷ next ∷ [])) (0 + k) 0 ≡ get_or (mark ∷ fill ∷ next ∷ []) k 0
      word k l = sets_in (mark ∷ fill ∷ next ∷ []) u 0 k 0 l (omega arith)
