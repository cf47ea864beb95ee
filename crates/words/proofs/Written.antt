-- Words that are written from an index on: which words stay, what stands there, and one run of writes after another.
-- Assumes nothing.
use Prim.Native.Nat.{ℕ, zero, suc, ◌+◌, ◌*◌, ◌-◌, ◌<◌, ◌≤◌}
use mathlib.Core.Path.{◌≡◌, refl, sym, ap, ap₂, ◌∙◌}
use mathlib.Core.Logic.{◌≢◌}
use mathlib.Core.List.{List, [], ◌∷◌, ◌++◌, flat_map}
use lib.ListN.{length, take, get_or, set, length-append, length-set}
use lib.Seq.{sets, set-set, set_comm, get_or-set_same, get_or-set_other}
use native.Mathlib.Omega.{arith}
use native.Mathlib.Nat.{mul-zero, mul-suc, add_comm}

module _ {A : Type 0} where
  pub sets_below : (vs l : List A) (i j : ℕ) (d : A) → j < i → get_or (sets l i vs) j d ≡ get_or l j d
  sets_below [] l i j d h = refl
  sets_below (v ∷ vs) l i j d h = sets_below vs (set l i v) (suc i) j d (omega arith) ∙ get_or-set_other l i j v d (λ e. omega arith)

  pub sets_above : (vs l : List A) (i j : ℕ) (d : A) → i + length vs ≤ j → get_or (sets l i vs) j d ≡ get_or l j d
  sets_above [] l i j d h = refl
  sets_above (v ∷ vs) l i j d h = sets_above vs (set l i v) (suc i) j d (omega arith) ∙ get_or-set_other l i j v d (λ e. omega arith)

  pub sets_in : (vs l : List A) (i k : ℕ) (d : A) → k < length vs → i + length vs ≤ length l → get_or (sets l i vs) (i + k) d ≡ get_or vs k d
  sets_in [] l i k d h f = absurd (omega arith)
  sets_in (v ∷ vs) l i zero d h f =
      let e : i + 0 ≡ i = omega arith in
      rw e (sets_below vs (set l i v) (suc i) i d (omega arith) ∙ get_or-set_same l i v d (omega arith))
  sets_in (v ∷ vs) l i (suc k) d h f =
      let e : i + suc k ≡ suc i + k = omega arith in
      rw e (sets_in vs (set l i v) (suc i) k d (omega arith) (omega (arith, length-set l i v)))

  pub sets_append : (l : List A) (i j : ℕ) (us vs : List A) → j ≡ i + length us → sets (sets l i us) j vs ≡ sets l i (us ++ vs)
  sets_append l i j [] vs e = ap (λ (x : ℕ). sets l x vs) (omega arith)
  sets_append l i j (u ∷ us) vs e = sets_append (set l i u) (suc i) j us vs (omega arith)

  -- a word beside a run may be written before it or behind it; what is written within a run is that run written with it
  pub set_beside : (vs l : List A) (i j : ℕ) (x : A) → ((k : ℕ) → k < length vs → i + k ≢ j) → set (sets l i vs) j x ≡ sets (set l j x) i vs
  set_beside [] l i j x f = refl
  set_beside (v ∷ vs) l i j x f =
      set_beside vs (set l i v) (suc i) j x (λ k h e. f (suc k) (omega arith) (omega arith)) ∙ ap (λ (z : List A). sets z (suc i) vs) (set_comm l i j v x (λ e. f 0 (omega arith) (omega arith)))

  set_within : (vs l : List A) (i k : ℕ) (x : A) → k < length vs → set (sets l i vs) (i + k) x ≡ sets l i (set vs k x)
  set_within [] l i k x h = absurd (omega arith)
  set_within (v ∷ vs) l i zero x h =
      let e : i + 0 ≡ i = omega arith in
      rw e (set_beside vs (set l i v) (suc i) i x (λ k h e. omega arith) ∙ ap (λ (z : List A). sets z (suc i) vs) (set-set l i v x))
  set_within (v ∷ vs) l i (suc k) x h =
      let e : i + suc k ≡ suc i + k = omega arith in
      rw e (set_within vs (set l i v) (suc i) k x (omega arith))

  pub sets_within : (us vs l : List A) (i k : ℕ) → k + length us ≤ length vs → sets (sets l i vs) (i + k) us ≡ sets l i (sets vs k us)
  sets_within [] vs l i k h = refl
  sets_within (u ∷ us) vs l i k h =
      let e : suc (i + k) ≡ i + suc k = omega arith in
      ap (λ (z : List A). sets z (suc (i + k)) us) (set_within vs l i k u (omega arith)) ∙ rw e (sets_within us (set vs k u) l i (suc k) (omega (arith, length-set vs k u)))

  pub take_append_more : (p q : List A) (c : ℕ) → length p ≤ c → take c (p ++ q) ≡ p ++ take (c - length p) q
  take_append_more [] q c h = let e : c - 0 ≡ c = omega arith in rw e
  take_append_more (r ∷ p) q zero h = absurd (omega arith)
  take_append_more (r ∷ p) q (suc c) h =
      let e : suc c - suc (length p) ≡ c - length p = omega arith in
      rw e (ap (λ (x : List A). r ∷ x) (take_append_more p q c (omega arith)))

-- items of m words each
module _ {A B : Type 0} (f : A → List B) (m : ℕ) (wide : (x : A) → length (f x) ≡ m) where
  pub flat_long : (xs : List A) → length (flat_map f xs) ≡ m * length xs
  unfolding flat_map
  flat_long [] = sym (mul-zero m)
  flat_long (x ∷ xs) = length-append (f x) (flat_map f xs) ∙ ap₂ ◌+◌ (wide x) (flat_long xs) ∙ add_comm m (m * length xs) ∙ sym (mul-suc m (length xs))
