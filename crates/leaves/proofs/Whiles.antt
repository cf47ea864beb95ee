-- Lists: what is dropped while a test holds, of two lists one after the other; a map and a flat map.
-- Assumes nothing.
use Prim.Native.Nat.{◌≤◌, ◌<◌}
use mathlib.Core.Path.{◌≡◌, refl}
use mathlib.Core.Bool.{Bool, true, false}
use mathlib.Core.List.{List, [], ◌∷◌, ◌++◌, map}
use lib.ListN.{length, drop}
use native.Mathlib.Omega.{arith}
use Rattle.words.specs.Lists.{take_while, drop_while, All}
use Rattle.words.proofs.Tests.{by_test}

module _ {A : Type 0} (p : A → Bool) where
  -- all of the first list passes
  pub drop_while_past : (xs ys : List A) → All (λ x. p x ≡ true) xs → drop_while p (xs ++ ys) ≡ drop_while p ys
  unfolding drop_while
  drop_while_past [] ys a = refl
  drop_while_past (x ∷ xs) ys a = rw a.0 (drop_while_past xs ys a.1)

  -- nothing passes
  pub drop_while_none : (xs : List A) → All (λ x. p x ≡ false) xs → drop_while p xs ≡ xs
  unfolding drop_while
  drop_while_none [] a = refl
  drop_while_none (x ∷ xs) a = rw a.0

  -- it ends within the first list; behind it
  pub drop_while_in : (xs ys : List A) → length (take_while p xs) < length xs → drop_while p (xs ++ ys) ≡ drop (length (take_while p xs)) (xs ++ ys)
  unfolding take_while drop_while
  drop_while_in [] ys l = absurd (omega arith)
  drop_while_in (x ∷ xs) ys l = by_test (p x) (λ h. rw h (drop_while_in xs ys (let k = rw h at l in omega arith))) (λ h. rw h)

  pub drop_while_out : (xs ys : List A) → length xs ≤ length (take_while p xs) → drop_while p (xs ++ ys) ≡ drop_while p ys
  unfolding take_while drop_while
  drop_while_out [] ys l = refl
  drop_while_out (x ∷ xs) ys l =
      by_test (p x) (λ h. rw h (drop_while_out xs ys (let k = rw h at l in omega arith))) (λ h. let k = rw h at l in absurd (omega arith))

module _ {A B : Type 0} (f : A → B) where
  pub all_unmap : (P : B → Type 0) (xs : List A) → All P (map f xs) → All (λ x. P (f x)) xs
  all_unmap P [] a = tt
  all_unmap P (x ∷ xs) a = (a.0, all_unmap P xs a.1)

  pub drop_while_map : (p : B → Bool) (xs : List A) → map f (drop_while (λ x. p (f x)) xs) ≡ drop_while p (map f xs)
  unfolding drop_while
  drop_while_map p [] = refl
  drop_while_map p (x ∷ xs) = by_test (p (f x)) (λ h. rw h (drop_while_map p xs)) (λ h. rw h)
