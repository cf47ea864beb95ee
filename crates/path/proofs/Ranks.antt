-- The rank of x among a page's keys: how it is counted, what it says of the keys, and that it picks the child that a search along the keys picks.
-- Assumes nothing.
use Prim.Native.Nat.{ℕ, zero, suc, ◌+◌, ◌≤◌, ◌<◌}
use mathlib.Core.Path.{◌≡◌, refl, sym, ◌∙◌}
use Rattle.std.specs.Prelude.{Option, None, Some, MatchOption}
use Rattle.std.specs.Option.{unwrap_or}
use mathlib.Core.List.{List}
use lib.Dec.{ltb}
use lib.ListN.{get_or}
use native.Mathlib.Omega.{arith}
use native.Mathlib.Decide.{dec_lt}
use Rattle.words.proofs.Tests.{by_test, lt_yes, lt_no}
use Rattle.pages.specs.Layout.{fill_of, key_word, child_in}
use Rattle.image.specs.Read.{kids_from}
use Rattle.path.specs.Path.{rank_from, rank_in, kid_for}

module _ (ws : List ℕ) (x : ℕ) where
  pub rank_none : (i : ℕ) → rank_from ws x i 0 ≡ i
  unfolding rank_from
  rank_none i = refl

  -- the next key is greater; it is not
  pub rank_here : (i m : ℕ) → x < get_or ws (key_word i) 0 → rank_from ws x i (suc m) ≡ i
  unfolding rank_from
  rank_here i m h = rw (lt_yes x (get_or ws (key_word i) 0) h)

  pub rank_on : (i m : ℕ) → get_or ws (key_word i) 0 ≤ x → rank_from ws x i (suc m) ≡ rank_from ws x (suc i) m
  unfolding rank_from
  rank_on i m h = rw (lt_no x (get_or ws (key_word i) 0) h)

  pub rank_bounds : (i m : ℕ) → (i ≤ rank_from ws x i m) × (rank_from ws x i m ≤ i + m)
  unfolding rank_from
  rank_bounds i zero = omega arith
  rank_bounds i (suc m) =
      let r = rank_bounds (suc i) m in
      by_test (ltb x (get_or ws (key_word i) 0)) (λ h. rw h (omega arith)) (λ h. rw h (omega arith))

-- of a whole page
pub rank_fill : (ws : List ℕ) (x : ℕ) → rank_in ws x ≤ fill_of ws
unfolding rank_in
rank_fill ws x = omega (arith, rank_bounds ws x 0 (fill_of ws))

-- so a rank names a child
pub rank_small : (ws : List ℕ) (x r : ℕ) → r ≡ rank_in ws x → fill_of ws ≤ 8 → r < 10
rank_small ws x r e h = omega (arith, rank_fill ws x)

-- ON TREES: the child that a walk along the keys comes to
module _ {A : Type 0} where
  module _ (child : ℕ → A) (w ws : List ℕ) where
    -- is the child of the rank
    kid_from : (x i m : ℕ) → kid_for x (kids_from child w ws i m) (child (child_in ws (i + m))) ≡ child (child_in ws (rank_from ws x i m))
    unfolding kid_for kids_from rank_from
    kid_from x i zero = let e : i + 0 ≡ i = omega arith in rw e
    kid_from x i (suc m) =
        let e : i + suc m ≡ suc i + m = omega arith in
        by_test (ltb x (get_or ws (key_word i) 0)) (λ h. rw h) (λ h. rw (h, e) (kid_from x (suc i) m))

    pub kid_rank : (x : ℕ) → kid_for x (kids_from child w ws 0 (fill_of ws)) (child (child_in ws (fill_of ws))) ≡ child (child_in ws (rank_in ws x))
    unfolding rank_in
    kid_rank x = at_last (fill_of ws)
      where
        at_last : (n : ℕ) → kid_for x (kids_from child w ws 0 n) (child (child_in ws n)) ≡ child (child_in ws (rank_from ws x 0 n))
        at_last n = let e : 0 + n ≡ n = omega arith in rw e at (kid_from x 0 n)

-- FOUND AS THE FIRST greater one of n keys, or n where there is none
module _ (ws : List ℕ) (x : ℕ) where
  rank_upto : (i m j : ℕ) → i ≤ j → j ≤ i + m → ((k : ℕ) → i ≤ k → k < j → get_or ws (key_word k) 0 ≤ x) → (j < i + m → x < get_or ws (key_word j) 0) → rank_from ws x i m ≡ j
  rank_upto i zero j a b f g = omega (arith, rank_none ws x i)
  rank_upto i (suc m) j a b f g =
      elim (dec_lt i j) [
        | yes l ↦ rank_on ws x i m (f i (omega arith) l) ∙ rank_upto (suc i) m j (omega arith) (omega arith) (λ k u v. f k (omega arith) v) (λ l. g (omega arith))
        | no h ↦ let e : i ≡ j = omega arith in rank_here ws x i m (rw e (g (omega arith))) ∙ e
      ]

  pub rank_first : (n : ℕ) (r : Option ℕ) → n ≡ fill_of ws
      → MatchOption r ((k : ℕ) → 0 ≤ k → k < n → get_or ws (key_word k) 0 ≤ x)
      (λ i. (0 ≤ i) × (i < n) × (x < get_or ws (key_word i) 0) × ((k : ℕ) → 0 ≤ k → k < i → get_or ws (key_word k) 0 ≤ x))
      → unwrap_or r n ≡ rank_in ws x
  unfolding rank_in
  rank_first n None e h = sym (rw (← e) (rank_upto 0 n n (omega arith) (omega arith) h (λ l. absurd (omega arith))))
  rank_first n (Some i) e h = sym (rw (← e) (rank_upto 0 n i (omega arith) (omega (arith, h.1)) h.3 (λ _. h.2)))
