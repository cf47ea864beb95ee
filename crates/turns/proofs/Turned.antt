-- What stands after k turns of a loop over the seats, and what that comes to after the last one.
--     put_at       a list whose first k elements are written anew, one in each turn
--     poured_at    the buffer, a seat's words in each turn
-- Assumes nothing.
use Prim.Native.Nat.{ℕ, zero, suc, ◌+◌, ◌<◌, ◌≤◌}
use native.Mathlib.Nat.{eq-or-lt_of_le, le_of_suc-le-suc}
use native.Mathlib.Omega.{arith}
use mathlib.Core.Path.{◌≡◌, refl, sym, ap, ◌∙◌, subst}
use mathlib.Core.Logic.{⊎_elim}
use mathlib.Core.List.{List, [], ◌∷◌, ◌++◌}
use lib.ListN.{length, take, get_or, set, length-set}
use lib.Seq.{sets, length-sets, take-suc, take-length, length-take-le, ext_get_or, get_or-set_same, get_or-set_other}
use Rattle.regions.specs.Desk.{seat_at, seat_word, closed, poured}
use Rattle.regions.specs.declared.Seat.{Seat}

-- A LIST WRITTEN ANEW from its first element on
module _ {B : Type 0} (g : ℕ → B) where
  unfoldable pub put_at : ℕ → List B → List B
  put_at zero l = l
  put_at (suc k) l = set (put_at k l) k (g k)

  pub put_long : (k : ℕ) (l : List B) → length (put_at k l) ≡ length l
  unfolding put_at
  put_long zero l = refl
  put_long (suc k) l = length-set (put_at k l) k (g k) ∙ put_long k l

  -- an element whose turn has not come is as it was
  pub put_later : (k : ℕ) (l : List B) (j : ℕ) (d : B) → k ≤ j → get_or (put_at k l) j d ≡ get_or l j d
  unfolding put_at
  put_later zero l j d h = refl
  put_later (suc k) l j d h = get_or-set_other (put_at k l) k j (g k) d (λ e. omega arith) ∙ put_later k l j d (omega arith)

  put_done : (k : ℕ) (l : List B) (j : ℕ) (d : B) → j < k → k ≤ length l → get_or (put_at k l) j d ≡ g j
  unfolding put_at
  put_done zero l j d h m = absurd (omega arith)
  put_done (suc k) l j d h m =
      ⊎_elim
      (λ (e : j ≡ k). subst (λ (i : ℕ). get_or (set (put_at k l) k (g k)) i d ≡ g i) (sym e) (get_or-set_same (put_at k l) k (g k) d (omega (arith, put_long k l))))
      (λ (h' : j < k). get_or-set_other (put_at k l) k j (g k) d (λ e. omega arith) ∙ put_done k l j d h' (omega arith))
      (eq-or-lt_of_le (le_of_suc-le-suc h))

  pub put_all : (n : ℕ) (l l' : List B) (d : B) → length l ≡ n → length l' ≡ n → ((j : ℕ) → j < n → g j ≡ get_or l' j d) → put_at n l ≡ l'
  put_all n l l' d e e' h =
      ext_get_or d (put_at n l) l' (put_long n l ∙ e ∙ sym e')
      (λ i m. let m' : i < n = omega (arith, put_long n l) in put_done n l i d m' (omega arith) ∙ h i m')

-- THE BUFFER
module _ {A : Type 0} (w : Seat → List A) where
  unfoldable pub poured_at : ℕ → List Seat → List A → List A
  poured_at zero ds b = b
  poured_at (suc k) ds b = sets (poured_at k ds b) (seat_word k) (w (seat_at ds k))

  pub poured_at_long : (k : ℕ) (ds : List Seat) (b : List A) → length (poured_at k ds b) ≡ length b
  unfolding poured_at
  poured_at_long zero ds b = refl
  poured_at_long (suc k) ds b = length-sets (poured_at k ds b) (seat_word k) (w (seat_at ds k)) ∙ poured_at_long k ds b

  poured_next : (i : ℕ) (ss : List Seat) (s : Seat) (b : List A) → poured w i (ss ++ s ∷ []) b ≡ sets (poured w i ss b) (seat_word (i + length ss)) (w s)
  unfolding poured
  poured_next i [] s b = let e : i + 0 ≡ i = omega arith in ap (λ (n : ℕ). sets b (seat_word n) (w s)) (sym e)
  poured_next i (t ∷ ss) s b =
      let e : suc i + length ss ≡ i + suc (length ss) = omega arith in
      poured_next (suc i) ss s (sets b (seat_word i) (w t)) ∙ ap (λ (n : ℕ). sets (poured w (suc i) ss (sets b (seat_word i) (w t))) (seat_word n) (w s)) e

  poured_so_far : (k : ℕ) (ds : List Seat) (b : List A) → k ≤ length ds → poured_at k ds b ≡ poured w 0 (take k ds) b
  unfolding poured_at poured
  poured_so_far zero ds b h = refl
  poured_so_far (suc k) ds b h =
      let e : k ≡ 0 + length (take k ds) = omega (arith, length-take-le k ds (omega arith)) in
      ap (λ (l : List A). sets l (seat_word k) (w (seat_at ds k))) (poured_so_far k ds b (omega arith))
      ∙ ap (λ (n : ℕ). sets (poured w 0 (take k ds) b) (seat_word n) (w (seat_at ds k))) e
      ∙ sym (ap (λ (l : List Seat). poured w 0 l b) (take-suc ds k closed h) ∙ poured_next 0 (take k ds) (seat_at ds k) b)

  pub poured_all : (ds : List Seat) (b : List A) → poured_at (length ds) ds b ≡ poured w 0 ds b
  poured_all ds b = poured_so_far (length ds) ds b (omega arith) ∙ ap (λ (l : List Seat). poured w 0 l b) (take-length ds)
