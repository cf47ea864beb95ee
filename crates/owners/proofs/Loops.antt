-- The turns and ends of the loops: the first key not below a start, the owner along a path.
-- Assumes nothing.
use Prim.Native.Nat.{ℕ, suc, ◌+◌, ◌-◌, ◌≤◌, ◌<◌}
use mathlib.Core.Path.{◌≡◌, refl, sym, ap, ◌∙◌, subst}
use mathlib.Core.Bool.{Bool, true, false}
use mathlib.Core.List.{List, [], ◌∷◌}
use lib.ListN.{length, get_or, drop, drop_of_length-le}
use lib.Seq.{drop-cons}
use native.Mathlib.Omega.{arith}
use Rattle.words.specs.Lists.{All}
use Rattle.words.proofs.Tests.{lt_yes, lt_no}
use Rattle.pages.specs.Layout.{page_of, fill_of, key_word}
use Rattle.owners.specs.Owners.{nobody, spot_at, below_from, below_in, owns_at, owner_along}

-- KEYS: i are passed, all below x
pub record Passing (ws : List ℕ) (x n i : ℕ) : Type 0 where
  pub most : i ≤ n
  pub few : n ≤ 9
  pub whole : below_from ws x i (n - i) ≡ below_in ws x

pub pass_start : (ws : List ℕ) (x n : ℕ) → n ≡ fill_of ws → fill_of ws ≤ 9 → Passing ws x n 0
unfolding below_in
pass_start ws x n e l =
    let z : n - 0 ≡ fill_of ws = omega arith in
    record { most = omega arith; few = omega arith; whole = rw z }

pub pass_found : (ws : List ℕ) (x n i k : ℕ) → Passing ws x n i → i < n → k ≡ get_or ws (key_word i) 0 → x ≤ k → i ≡ below_in ws x
pass_found ws x n i k c l e h =
    let v : n - i ≡ suc (n - suc i) = omega arith in
    sym (at_key_lem (n - suc i) (rw e at h)) ∙ rw v at c.whole
  where
    at_key_lem : (m : ℕ) → x ≤ get_or ws (key_word i) 0 → below_from ws x i (suc m) ≡ i
    at_key_lem m u = unfold below_from in rw (lt_no (get_or ws (key_word i) 0) x u)

pub pass_on : (ws : List ℕ) (x n i k : ℕ) → Passing ws x n i → i < n → k ≡ get_or ws (key_word i) 0 → k < x → Passing ws x n (i + 1)
pass_on ws x n i k c l e h =
    let v : n - i ≡ suc (n - suc i) = omega arith in
    let u : i + 1 ≡ suc i = omega arith in
    record { most = omega arith; few = c.few; whole = rw u (sym (at_key_lem (n - suc i) (rw e at h)) ∙ rw v at c.whole) }
  where
    at_key_lem : (m : ℕ) → get_or ws (key_word i) 0 < x → below_from ws x i (suc m) ≡ below_from ws x (suc i) m
    at_key_lem m u = unfold below_from in rw (lt_yes (get_or ws (key_word i) 0) x u)

pub pass_end : (ws : List ℕ) (x n i : ℕ) → Passing ws x n i → n ≤ i → n ≡ below_in ws x
pass_end ws x n i c l = let v : n - i ≡ 0 = omega arith in let u : n ≡ i = omega (arith, c.most) in u ∙ sym none ∙ rw v at c.whole
  where
    none : below_from ws x i 0 ≡ i
    none = unfold below_from in refl

-- PAGES OF A PATH: i are passed, none of them has the owner
pub record Seeking (w ps : List ℕ) (s e i : ℕ) : Type 0 where
  pub fills : All (λ p. fill_of (page_of w p) ≤ 9) (drop i ps)
  pub whole : owner_along w s e (drop i ps) ≡ owner_along w s e ps

module _ (w ps : List ℕ) (s e i p : ℕ) (c : Seeking w ps s e i) (l : i < length ps) (is : p ≡ get_or ps i 0) where
  pub here : drop i ps ≡ p ∷ drop (suc i) ps
  here = drop-cons ps i 0 l ∙ ap (λ x. x ∷ drop (suc i) ps) (sym is)

  pub all_here : All (λ p. fill_of (page_of w p) ≤ 9) (p ∷ drop (suc i) ps)
  all_here = subst (All (λ p. fill_of (page_of w p) ≤ 9)) here c.fills

  pub seek_fill : fill_of (page_of w p) ≤ 9
  seek_fill = all_here.0

  pub along : owner_along w s e (p ∷ drop (suc i) ps) ≡ owner_along w s e ps
  along = ap (owner_along w s e) (sym here) ∙ c.whole

  pub seek_found : (k : ℕ) (b : Bool) → k ≡ below_in (page_of w p) s → b ≡ owns_at (page_of w p) e (fill_of (page_of w p)) k → b ≡ true → spot_at p k ≡ owner_along w s e ps
  seek_found k b q o t = sym (yes (ap (owns_at (page_of w p) e (fill_of (page_of w p))) (sym q) ∙ sym o ∙ t) ∙ ap (spot_at p) (sym q)) ∙ along
    where
      yes : owns_at (page_of w p) e (fill_of (page_of w p)) (below_in (page_of w p) s) ≡ true → owner_along w s e (p ∷ drop (suc i) ps) ≡ spot_at p (below_in (page_of w p) s)
      yes t = unfold owner_along in rw t

  pub seek_on : (k : ℕ) (b : Bool) → k ≡ below_in (page_of w p) s → b ≡ owns_at (page_of w p) e (fill_of (page_of w p)) k → b ≡ false → Seeking w ps s e (i + 1)
  seek_on k b q o t =
      let u : i + 1 ≡ suc i = omega arith in
      record { fills = rw u all_here.1; whole = rw u (sym (no (ap (owns_at (page_of w p) e (fill_of (page_of w p))) (sym q) ∙ sym o ∙ t)) ∙ along) }
    where
      no : owns_at (page_of w p) e (fill_of (page_of w p)) (below_in (page_of w p) s) ≡ false → owner_along w s e (p ∷ drop (suc i) ps) ≡ owner_along w s e (drop (suc i) ps)
      no t = unfold owner_along in rw t

pub seek_end : (w ps : List ℕ) (s e i : ℕ) → Seeking w ps s e i → length ps ≤ i → nobody ≡ owner_along w s e ps
seek_end w ps s e i c l = sym none ∙ ap (owner_along w s e) (sym (drop_of_length-le ps l)) ∙ c.whole
  where
    none : owner_along w s e [] ≡ nobody
    none = unfold owner_along in refl
