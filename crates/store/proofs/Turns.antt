-- The turns and ends of the searches for a free place.
-- Assumes nothing.
use Prim.Native.Nat.{ℕ, ◌+◌, ◌<◌, ◌≤◌}
use mathlib.Core.Path.{◌≡◌, sym, ap, ◌∙◌}
use mathlib.Core.Bool.{Bool, true, false, not}
use mathlib.Core.List.{List}
use native.Mathlib.Omega.{arith}
use borrow.Author.Count.{below_more}
use Rattle.words.proofs.Tests.{eq_yes, eq_no}
use Rattle.pages.specs.Layout.{page_of, record_of, mark_of, record_end, page_used, record_used}
use Rattle.store.specs.Store.{FirstFree}

-- SEARCHING: a place whose word is 0 is free, and one whose word is not is in use
pub page_free : (w : List ℕ) (p m : ℕ) → m ≡ mark_of (page_of w p) → m ≡ 0 → page_used w p ≡ false
unfolding page_used
page_free w p m e z = ap not (eq_yes _ 0 (sym e ∙ z))

pub page_taken : (w : List ℕ) (p m : ℕ) → m ≡ mark_of (page_of w p) → (m ≡ 0 → ⊥) → page_used w p ≡ true
unfolding page_used
page_taken w p m e z = ap not (eq_no _ 0 (λ f. z (e ∙ f)))

pub record_free : (w : List ℕ) (q m : ℕ) → m ≡ record_end (record_of w q) → m ≡ 0 → record_used w q ≡ false
unfolding record_used
record_free w q m e z = ap not (eq_yes _ 0 (sym e ∙ z))

pub record_taken : (w : List ℕ) (q m : ℕ) → m ≡ record_end (record_of w q) → (m ≡ 0 → ⊥) → record_used w q ≡ true
unfolding record_used
record_taken w q m e z = ap not (eq_no _ 0 (λ f. z (e ∙ f)))

-- all places before p are in use
abbrev pub AllUsed : (ℕ → Bool) → ℕ → Type 0
AllUsed used p = (i : ℕ) → i < p → 1 ≤ i → used i ≡ true

pub used_more : (used : ℕ → Bool) (p : ℕ) → AllUsed used p → used p ≡ true → AllUsed used (p + 1)
used_more used p a u = below_more _ _ a (λ l. u)

pub found_free : (used : ℕ → Bool) (n p : ℕ) → 1 ≤ p → p ≤ n → AllUsed used p → used p ≡ false → FirstFree used n p
found_free used n p l h a f = record { high = h; before = a; free = λ z. f; none = λ z. absurd (omega arith) }

pub found_none : (used : ℕ → Bool) (n p : ℕ) → n < p → AllUsed used p → FirstFree used n 0
found_none used n p h a = record { high = omega arith; before = λ i l. absurd (omega arith); free = λ l. absurd (omega arith); none = λ z i l. a i (omega arith) }
