-- A turn and the end of the loop over the entries before a start.
-- Assumes nothing.
use Prim.Native.Nat.{ℕ, suc, ◌+◌, ◌-◌, ◌≤◌, ◌<◌}
use mathlib.Core.Path.{◌≡◌, refl}
use mathlib.Core.List.{List}
use lib.ListN.{length, get_or}
use native.Mathlib.Omega.{arith}
use Rattle.words.specs.Lists.{take_while}
use Rattle.words.proofs.Tests.{lt_yes, lt_no}
use Rattle.pages.specs.Layout.{fill_of, entry_word}
use Rattle.image.specs.Read.{entries_from}
use Rattle.entries.specs.Owners.{starts_before, entries_before}

-- ENTRIES: i are passed, all start before x
pub record Before (ws : List ℕ) (x n i : ℕ) : Type 0 where
  pub most : i ≤ n
  pub few : n ≤ 9
  pub whole : i + length (take_while (starts_before x) (entries_from ws i (n - i))) ≡ entries_before ws x

pub before_start : (ws : List ℕ) (x n : ℕ) → n ≡ fill_of ws → fill_of ws ≤ 9 → Before ws x n 0
unfolding entries_before
before_start ws x n e l =
    let z : n - 0 ≡ fill_of ws = omega arith in
    record { most = omega arith; few = omega arith; whole = rw z (omega arith) }

pub before_found : (ws : List ℕ) (x n i k : ℕ) → Before ws x n i → i < n → k ≡ get_or ws (entry_word i) 0 → x ≤ k → i ≡ entries_before ws x
before_found ws x n i k c l e h =
    let v : n - i ≡ suc (n - suc i) = omega arith in
    omega (arith, rw v at c.whole, at_entry (n - suc i) (rw e at h))
  where
    at_entry : (m : ℕ) → x ≤ get_or ws (entry_word i) 0 → length (take_while (starts_before x) (entries_from ws i (suc m))) ≡ 0
    at_entry m u = unfold entries_from take_while in rw (lt_no (get_or ws (entry_word i) 0) x u)

pub before_on : (ws : List ℕ) (x n i k : ℕ) → Before ws x n i → i < n → k ≡ get_or ws (entry_word i) 0 → k < x → Before ws x n (i + 1)
before_on ws x n i k c l e h =
    let v : n - i ≡ suc (n - suc i) = omega arith in
    let u : i + 1 ≡ suc i = omega arith in
    record { most = omega arith; few = c.few; whole = rw u (omega (arith, rw v at c.whole, at_entry (n - suc i) (rw e at h))) }
  where
    at_entry : (m : ℕ) → get_or ws (entry_word i) 0 < x → length (take_while (starts_before x) (entries_from ws i (suc m))) ≡ suc (length (take_while (starts_before x) (entries_from ws (suc i) m)))
    at_entry m u = unfold entries_from take_while in rw (lt_yes (get_or ws (entry_word i) 0) x u)

pub before_end : (ws : List ℕ) (x n i : ℕ) → Before ws x n i → n ≤ i → n ≡ entries_before ws x
before_end ws x n i c l = let v : n - i ≡ 0 = omega arith in omega (arith, c.most, rw v at c.whole, none)
  where
    none : length (take_while (starts_before x) (entries_from ws i 0)) ≡ 0
    none = unfold entries_from take_while in refl
