-- A turn and the end of the loop past a leaf's entries that start before a bound.
-- Assumes nothing.
use Prim.Native.Nat.{ℕ, suc, ◌+◌, ◌-◌, ◌≤◌, ◌<◌}
use mathlib.Core.Path.{◌≡◌, refl}
use mathlib.Core.Bool.{true, false}
use mathlib.Core.List.{List}
use lib.Dec.{ltb}
use lib.ListN.{length, get_or}
use native.Mathlib.Omega.{arith}
use Rattle.words.specs.Lists.{take_while}
use Rattle.words.proofs.Tests.{lt_yes, lt_no, lt_of, nlt_of}
use Rattle.pages.specs.Layout.{page_of, fill_of, entry_word}
use Rattle.image.specs.Read.{entries_from}
use Rattle.leaves.specs.Cursors.{entries_in, starts_below, entry_rank}

-- i entries are passed, all of which start before y; those of the others that stand first and do so make the rank
pub record Passing (w : List ℕ) (p y n i : ℕ) : Type 0 where
  pub most : i ≤ n
  pub few : n ≤ 8
  pub whole : i + length (take_while (starts_below y) (entries_from (page_of w p) i (n - i))) ≡ entry_rank w p y

pub pass_start : (w : List ℕ) (p y n : ℕ) → n ≡ fill_of (page_of w p) → fill_of (page_of w p) ≤ 8 → Passing w p y n 0
unfolding entry_rank entries_in
pass_start w p y n e l =
    let z : n - 0 ≡ fill_of (page_of w p) = omega arith in
    record { most = omega arith; few = omega arith; whole = rw z (omega arith) }

module _ (w : List ℕ) (p y : ℕ) where
  front_stops : (i m : ℕ) → y ≤ get_or (page_of w p) (entry_word i) 0 → length (take_while (starts_below y) (entries_from (page_of w p) i (suc m))) ≡ 0
  unfolding entries_from take_while
  front_stops i m h = rw (lt_no (get_or (page_of w p) (entry_word i) 0) y h)

  front_goes : (i m : ℕ) → get_or (page_of w p) (entry_word i) 0 < y
      → length (take_while (starts_below y) (entries_from (page_of w p) i (suc m))) ≡ suc (length (take_while (starts_below y) (entries_from (page_of w p) (suc i) m)))
  unfolding entries_from take_while
  front_goes i m h = rw (lt_yes (get_or (page_of w p) (entry_word i) 0) y h)

  front_ends : (i : ℕ) → length (take_while (starts_below y) (entries_from (page_of w p) i 0)) ≡ 0
  unfolding entries_from take_while
  front_ends i = refl

  pub pass_found : (n i s : ℕ) → Passing w p y n i → i < n → s ≡ get_or (page_of w p) (entry_word i) 0 → ltb s y ≡ false → i ≡ entry_rank w p y
  pass_found n i s v l e h =
      let u : n - i ≡ suc (n - suc i) = omega arith in
      omega (arith, rw u at v.whole, front_stops i (n - suc i) (rw e at (nlt_of s y h)))

  pub pass_on : (n i s : ℕ) → Passing w p y n i → i < n → s ≡ get_or (page_of w p) (entry_word i) 0 → ltb s y ≡ true → Passing w p y n (i + 1)
  pass_on n i s v l e h =
      let u : n - i ≡ suc (n - suc i) = omega arith in
      let g : i + 1 ≡ suc i = omega arith in
      record { most = omega arith; few = v.few; whole = rw g (omega (arith, rw u at v.whole, front_goes i (n - suc i) (rw e at (lt_of s y h)))) }

  pub pass_end : (n i : ℕ) → Passing w p y n i → n ≤ i → n ≡ entry_rank w p y
  pass_end n i v l =
      let u : n - i ≡ 0 = omega arith in
      omega (arith, rw u at v.whole, front_ends i)
