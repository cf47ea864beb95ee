-- Which pairs of a d come past a mark, and one of them written and counted.
-- Assumes nothing.
use Prim.Native.Nat.{ℕ, ◌+◌, ◌≤◌, ◌<◌}
use mathlib.Core.Path.{◌≡◌, sym}
use mathlib.Core.Bool.{true, false}
use mathlib.Core.List.{List, [], ◌∷◌}
use lib.Dec.{ltb}
use native.Mathlib.Omega.{arith}
use Rattle.words.specs.Lists.{filter}
use Rattle.words.proofs.Tests.{and_false, and_true, eq_yes, eq_no, lt_yes, lt_no}
use Rattle.regions.specs.Positions.{holds}
use Rattle.regions.specs.Calls.{choice_of, level_fits, pairs_with, pair_of, pair_words}
use Rattle.regions.specs.Desk.{later, is_past}
use Rattle.regions.specs.declared.Region.{Region}
use Rattle.regions.specs.declared.Kind.{Kind}
use Rattle.regions.specs.declared.Mark.{Mark}
use Rattle.regions.specs.declared.Mark.TheVariants.{Fresh, Last}
use Rattle.answers.specs.Items.{written_from}
use Rattle.answers.proofs.Items.{from_none}
use Rattle.pairing.specs.Pairs.{paired, PairedUp}

-- MARKS
pub past_fresh : (m : Mark) (d a : Region) → m ≡ Fresh → true ≡ is_past m (pair_of d a)
unfolding is_past
past_fresh m d a e = rw e

module _ (m : Mark) (d a : Region) (x y : ℕ) (e : m ≡ Last x y) where
  pub past_later : y < d.start → true ≡ is_past m (pair_of d a)
  unfolding is_past later
  past_later h = rw (e, lt_yes y d.start h)

  pub past_earlier : d.start < y → false ≡ is_past m (pair_of d a)
  unfolding is_past later
  past_earlier h = rw (e, lt_no y d.start (omega arith), eq_no y d.start (λ f. omega arith))

  pub past_same : d.start ≤ y → y ≤ d.start → ltb x a.start ≡ is_past m (pair_of d a)
  unfolding is_past later
  past_same h k = rw (e, lt_no y d.start (omega arith), eq_yes y d.start (omega arith))

-- BOTH: the pair is not past the mark; it is, and a holds d
pub takes_not : (k : Kind) (m : Mark) (d a : Region) → is_past m (pair_of d a) ≡ false → false ≡ paired k m d a
unfolding paired
takes_not k m d a e = rw e (sym (and_false (pairs_with k d a)))

pub takes_fitting : (k : Kind) (m : Mark) (d a : Region) → holds (choice_of k) d.start a ≡ true → is_past m (pair_of d a) ≡ true → level_fits k d.level a ≡ paired k m d a
unfolding paired pairs_with
takes_fitting k m d a h e = rw (h, e) (sym (and_true (level_fits k d.level a)))

module _ {k : Kind} {m : Mark} {d : Region} {out : List ℕ} {n : ℕ} where
  -- one, which is passed by or written
  pub paired_none : {a : Region} → paired k m d a ≡ false → PairedUp (a ∷ []) k m d true out n out n
  unfolding filter
  paired_none h = record { words = rw h (sym (from_none pair_words 4 n out)); total = rw h (omega arith); few = omega arith }

  pub paired_one : {a : Region} {out' : List ℕ} → paired k m d a ≡ true → out' ≡ written_from pair_words 4 n out (pair_of d a ∷ []) → PairedUp (a ∷ []) k m d true out n out' (n + 1)
  unfolding filter
  paired_one h e = record { words = rw h e; total = rw h; few = omega arith }
