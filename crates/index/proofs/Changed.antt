-- Save and delete behind the test of the image: what was promised of a valid one.
-- Assumes nothing.
use Prim.Native.Nat.{ℕ}
use mathlib.Core.Path.{◌≡◌}
use mathlib.Core.List.{List}
use lib.Dec.{T}
use Rattle.words.proofs.Tests.{of_T}
use Rattle.regions.specs.Numbers.{image_first}
use Rattle.regions.specs.Calls.{save_no, delete_no}
use Rattle.regions.specs.declared.Region.{Region}
use Rattle.regions.proofs.Numbers.{own_number}
use Rattle.image.specs.Read.{set_of}
use Rattle.image.specs.Valid.{valid}
use Rattle.changes.specs.Changed.{SavesIn, DeletesIn}
use Rattle.index.specs.Changes.{Saves, Deletes}

-- the number of a call on a valid image is the call's own
tested_number : (w : List ℕ) (m n : ℕ) → T (valid w) → m ≡ n → m ≡ image_first (valid w) n
tested_number w m n v e = own_number (valid w) m n (of_T (valid w) v) e

-- SAVE
module _ (w : List ℕ) (a : ℕ) (r : Region) where
  pub save_tested : (n : ℕ) (w' : List ℕ) → T (valid w) → SavesIn w a r n w' → Saves w a r n w'
  save_tested n w' v s =
      record {
        number_is = tested_number w n (save_no (set_of w) a r) v s.number_is;
        refused = s.refused;
        done = λ z. (of_T (valid w') (s.done z).0, (s.done z).1);
      }

-- DELETE
module _ (w : List ℕ) (a s : ℕ) where
  pub delete_tested : (n : ℕ) (w' : List ℕ) → T (valid w) → DeletesIn w a s n w' → Deletes w a s n w'
  delete_tested n w' v d =
      record {
        number_is = tested_number w n (delete_no (set_of w) a s) v d.number_is;
        refused = d.refused;
        done = λ z. (of_T (valid w') (d.done z).0, (d.done z).1);
      }
