-- Document 01, "Calls": opening a set, its promise, and the image that it leaves.
-- Assumes nothing.
use Rattle.std.specs.Prelude.{ℕ, ◌≡◌, List, ◌∷◌, ◌++◌, eqb, length, set, replicate}
use Rattle.regions.specs.Numbers.{image_first}
use Rattle.regions.specs.Calls.{open_set_no}
use Rattle.pages.specs.Layout.{image_words, page_width}

-- the words of a set just opened: root 1, height 1, the sixteen shares; then all are 0, but that page 1, an empty leaf, is in use
unfoldable pub opened_image : List ℕ → List ℕ
opened_image shares = set (1 ∷ 1 ∷ (shares ++ replicate 12270 0)) page_width 1

-- IMAGE comes first, at opening by the length only; then the true sum of the shares
unfoldable pub open_no : List ℕ → List ℕ → ℕ
open_no w shares = image_first (eqb (length w) image_words) (open_set_no shares)

pub record OpensSet (w shares : List ℕ) (number : ℕ) (w' : List ℕ) : Type 0 where
  pub number_is : number ≡ open_no w shares
  pub refused : (number ≡ 0 → ⊥) → w' ≡ w
  pub done : number ≡ 0 → w' ≡ opened_image shares
