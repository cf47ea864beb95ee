-- Three pages were stored: the two parts of a page and the page above them.
-- Assumes nothing.
use Rattle.std.specs.Prelude.{ℕ, ◌≡◌, ◌≢◌, List, length}
use Rattle.pages.specs.Layout.{root_of, height_of, shares_of, page_of, record_of}

pub record Stored (w w' : List ℕ) (p : ℕ) (left : List ℕ) (r : ℕ) (right : List ℕ) (q : ℕ) (above : List ℕ) : Type 0 where
  pub long : length w' ≡ length w
  pub root : root_of w' ≡ root_of w
  pub height : height_of w' ≡ height_of w
  pub shares : shares_of w' ≡ shares_of w
  pub left_is : page_of w' p ≡ left
  pub right_is : page_of w' r ≡ right
  pub above_is : page_of w' q ≡ above
  pub pages : (x : ℕ) → x ≢ p → x ≢ r → x ≢ q → page_of w' x ≡ page_of w x
  pub records : (x : ℕ) → record_of w' x ≡ record_of w x
