-- Reading a listing into two lent images: its promise.
-- Assumes nothing.
use Rattle.std.specs.Prelude.{ℕ, ◌≡◌, Bool, true, ◌&&◌, cond, List, eqb, length}
use Rattle.regions.specs.Numbers.{image_first}
use Rattle.pages.specs.Layout.{image_words}
use Rattle.image.specs.Read.{set_of}
use Rattle.image.specs.Valid.{valid}
use Rattle.form.specs.Form.{Reading, refused, read, listing_of}

-- a reading's number, 0 where it was read, and its line
unfoldable pub number_of : {X : Type 0} → Reading X → ℕ
number_of (refused number at) = number
number_of (read x) = 0

unfoldable pub line_of : {X : Type 0} → Reading X → ℕ
line_of (refused number at) = at
line_of (read x) = 0

-- both images have their length
abbrev pub lent : List ℕ → List ℕ → Bool
lent outer inner = eqb (length outer) image_words && eqb (length inner) image_words

-- IMAGE comes first, by the lengths only, since the old words are not read; no line has it
pub record ReadsListing (text outer inner : List ℕ) (number at : ℕ) (outer' inner' : List ℕ) : Type 0 where
  pub number_is : number ≡ image_first (lent outer inner) (number_of (listing_of text))
  pub line_is : at ≡ cond (lent outer inner) (line_of (listing_of text)) 0
  pub refused_is : (number ≡ 0 → ⊥) → (outer' ≡ outer) × (inner' ≡ inner)
  pub done : number ≡ 0 → (valid outer' ≡ true) × (valid inner' ≡ true) × (listing_of text ≡ read (set_of outer', set_of inner'))
