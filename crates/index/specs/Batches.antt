-- Change request C-14: a batch of saves and deletes in one call, its promise.
-- Assumes nothing.
use Rattle.std.specs.Prelude.{ℕ, ◌≡◌, List, [], ◌∷◌, length}
use Rattle.std.proofs.lemmas.List.Edits.{sets}
use Rattle.regions.specs.Numbers.{FORM, image_first}
use Rattle.regions.specs.Items.{Item, items_in, first_items, batch_no}
use Rattle.regions.specs.Items.Item.{save_item, delete_item, unknown_item}
use Rattle.image.specs.Valid.{valid}
use Rattle.index.specs.Changes.{Saves, Deletes}

-- one item, answered by a number: what the single call promises. An item that is neither is told FORM, and changes no word
abbrev pub Single : List ℕ → Item → ℕ → List ℕ → Type 0
Single w (save_item a r) number w' = Saves w a r number w'
Single w (delete_item a s) number w' = Deletes w a s number w'
Single w (unknown_item a k) number w' = (number ≡ FORM) × (w' ≡ w)

-- the single calls in their order, each on the words that those before it left, with their numbers
pub data Singly : List ℕ → List Item → List ℕ → List ℕ → Type 0 where
  none : {w : List ℕ} → Singly w [] [] w
  then : {w v u : List ℕ} {i : Item} {is : List Item} {n : ℕ} {ns : List ℕ} → Single w i n v → Singly v is ns u → Singly w (i ∷ is) (n ∷ ns) u

-- the first n items are answered: their numbers stand in the first n places, further places stay
abbrev pub AnswersFirst : ℕ → List ℕ → List ℕ → List ℕ → List ℕ → List ℕ → Type 0
AnswersFirst n w words places w' places' = (numbers : List ℕ) × Singly w (first_items n words) numbers w' × (places' ≡ sets places 0 numbers)

-- IMAGE comes first, then the batch's own tests, and nothing has been written by then; or all items are answered
pub record Batches (w words places : List ℕ) (number : ℕ) (w' places' : List ℕ) : Type 0 where
  pub number_is : number ≡ image_first (valid w) (batch_no (length words) (length places))
  pub refused : (number ≡ 0 → ⊥) → (w' ≡ w) × (places' ≡ places)
  pub done : number ≡ 0 → AnswersFirst (items_in words) w words places w' places'
