-- Where a page's and a record's words stand in the image.
-- Assumes nothing.
use Prim.Native.Nat.{ℕ, ◌+◌, ◌*◌, ◌<◌}
use mathlib.Core.Path.{◌≡◌, sym, ◌∙◌}
use mathlib.Core.List.{List}
use lib.ListN.{get_or, drop}
use lib.Seq.{get_or-take, get_or-drop}
use Rattle.pages.specs.Layout.{page_of, record_of}

pub page_word_at : (w : List ℕ) (p i : ℕ) → i < 57 → get_or (page_of w p) i 0 ≡ get_or w (57 * p + i) 0
unfolding page_of
page_word_at w p i h = get_or-take 57 (drop (57 * p) w) i 0 h ∙ get_or-drop (57 * p) w i 0

pub record_word_at : (w : List ℕ) (q i : ℕ) → i < 6 → get_or (record_of w q) i 0 ≡ get_or w (9177 + 6 * q + i) 0
unfolding record_of
record_word_at w q i h = get_or-take 6 (drop (9177 + 6 * q) w) i 0 h ∙ get_or-drop (9177 + 6 * q) w i 0

-- the same of a word that was read at the place's first word and i more
pub page_word_is : (w : List ℕ) (p b i x : ℕ) → i < 57 → b ≡ 57 * p → x ≡ get_or w (b + i) 0 → x ≡ get_or (page_of w p) i 0
page_word_is w p b i x h e f = f ∙ rw e (sym (page_word_at w p i h))

pub record_word_is : (w : List ℕ) (q b i x : ℕ) → i < 6 → b ≡ 9177 + 6 * q → x ≡ get_or w (b + i) 0 → x ≡ get_or (record_of w q) i 0
record_word_is w q b i x h e f = f ∙ rw e (sym (record_word_at w q i h))
