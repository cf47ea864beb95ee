-- What the writers of an image's words leave, word by word.
-- Assumes nothing.
use Rattle.std.specs.Prelude.{ℕ, ◌+◌, ◌<◌, ◌≤◌, ◌≡◌, Bool, true, false, List, [], ◌∷◌, set}
use Rattle.std.proofs.lemmas.List.Edits.{sets}
use Rattle.regions.specs.declared.Region.{Region}
use Rattle.pages.specs.Layout.{page_word, entry_word, key_word, record_word}
use Rattle.pages.specs.declared.KeyWords.{KeyWords}
use Rattle.pagewords.specs.Words.{entry_words, key_list}

-- PAGES: 57 words at place p; a place given back
unfoldable pub put_page : List ℕ → ℕ → List ℕ → List ℕ
put_page w p ws = sets w (page_word p) ws

unfoldable pub free_page : List ℕ → ℕ → List ℕ
free_page w p = set w (page_word p) 0

-- WITHIN A PAGE: entry i of leaf p, key i of inner page p, the fill of either
unfoldable pub put_entry_at : List ℕ → ℕ → ℕ → Region → ℕ → List ℕ
put_entry_at w p i r flag = sets w (page_word p + entry_word i) (entry_words r flag)

unfoldable pub put_key_at : List ℕ → ℕ → ℕ → KeyWords → List ℕ
put_key_at w p i k = sets w (page_word p + key_word i) (key_list k)

unfoldable pub set_fill : List ℕ → ℕ → ℕ → List ℕ
set_fill w p n = set w (page_word p + 1) n

-- STAB RECORDS: a region with the record behind it (the sixth word stays); another record behind it; a place given back
abbrev pub record_words : Region → ℕ → List ℕ
record_words r next = r.start ∷ r.end ∷ r.level ∷ r.reference ∷ next ∷ []

unfoldable pub put_record : List ℕ → ℕ → Region → ℕ → List ℕ
put_record w q r next = sets w (record_word q) (record_words r next)

unfoldable pub set_next : List ℕ → ℕ → ℕ → List ℕ
set_next w q next = set w (record_word q + 4) next

unfoldable pub free_record : List ℕ → ℕ → List ℕ
free_record w q = set w (record_word q + 1) 0

-- HEADER
unfoldable pub set_root : List ℕ → ℕ → List ℕ
set_root w p = set w 0 p

unfoldable pub set_height : List ℕ → ℕ → List ℕ
set_height w h = set w 1 h

-- ALLOCATION: r is the first of the places 1 to n that is not in use, 0 where there is none
pub record FirstFree (used : ℕ → Bool) (n r : ℕ) : Type 0 where
  pub high : r ≤ n
  pub before : (i : ℕ) → i < r → 1 ≤ i → used i ≡ true
  pub free : 1 ≤ r → used r ≡ false
  pub none : r ≡ 0 → (i : ℕ) → i ≤ n → 1 ≤ i → used i ≡ true
