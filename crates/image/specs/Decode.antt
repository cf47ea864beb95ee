-- An inner page's words as lists: its keys as they stand there, and its children's places.
-- Assumes nothing.
use Rattle.std.specs.Prelude.{ℕ, zero, suc, ◌+◌, List, [], ◌∷◌, get_or}
use Rattle.pages.specs.Layout.{key_word, child_in}
use Rattle.pages.specs.declared.KeyWords.{KeyWords}

abbrev pub key_words_at : List ℕ → ℕ → KeyWords
key_words_at ws i =
    record { key = get_or ws (key_word i) 0; start = get_or ws (key_word i + 1) 0; end = get_or ws (key_word i + 2) 0; head = get_or ws (key_word i + 3) 0 }

-- m keys from key i on, m children from child i on
unfoldable pub keys_from : List ℕ → ℕ → ℕ → List KeyWords
keys_from ws i zero = []
keys_from ws i (suc m) = key_words_at ws i ∷ keys_from ws (suc i) m

unfoldable pub children_from : List ℕ → ℕ → ℕ → List ℕ
children_from ws i zero = []
children_from ws i (suc m) = child_in ws i ∷ children_from ws (suc i) m
