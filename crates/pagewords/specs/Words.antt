-- A page's 57 words as they are written: runs of words, an entry, a key, the head.
-- Assumes nothing.
use Rattle.std.specs.Prelude.{ℕ, List, [], ◌∷◌, take, drop}
use Rattle.std.proofs.lemmas.List.Edits.{sets}
use Rattle.regions.specs.declared.Region.{Region}
use Rattle.pages.specs.declared.KeyWords.{KeyWords}

-- n words of v, from word b on, copied into u from word a on
unfoldable pub copied_in : List ℕ → ℕ → List ℕ → ℕ → ℕ → List ℕ
copied_in u a v b n = sets u a (take n (drop b v))

-- mark, fill and next leaf
unfoldable pub headed_by : List ℕ → ℕ → ℕ → ℕ → List ℕ
headed_by ws mark fill next = sets ws 0 (mark ∷ fill ∷ next ∷ [])

-- the six words of a new entry, the four of a key
abbrev pub entry_words : Region → ℕ → List ℕ
entry_words r flag = r.start ∷ r.end ∷ r.level ∷ r.reference ∷ flag ∷ 0 ∷ []

abbrev pub key_list : KeyWords → List ℕ
key_list k = k.key ∷ k.start ∷ k.end ∷ k.head ∷ []
