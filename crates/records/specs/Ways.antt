-- Ways along a list and changes of it, by words and places.
-- Assumes nothing.
use Rattle.std.specs.Prelude.{ℕ, ◌≤◌, ◌≡◌, Bool, cond, List, [], ◌∷◌, eqb, ltb}
use Rattle.words.specs.Lists.{take_while, last_or}
use Rattle.regions.specs.declared.Region.{Region}
use Rattle.pages.specs.Layout.{record_of, record_next, record_count}
use Rattle.pages.specs.declared.KeyWords.{KeyWords}
use Rattle.image.specs.Read.{record_region, list_places}
use Rattle.store.specs.Store.{set_next, free_record}

-- a region that starts before s
abbrev pub before : ℕ → Region → Bool
before s r = ltb r.start s

-- of the list from `head` on, the longest beginning whose regions pass a test: its last place, 0 where it is empty
abbrev pub passing : (Region → Bool) → List ℕ → ℕ → Bool
passing P w q = P (record_region w q)

pub record LastOf (P : Region → Bool) (w : List ℕ) (head r : ℕ) : Type 0 where
  pub high : r ≤ record_count
  pub is : r ≡ last_or 0 (take_while (passing P w) (list_places w head))

-- what stands behind place p in the list from `head` on, and at its front where p is 0
unfoldable pub behind : List ℕ → ℕ → ℕ → ℕ
behind w head p = cond (eqb p 0) head (record_next (record_of w p))

-- the list from n on behind place p: the words, and the head of that list; n itself where p is 0
unfoldable pub linked_words : List ℕ → ℕ → ℕ → List ℕ
linked_words w p n = cond (eqb p 0) w (set_next w p n)

unfoldable pub linked_head : ℕ → ℕ → ℕ → ℕ
linked_head head p n = cond (eqb p 0) n head

-- a key's words with the stored pair that belongs to its list
unfoldable pub first_or0 : (Region → ℕ) → List ℕ → ℕ → ℕ
first_or0 f w head = cond (eqb head 0) 0 (f (record_region w head))

abbrev pub key_from : List ℕ → ℕ → ℕ → KeyWords
key_from w n head =
    record { key = n; start = first_or0 (λ (r : Region). r.start) w head; end = first_or0 (λ (r : Region). r.end) w head; head = head }

-- all of a list's records given back
unfoldable pub free_all : List ℕ → List ℕ → List ℕ
free_all w [] = w
free_all w (q ∷ qs) = free_all (free_record w q) qs
