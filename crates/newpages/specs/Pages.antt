-- What a page holds, as lists, and what a change of one item makes of a list.
-- Assumes nothing.
use Rattle.std.specs.Prelude.{ℕ, zero, suc, ◌+◌, ◌≡◌, List, [], ◌∷◌, ◌++◌, get_or, take, drop}
use Rattle.regions.specs.declared.Region.{Region}
use Rattle.xrtree.specs.Tree.{Entry}
use Rattle.pages.specs.Layout.{mark_of, fill_of, next_of, region_in, entry_word}
use Rattle.pages.specs.declared.KeyWords.{KeyWords}
use Rattle.image.specs.Read.{entries_from}
use Rattle.image.specs.Decode.{keys_from, children_from}

-- LISTS: x put in as element i, element i taken out, x in place of element i
module _ {A : Type 0} where
  abbrev pub put_in : ℕ → A → List A → List A
  put_in i x xs = take i xs ++ x ∷ drop i xs

  abbrev pub taken_out : ℕ → List A → List A
  taken_out i xs = take i xs ++ drop (suc i) xs

  abbrev pub put_for : ℕ → A → List A → List A
  put_for i x xs = take i xs ++ x ∷ drop (suc i) xs

-- A LEAF: its entries, and the sixth word of each, which moves with its entry
abbrev pub entries_of : List ℕ → List Entry
entries_of ws = entries_from ws 0 (fill_of ws)

-- an entry as it is put in; entry i with another flag
abbrev pub new_entry : Region → ℕ → Entry
new_entry r flag = record { region = r; flag = flag }

abbrev pub flagged_entry : List ℕ → ℕ → ℕ → Entry
flagged_entry ws i flag = record { region = region_in ws (entry_word i); flag = flag }

abbrev pub spare_in : List ℕ → ℕ → ℕ
spare_in ws i = get_or ws (entry_word i + 5) 0

unfoldable pub spares_from : List ℕ → ℕ → ℕ → List ℕ
spares_from ws i zero = []
spares_from ws i (suc m) = spare_in ws i ∷ spares_from ws (suc i) m

abbrev pub spares_of : List ℕ → List ℕ
spares_of ws = spares_from ws 0 (fill_of ws)

pub record IsLeaf (ws : List ℕ) (mark fill next : ℕ) (es : List Entry) (spares : List ℕ) : Type 0 where
  pub mark_is : mark_of ws ≡ mark
  pub fill_is : fill_of ws ≡ fill
  pub next_is : next_of ws ≡ next
  pub entries_are : entries_of ws ≡ es
  pub spares_are : spares_of ws ≡ spares

-- AN INNER PAGE: its keys, and one child more
abbrev pub keys_of : List ℕ → List KeyWords
keys_of ws = keys_from ws 0 (fill_of ws)

abbrev pub children_of : List ℕ → List ℕ
children_of ws = children_from ws 0 (suc (fill_of ws))

pub record IsInner (ws : List ℕ) (mark fill next : ℕ) (ks : List KeyWords) (cs : List ℕ) : Type 0 where
  pub mark_is : mark_of ws ≡ mark
  pub fill_is : fill_of ws ≡ fill
  pub next_is : next_of ws ≡ next
  pub keys_are : keys_of ws ≡ ks
  pub children_are : children_of ws ≡ cs
