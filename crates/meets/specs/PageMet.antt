-- What a search meets and looks at on an inner page: a list of stab records, the lists of all its keys.
-- Assumes nothing.
use Rattle.std.specs.Prelude.{ℕ, List, [], map}
use Rattle.words.specs.Lists.{take_while}
use Rattle.regions.specs.Positions.{holds}
use Rattle.regions.specs.declared.Region.{Region}
use Rattle.regions.specs.declared.Choice.{Choice}
use Rattle.pages.specs.Layout.{page_of, fill_of}
use Rattle.xrtree.specs.Tree.{Key}
use Rattle.xrtree.specs.Search.{looks, find_kids, steps_kids}
use Rattle.image.specs.Read.{chain, record_region, key_at, kids_from}

-- the regions of at most n records from record q on; those from the head that hold p; how many are looked at
abbrev pub records_from : List ℕ → ℕ → ℕ → List Region
records_from w n q = map (record_region w) (chain n w q)

abbrev pub held_from : List ℕ → Choice → ℕ → ℕ → ℕ → List Region
held_from w ch p n q = take_while (holds ch p) (records_from w n q)

abbrev pub looked_from : List ℕ → Choice → ℕ → ℕ → ℕ → ℕ
looked_from w ch p n q = looks ch p (records_from w n q)

-- key i of a page
abbrev pub key_in : List ℕ → ℕ → ℕ → Key
key_in w page i = key_at w (page_of w page) i

-- of the m keys from key i on, with the words ws of their page: the search of their lists alone, which no child follows
abbrev pub lists_from : List ℕ → Choice → ℕ → List ℕ → ℕ → ℕ → List Region
lists_from w ch p ws i m = find_kids (λ (c : ℕ). []) ch p (kids_from (λ c. c) w ws i m) 0

abbrev pub lists_looked_from : List ℕ → Choice → ℕ → List ℕ → ℕ → ℕ → ℕ
lists_looked_from w ch p ws i m = steps_kids (λ (c : ℕ). 0) ch p (kids_from (λ c. c) w ws i m) 0

-- of a whole inner page
abbrev pub lists_met : List ℕ → Choice → ℕ → ℕ → List Region
lists_met w ch p page = lists_from w ch p (page_of w page) 0 (fill_of (page_of w page))

abbrev pub lists_looked : List ℕ → Choice → ℕ → ℕ → ℕ
lists_looked w ch p page = lists_looked_from w ch p (page_of w page) 0 (fill_of (page_of w page))
