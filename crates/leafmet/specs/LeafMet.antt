-- What a search meets in a leaf.
-- Assumes nothing.
use Rattle.std.specs.Prelude.{ℕ, List, map}
use Rattle.words.specs.Lists.{filter}
use Rattle.regions.specs.declared.Region.{Region}
use Rattle.regions.specs.declared.Choice.{Choice}
use Rattle.pages.specs.Layout.{page_of, fill_of}
use Rattle.xrtree.specs.Tree.{Entry, region_of}
use Rattle.xrtree.specs.Search.{holds_free}
use Rattle.image.specs.Read.{entries_from}

-- of some entries of a leaf, and of the m from entry i on
abbrev pub entries_met : Choice → ℕ → List Entry → List Region
entries_met ch p es = map region_of (filter (holds_free ch p) es)

abbrev pub own_from : Choice → ℕ → List ℕ → ℕ → ℕ → List Region
own_from ch p ws i m = entries_met ch p (entries_from ws i m)

-- of a whole leaf
abbrev pub leaf_met : List ℕ → Choice → ℕ → ℕ → List Region
leaf_met w ch p page = own_from ch p (page_of w page) 0 (fill_of (page_of w page))
