-- The three parts in which an image is tested: its shape, its regions, its lists; each may lean on the ones before.
-- Assumes nothing.
use Rattle.std.specs.Prelude.{ℕ, Bool, ◌&&◌, List}
use Rattle.xrtree.specs.Tree.{page_places, record_places}
use Rattle.xrtree.specs.Rules.{rule1, rule2, rule3, rule4, rule5, rule6, placed}
use Rattle.pages.specs.Layout.{page_count, record_count, page_used, record_used}
use Rattle.image.specs.Read.{depth_of, tree_of, set_of}
use Rattle.image.specs.Valid.{sized}

-- its size, rules 1 and 2, and rule 7 of pages
unfoldable pub shapely : List ℕ → Bool
shapely w =
    sized w && (rule1 (depth_of w) (tree_of w) && (rule2 (depth_of w) (tree_of w) && placed (page_used w) page_count (page_places (depth_of w) (tree_of w))))

-- rule 6
abbrev pub regions_right : List ℕ → Bool
regions_right w = rule6 (set_of w)

-- rules 3, 4 and 5, and rule 7 of stab records
unfoldable pub lists_right : List ℕ → Bool
lists_right w =
    rule3 (depth_of w) (tree_of w) &&
    (rule4 (depth_of w) (tree_of w) && (rule5 (depth_of w) (tree_of w) && placed (record_used w) record_count (record_places (depth_of w) (tree_of w))))
