-- Document 01, "A valid image": the seven rules, and that an image has them.
-- Assumes nothing.
use Rattle.std.specs.Prelude.{ℕ, Bool, ◌&&◌, List, eqb, length}
use Rattle.xrtree.specs.Tree.{Tree, page_places, record_places}
use Rattle.xrtree.specs.Rules.{within, rule1, rule2, rule3, rule4, rule5, rule6, placed}
use Rattle.pages.specs.Layout.{image_words, height_of, page_count, record_count, page_used, record_used}
use Rattle.image.specs.Read.{depth_of, tree_of, set_of}

-- 12,288 words, and one to four pages on a path
unfoldable pub sized : List ℕ → Bool
sized w = eqb (length w) image_words && within 1 4 (height_of w)

-- RULE 7: each place, of a page or of a stab record, is either used by the tree, once, or marked as unused
unfoldable pub rule7 : List ℕ → (h : ℕ) → Tree h → Bool
rule7 w h t = placed (page_used w) page_count (page_places h t) && placed (record_used w) record_count (record_places h t)

-- the tree's own rules, 1 to 5
unfoldable pub tree_rules : (h : ℕ) → Tree h → Bool
tree_rules h t = rule1 h t && (rule2 h t && (rule3 h t && (rule4 h t && rule5 h t)))

unfoldable pub valid : List ℕ → Bool
valid w = sized w && (tree_rules (depth_of w) (tree_of w) && (rule6 (set_of w) && rule7 w (depth_of w) (tree_of w)))
