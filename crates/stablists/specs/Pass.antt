-- The test of the lists, as the code goes: down the tree with the keys on the left and on the right, each key's list followed along its regions, each leaf's flags tested.
-- Assumes nothing.
use Rattle.std.specs.Prelude.{ℕ, zero, suc, ◌+◌, cond, List, [], ◌∷◌, ◌++◌, get_or, Option, None, Some, option_and_then}
use Rattle.words.specs.Lists.{all}
use Rattle.regions.specs.declared.Region.{Region}
use Rattle.xrtree.specs.Rules.{pair_right}
use Rattle.pages.specs.Layout.{page_of, fill_of, child_in, key_word, entry_word, region_in, record_used}
use Rattle.image.specs.Read.{entries_from, key_at}
use Rattle.trail.specs.declared.Trail.{Trail}
use Rattle.trail.specs.declared.Home.{Home}
use Rattle.trail.specs.Pass.{regions_at, follow, Fills, begun, ended}
use Rattle.flags.specs.Pass.{flag_here}

-- of the child left of key i
abbrev pub FillsBelow : ℕ → List ℕ → ℕ → ℕ → Type 0
FillsBelow h w p i = Fills h w (child_in (page_of w p) i)

unfoldable pub first_region : List ℕ → ℕ → ℕ → Region
first_region w zero p = region_in (page_of w p) (entry_word 0)
first_region w (suc h) p = first_region w h (child_in (page_of w p) 0)

-- A KEY: key i of a page's words ws, whose children lie h pages above the leaves, between lo and hi
abbrev pub key_in : List ℕ → ℕ → ℕ
key_in ws i = get_or ws (key_word i) 0

abbrev pub head_in : List ℕ → ℕ → ℕ
head_in ws i = get_or ws (key_word i + 3) 0

abbrev pub home_in : List ℕ → ℕ → ℕ → ℕ → Home
home_in ws i lo hi = record { low = lo; key = key_in ws i; high = hi }

-- the regions among which its list is found
abbrev pub around : List ℕ → ℕ → List ℕ → ℕ → List Region
around w h ws i = regions_at w h (child_in ws i) ++ first_region w h (child_in ws (i + 1)) ∷ []

unfoldable pub key_pass : List ℕ → ℕ → List ℕ → ℕ → ℕ → ℕ → Trail → Option Trail
key_pass w h ws i lo hi t =
    cond (pair_right (key_at w ws i) (key_at w ws i).list) (option_and_then ended (follow w (home_in ws i lo hi) (around w h ws i) (begun (head_in ws i) t))) None

-- A PAGE: m keys from key i on, each followed by the child on its left; then the last child
module _ (below : ℕ → ℕ → ℕ → Trail → Option Trail) (w : List ℕ) (h : ℕ) (ws : List ℕ) where
  unfoldable pub pass_keys : ℕ → ℕ → ℕ → ℕ → Trail → Option Trail
  pass_keys i zero lo hi t = below (child_in ws i) lo hi t
  pass_keys i (suc m) lo hi t =
      option_and_then (pass_keys (suc i) m (suc (key_in ws i)) hi) (option_and_then (below (child_in ws i) lo (key_in ws i)) (key_pass w h ws i lo hi t))

unfoldable pub pass_at : List ℕ → ℕ → ℕ → ℕ → ℕ → Trail → Option Trail
pass_at w zero p lo hi t = cond (all (flag_here lo hi) (entries_from (page_of w p) 0 (fill_of (page_of w p)))) (Some t) None
pass_at w (suc h) p lo hi t = pass_keys (pass_at w h) w h (page_of w p) 0 (fill_of (page_of w p)) lo hi t

-- THE RECORDS: how many of the places 1 to n are used
unfoldable pub used_to : List ℕ → ℕ → ℕ
used_to w zero = 0
used_to w (suc n) = cond (record_used w (suc n)) 1 0 + used_to w n
