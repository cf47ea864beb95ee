-- The census put together: the pass over the whole image, from its shares on, decides rule 6, and leaves of each share what its account does not hold.
-- Assumes nothing.
use Prim.Native.Nat.{ℕ, ◌+◌, ◌-◌, ◌<◌, ◌≤◌}
use mathlib.Core.Path.{◌≡◌, sym, ap, ◌∙◌}
use mathlib.Core.Bool.{true, false}
use mathlib.Core.List.{List, []}
use lib.Dec.{T, leb}
use lib.ListN.{length, get_or}
use native.Mathlib.Omega.{arith}
use Rattle.std.specs.Prelude.{Option, Some, is_some}
use Rattle.words.specs.Lists.{sum}
use Rattle.words.proofs.Tests.{le_of}
use Rattle.regions.specs.Sets.{held_by}
use Rattle.pages.specs.Layout.{shares_of}
use Rattle.xrtree.specs.Rules.{rule6}
use Rattle.image.specs.Read.{set_of}
use Rattle.image.specs.Shape.{shapely}
use Rattle.nesting.specs.Pass.{Passed, going}
use Rattle.census.specs.Pass.{pass, regions_at, Fills}
use Rattle.census.proofs.Shares.{share_at}
use Rattle.census.proofs.Decides.{pass_decides, rule_over, held_is}
use Rattle.census.proofs.Shaped.{SmallWords, shape_long, shape_high, shape_fills, shape_ascends, set_small, set_shares, set_regions}

-- what is asked before the pass
pub header_in : (w : List ℕ) → T (shapely w) → 18 ≤ length w
header_in w t = omega (arith, shape_long w t)

pub one_page : (w : List ℕ) (h : ℕ) → T (shapely w) → h ≡ get_or w 1 0 → 1 ≤ h
one_page w h t e = omega (arith, (shape_high w t).0)

pub fills_whole : (w : List ℕ) (h p : ℕ) → T (shapely w) → h ≡ get_or w 1 0 → p ≡ get_or w 0 0 → Fills (h - 1) w p
fills_whole w h p t eh ep = rw (eh, ep) (shape_fills w t)

-- the pass over the whole image
abbrev pub whole : List ℕ → Option Passed
whole w = pass (set_of w).regions (going [] (set_of w).shares)

pub pass_whole : (w : List ℕ) (h p : ℕ) (left : List ℕ) (s : Passed) → h ≡ get_or w 1 0 → p ≡ get_or w 0 0 → left ≡ shares_of w → s ≡ going [] left
    → pass (regions_at w (h - 1) p) s ≡ whole w
pass_whole w h p left s eh ep el es = rw (es, eh, ep, el, set_regions w, set_shares w)

pub shares_over : (w : List ℕ) → leb (sum (shares_of w)) 500 ≡ false → false ≡ rule6 (set_of w)
shares_over w h = rule_over (set_of w) (rw (set_shares w) h)

-- what a caller is told
pub whole_decides : (w : List ℕ) (o : Option Passed) → o ≡ whole w → T (shapely w) → SmallWords w → leb (sum (shares_of w)) 500 ≡ true → is_some o ≡ rule6 (set_of w)
whole_decides w o e t s h =
    ap is_some e ∙ pass_decides (set_of w) (shape_ascends w t) (set_small w s) (let k = le_of (sum (shares_of w)) 500 h in rw (set_shares w) k)

pub whole_left : (w : List ℕ) (p : Passed) → Some p ≡ whole w → (a : ℕ) → a < 16 → held_by a (set_of w) + get_or p.left a 0 ≡ get_or w (2 + a) 0
whole_left w p e a l = held_is (set_of w) p (sym e) a ∙ ap (λ (v : List ℕ). get_or v a 0) (set_shares w) ∙ share_at w a l
