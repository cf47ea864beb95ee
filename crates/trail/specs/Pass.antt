-- A list followed record by record along the regions that belong in it.
-- Assumes nothing.
use Rattle.std.specs.Prelude.{ℕ, ◌-◌, zero, suc, ◌≤◌, Bool, ◌&&◌, cond, List, [], ◌∷◌, Option, None, Some, option_and_then, leb, ltb, eqb}
use Rattle.regions.specs.declared.Region.{Region}
use Rattle.xrtree.specs.Tree.{regions}
use Rattle.xrtree.specs.Rules.{within, same_region}
use Rattle.pages.specs.Layout.{record_count, record_of, record_next, page_of, fill_of, child_in}
use Rattle.image.specs.Read.{read_tree, record_region}
use Rattle.trail.specs.declared.Trail.{Trail}
use Rattle.trail.specs.declared.Home.{Home}

-- the regions below a place, from left to right, and the leftmost one
unfoldable pub regions_at : List ℕ → ℕ → ℕ → List Region
regions_at w h p = regions h (read_tree h w p)

-- A LIST: where it goes on, and how many records are left to be met; none where a test fails
abbrev pub going : ℕ → ℕ → Trail
going q n = record { at = q; left = n }

unfoldable pub is_home : Home → Region → Bool
is_home h r = leb h.low r.start && (leb r.start h.key && (leb h.key r.end && ltb r.end h.high))

unfoldable pub step : List ℕ → Region → Trail → Option Trail
step w r t =
    cond (within 1 record_count t.at && (leb 1 t.left && same_region (record_region w t.at) r))
    (Some (going (record_next (record_of w t.at)) (t.left - 1)))
    None

unfoldable pub meet : List ℕ → Home → Region → Trail → Option Trail
meet w h r t = cond (is_home h r) (step w r t) (Some t)

unfoldable pub follow : List ℕ → Home → List Region → Trail → Option Trail
follow w h [] t = Some t
follow w h (r ∷ rs) t = option_and_then (follow w h rs) (meet w h r t)

-- no page on the way down says that it has more than eight entries or keys
abbrev pub Deeper : ℕ → List ℕ → ℕ → Type 0
Deeper zero w p = Unit {0}
Deeper (suc h) w p =
    (i : ℕ) → i ≤ fill_of (page_of w p) → (fill_of (page_of w (child_in (page_of w p) i)) ≤ 8) × Deeper h w (child_in (page_of w p) i)

abbrev pub Fills : ℕ → List ℕ → ℕ → Type 0
Fills h w p = (fill_of (page_of w p) ≤ 8) × Deeper h w p

abbrev pub begun : ℕ → Trail → Trail
begun head t = going head t.left

unfoldable pub ended : Trail → Option Trail
ended t = cond (eqb t.at 0) (Some t) None
