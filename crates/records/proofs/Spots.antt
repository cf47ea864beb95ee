-- The walks that look for a list's beginning: what is left of the walk gives the whole walk's answer.
-- Assumes nothing.
use Prim.Native.Nat.{ℕ, ◌≤◌, ◌<◌}
use mathlib.Core.Path.{◌≡◌, refl, sym, ap, ◌∙◌}
use mathlib.Core.Logic.{◌≢◌}
use mathlib.Core.Bool.{Bool, true, false}
use mathlib.Core.List.{List}
use native.Mathlib.Omega.{arith}
use Rattle.words.specs.Lists.{take_while, last_or}
use Rattle.words.proofs.Tests.{le_yes, le_no}
use Rattle.regions.specs.Positions.{stabs}
use Rattle.regions.specs.declared.Region.{Region}
use Rattle.pages.specs.Layout.{record_of, record_next, region_in}
use Rattle.image.specs.Read.{list_places, record_region}
use Rattle.records.specs.Touched.{Ends}
use Rattle.records.specs.Ways.{passing, LastOf}
use Rattle.records.proofs.Chains.{step, none_at}

pub record SpotInv (P : Region → Bool) (w : List ℕ) (head last q : ℕ) : Type 0 where
  pub high : last ≤ 500
  pub ends : Ends w q
  pub goal : last_or last (take_while (passing P w) (list_places w q)) ≡ last_or 0 (take_while (passing P w) (list_places w head))

pub spot_start : {P : Region → Bool} {w : List ℕ} {head : ℕ} → Ends w head → SpotInv P w head 0 head
spot_start e = record { high = omega arith; ends = e; goal = refl }

module _ {P : Region → Bool} {w : List ℕ} {head last q : ℕ} (v : SpotInv P w head last q) where
  pub spot_end : q ≡ 0 → LastOf P w head last
  unfolding take_while last_or
  spot_end z = record { high = v.high; is = rw (none_at v.ends z) at v.goal }

  pub spot_stop : (r : Region) → q ≢ 0 → r ≡ region_in (record_of w q) 0 → P r ≡ false → LastOf P w head last
  unfolding take_while last_or record_region
  spot_stop r n e t = record { high = v.high; is = simp (ap P (sym e) ∙ t) at (rw (step v.ends n).is at v.goal) }

  pub spot_on : (r : Region) → q ≢ 0 → r ≡ region_in (record_of w q) 0 → P r ≡ true → SpotInv P w head q (record_next (record_of w q))
  unfolding take_while last_or record_region
  spot_on r n e t =
      let s = step v.ends n in
      record { high = s.high; ends = s.on; goal = simp (ap P (sym e) ∙ t) at (rw s.is at v.goal) }

-- what the two tests of `last_stabbed` say
pub stabs_early : (x : ℕ) (r : Region) → x < r.start → stabs x r ≡ false
unfolding stabs
stabs_early x r h = rw (le_no r.start x h)

pub stabs_late : (x : ℕ) (r : Region) → r.start ≤ x → r.end < x → stabs x r ≡ false
unfolding stabs
stabs_late x r l h = rw (le_yes r.start x l) (le_no x r.end h)

pub stabs_yes : (x : ℕ) (r : Region) → r.start ≤ x → x ≤ r.end → stabs x r ≡ true
unfolding stabs
stabs_yes x r l h = rw (le_yes r.start x l) (le_yes x r.end h)
