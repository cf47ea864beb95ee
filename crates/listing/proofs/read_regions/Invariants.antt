-- `listing::read_regions` meets its contract.
use Prim.Native.Nat.{◌-◌}
use mathlib.Core.Path.{◌≡◌}
use lib.Dec.{T}
use lib.ListN.{length}
use Rattle.image.specs.Read.{set_of}
use Rattle.image.specs.Valid.{valid}
use Rattle.form.specs.Form.{items, section, region_no, saved_line}
use Rattle.changes.specs.Counts.{Counted}
use Rattle.form.specs.Steps.{place_at, Stands}
use Rattle.listing.proofs.read_regions.Given as goal

abbrev pub invariant-loop-this : goal.invariant-loop-this
invariant-loop-this l = T (valid l.img) × Counted l.held l.img × Stands l.text l.this l.here × (section region_no saved_line 500 (set_of l.initial.img) (place_at l.text l.line l.at) ≡ items region_no saved_line (l.end - l.this) (set_of l.img) (place_at l.text l.this l.here)) × (length l.img ≡ length l.initial.img)
