-- `form::read_shares` meets its contract.
use Prim.Native.Nat.{◌-◌}
use mathlib.Core.Path.{◌≡◌}
use lib.ListN.{length}
use Rattle.form.specs.Form.{items, section, no_shares, share_no, shared}
use Rattle.form.specs.Steps.{place_at, Stands}
use Rattle.form.proofs.read_shares.Given as goal

abbrev pub invariant-loop-this : goal.invariant-loop-this
invariant-loop-this l = (length l.shares ≡ 16) × Stands l.text l.this l.here × (section share_no shared 16 no_shares (place_at l.text l.line l.at) ≡ items share_no shared (l.end - l.this) (record { sixteen = l.shares; from = l.from }) (place_at l.text l.this l.here))
