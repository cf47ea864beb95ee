-- `store::first_free_record` meets its contract: all places before q are in use.
use Prim.Native.Nat.{◌≤◌}
use Rattle.pages.specs.Layout.{record_used}
use Rattle.store.proofs.Turns.{AllUsed}
use Rattle.store.proofs.first_free_record.Given as goal

abbrev pub invariant-loop-q : goal.invariant-loop-q
invariant-loop-q l = (1 ≤ l.q) × (l.q ≤ 501) × AllUsed (record_used l.img) l.q
