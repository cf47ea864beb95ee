-- `store::first_free_page` meets its contract: all places before p are in use.
use Prim.Native.Nat.{◌≤◌}
use Rattle.pages.specs.Layout.{page_used}
use Rattle.store.proofs.Turns.{AllUsed}
use Rattle.store.proofs.first_free_page.Given as goal

abbrev pub invariant-loop-p : goal.invariant-loop-p
invariant-loop-p l = (1 ≤ l.p) × (l.p ≤ 161) × AllUsed (page_used l.img) l.p
