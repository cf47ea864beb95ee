-- `store::put_record` meets its contract: five words one behind the other.
use native.Mathlib.Omega.{arith}
use native.Mathlib.Numerals.{towards_suc}
use lib.ListN.{length-set}
use Rattle.store.specs.Store.{put_record}
use Rattle.store.proofs.put_record.Goals as goal

pub bounds-img-b-2 : goal.bounds-img-b-2
bounds-img-b-2 c = simp length-set (omega arith)

pub bounds-img-b-3 : goal.bounds-img-b-3
bounds-img-b-3 c = simp length-set (omega arith)

pub bounds-img-b-4 : goal.bounds-img-b-4
bounds-img-b-4 c = simp length-set (omega arith)

pub bounds-img-b-5 : goal.bounds-img-b-5
bounds-img-b-5 c = simp length-set (omega arith)

pub returns : goal.returns
unfolding put_record
returns c = rw c.record_at-b.ensures (simp towards_suc)
