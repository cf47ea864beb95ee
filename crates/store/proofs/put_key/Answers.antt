-- `store::put_key` meets its contract: four words one behind the other.
use native.Mathlib.Omega.{arith}
use native.Mathlib.Numerals.{towards_suc}
use lib.ListN.{length-set}
use Rattle.store.specs.Store.{put_key_at}
use Rattle.store.proofs.put_key.Goals as goal

pub bounds-img-b-2 : goal.bounds-img-b-2
bounds-img-b-2 c = simp length-set (omega arith)

pub bounds-img-b-3 : goal.bounds-img-b-3
bounds-img-b-3 c = simp length-set (omega arith)

pub bounds-img-b-4 : goal.bounds-img-b-4
bounds-img-b-4 c = simp length-set (omega arith)

pub returns : goal.returns
unfolding put_key_at
returns c = rw (c.page_at.ensures, c.key_word.ensures) (simp towards_suc)
