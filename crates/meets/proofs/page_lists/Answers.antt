use native.Mathlib.Omega.{arith}
use Rattle.meets.proofs.Loops.{page_start, page_on, page_last, page_done}
use Rattle.meets.proofs.page_lists.Goals as goal

pub loop-i-init : goal.loop-i-init
loop-i-init c = (omega arith, page_start _ _ _ _ _ c.fill-n.ensures)

pub key_list-requires : goal.key_list-requires
key_list-requires c = omega (arith, c.loop-i.invariant.1.total, c.loop-i.invariant.1.steps)

pub returns-then-p-key_number : goal.returns-then-p-key_number
returns-then-p-key_number c = page_last _ _ _ _ _ _ c.loop-i.invariant.1 _ _ _ c.loop-i-test.true c.key_number.ensures c.key_list.ensures c.if-p-key_number.true

pub loop-i-preserved : goal.loop-i-preserved
loop-i-preserved c = (omega arith, page_on _ _ _ _ _ _ c.loop-i.invariant.1 _ _ _ c.loop-i-test.true c.key_number.ensures c.key_list.ensures c.if-p-key_number.false)

pub shape_of-out : goal.shape_of-out
shape_of-out c = c.loop-i.invariant.1.long

pub returns : goal.returns
returns c = page_done _ _ _ _ _ _ c.loop-i.invariant.1 c.loop-i-test.false
