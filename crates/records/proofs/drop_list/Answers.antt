use mathlib.Core.Path.{◌∙◌}
use Rattle.records.proofs.Chains.{step}
use Rattle.records.proofs.Going.{drop_start, drop_less, drop_on, drop_end}
use Rattle.records.proofs.drop_list.Goals as goal

pub loop-q-init : goal.loop-q-init
loop-q-init c = drop_start c.requires.1

pub free_record-requires : goal.free_record-requires
free_record-requires c = let s = step c.loop-q.invariant.ends c.loop-q-test.true in record { img_len = c.loop-q.invariant.long ∙ c.requires.0; le_q = (s.low, s.high) }

pub loop-q-smaller : goal.loop-q-smaller
loop-q-smaller c = rw (c.free_record.ensures, c.record_next-n.ensures) (drop_less c.loop-q.invariant c.loop-q-test.true)

pub loop-q-preserved : goal.loop-q-preserved
loop-q-preserved c = rw (c.free_record.ensures, c.record_next-n.ensures) (drop_on c.loop-q.invariant c.loop-q-test.true)

pub shape_of-img : goal.shape_of-img
shape_of-img c = c.loop-q.invariant.long

pub returns : goal.returns
returns c = drop_end c.loop-q.invariant c.loop-q-test.false c.requires.0
