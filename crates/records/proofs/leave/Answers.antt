-- `leave` takes a region out of a key's list and gives its record back.
use Rattle.records.proofs.Going.{left_law, left_none, left_range}
use Rattle.records.proofs.leave.Goals as goal

pub returns-then-gone-eq0 : goal.returns-then-gone-eq0
returns-then-gone-eq0 c = left_none _ _ _ _ _ _ c.last_before-p.ensures c.record_behind-gone.ensures c.if-gone-eq0.true c.renewed.ensures

pub free_record-requires : goal.free_record-requires
free_record-requires c = let a = c.requires in let f = left_range _ _ _ _ _ a.1 c.last_before-p.ensures c.record_behind-gone.ensures c.if-gone-eq0.false in record { img_len = a.0; le_q = (f.0, f.1) }

pub returns : goal.returns
returns c = let a = c.requires in left_law _ _ _ _ _ _ _ _ _ _ a.0 c.last_before-p.ensures c.record_behind-gone.ensures c.if-gone-eq0.false c.record_next-n.ensures c.free_record.ensures c.link-head.ensures.0 c.link-head.ensures.1 c.renewed-2.ensures
