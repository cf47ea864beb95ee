-- `enter` puts a region into its place by start, into the first free record.
use Rattle.records.proofs.Marks.{room_first}
use Rattle.records.proofs.Coming.{entered_law}
use Rattle.records.proofs.enter.Goals as goal

pub put_record-requires : goal.put_record-requires
put_record-requires c = let a = c.requires in let f = room_first _ _ a.1 c.first_free_record-q.ensures in record { img_len = a.0; le_q = (f.0, f.1) }

pub returns : goal.returns
returns c = let a = c.requires in entered_law _ _ _ _ _ _ _ _ _ _ a.0 c.last_before-p.ensures (room_first _ _ a.1 c.first_free_record-q.ensures) a.2 c.record_behind-n.ensures c.put_record.ensures c.link-head.ensures.0 c.link-head.ensures.1 c.renewed.ensures
