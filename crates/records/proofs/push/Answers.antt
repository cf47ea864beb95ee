-- `push` puts a region in front of a key's list, into the first free record.
use Rattle.records.proofs.Marks.{room_first}
use Rattle.records.proofs.Coming.{pushed_law}
use Rattle.records.proofs.push.Goals as goal

pub put_record-requires : goal.put_record-requires
put_record-requires c = let a = c.requires in let f = room_first _ _ a.1 c.first_free_record-q.ensures in record { img_len = a.0; le_q = (f.0, f.1) }

pub returns : goal.returns
returns c = let a = c.requires in pushed_law _ _ _ _ _ _ a.0 (room_first _ _ a.1 c.first_free_record-q.ensures) a.2 c.put_record.ensures c.renewed.ensures
