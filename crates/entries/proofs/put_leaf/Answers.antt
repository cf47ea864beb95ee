-- `entries::put_leaf` moves the entries behind, writes the entry into the gap and raises the fill: the leaf is stored with the entry.
use borrow.Author.Rules.{rules}
use native.Mathlib.Omega.{arith}
use Rattle.entries.proofs.Halves.{room_for, put_leaf_done}
use Rattle.entries.proofs.put_leaf.Goals as goal

pub entry_word-requires : goal.entry_word-requires
entry_word-requires c = let h = room_for _ _ _ _ c.entries_before-i.ensures c.requires in omega arith

pub overflow_add-gap : goal.overflow_add-gap
overflow_add-gap c = let h = room_for _ _ _ _ c.entries_before-i.ensures c.requires in omega arith

pub overflow_sub-run : goal.overflow_sub-run
overflow_sub-run c = let h = room_for _ _ _ _ c.entries_before-i.ensures c.requires in omega arith

pub move_up-requires : goal.move_up-requires
move_up-requires c = let h = room_for _ _ _ _ c.entries_before-i.ensures c.requires in record { img_len = search rules; n_bound = omega arith }

pub put_entry-requires : goal.put_entry-requires
put_entry-requires c = let h = room_for _ _ _ _ c.entries_before-i.ensures c.requires in record { img_len = search rules; le_p = (h.2, h.3, omega arith) }

pub set_fill-requires : goal.set_fill-requires
set_fill-requires c = let h = room_for _ _ _ _ c.entries_before-i.ensures c.requires in
    record { img_len = search rules; le_p = (h.2, h.3) }

pub returns : goal.returns
returns c =
    put_leaf_done _ _ _ _ _ _ _ _ _ _ _ _ c.entries_before-i.ensures c.requires.1
    (omega (arith, c.page_at.ensures, c.entry_word.ensures)) (omega (arith, c.fill-n.ensures)) c.move_up.ensures
    (omega arith) c.put_entry.ensures (omega (arith, c.fill-n.ensures)) c.set_fill.ensures
