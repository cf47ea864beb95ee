-- `entries::take_entry` takes the region out of its leaf and out of its owner's list.
use Rattle.entries.proofs.Deleting.{leaf_few, entry_below, owner_asks, take_leaf_asks, take_list_asks, take_done}
use Rattle.entries.proofs.take_entry.Goals as goal

pub entries_before-i-requires : goal.entries_before-i-requires
entries_before-i-requires c = leaf_few _ _ _ c.requires _ c.depth-d.ensures

pub entry_region-r-requires : goal.entry_region-r-requires
entry_region-r-requires c = entry_below _ _ _ c.requires _ c.depth-d.ensures _ c.entries_before-i.ensures

pub owner-at-requires : goal.owner-at-requires
owner-at-requires c = owner_asks _ _ _ c.requires _ c.depth-d.ensures _ c.entries_before-i.ensures _ c.entry_region-r.ensures

pub take_leaf-requires : goal.take_leaf-requires
take_leaf-requires c = take_leaf_asks _ _ _ c.requires _ c.depth-d.ensures _ c.entries_before-i.ensures

pub leave_owner-requires : goal.leave_owner-requires
leave_owner-requires c = take_list_asks _ _ _ c.requires _ c.depth-d.ensures _ c.entries_before-i.ensures _ c.entry_region-r.ensures _ c.owner-at.ensures _ c.take_leaf.ensures

pub returns : goal.returns
returns c = λ s. take_done _ _ _ s _ c.depth-d.ensures _ c.entries_before-i.ensures _ c.entry_region-r.ensures _ c.owner-at.ensures _ c.take_leaf.ensures _ c.leave_owner.ensures
