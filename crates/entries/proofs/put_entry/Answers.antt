-- `entries::put_entry` puts the region into its leaf and into its owner's list.
use Rattle.entries.proofs.Saving.{flag_is, put_owner_asks, put_leaf_asks, put_list_asks, put_done}
use Rattle.entries.proofs.put_entry.Goals as goal

pub owner-at-requires : goal.owner-at-requires
owner-at-requires c = put_owner_asks _ _ _ c.requires _ c.depth-d.ensures

pub put_leaf-requires : goal.put_leaf-requires
put_leaf-requires c = put_leaf_asks _ _ _ c.requires _ c.depth-d.ensures

pub enter_owner-requires : goal.enter_owner-requires
enter_owner-requires c = put_list_asks _ _ _ c.requires _ c.depth-d.ensures _ c.owner-at.ensures _ (flag_is _ _ _ c.from.ensures c.is_some.ensures) _ c.put_leaf.ensures

pub returns : goal.returns
returns c = λ s. put_done _ _ _ s _ c.depth-d.ensures _ c.owner-at.ensures _ (flag_is _ _ _ c.from.ensures c.is_some.ensures) _ c.put_leaf.ensures _ c.enter_owner.ensures
