-- `entries::take_leaf` stores the leaf without the entry.
-- a page by value has 57 words
use borrow.Author.Rules.{rules}
use mathlib.Core.Path.{◌≡◌}
use lib.ListN.{length}
use Rattle.entries.proofs.Halves.{ready_range, loaded_entry, take_leaf_done}
use Rattle.entries.proofs.take_leaf.Goals as goal

pub load_page-ws-requires : goal.load_page-ws-requires
load_page-ws-requires c = record { img_len = search rules; le_p = ready_range _ _ _ c.requires.0 }

pub leaf_without-without-requires : goal.leaf_without-without-requires
leaf_without-without-requires c = loaded_entry _ _ _ _ _ c.load_page-ws.ensures c.requires.0 c.requires.2

pub store_page-requires : goal.store_page-requires
store_page-requires c = record { img_len = search rules; le_p = ready_range _ _ _ c.requires.0 }

pub returns : goal.returns
returns c = let long : length c.leaf_without-without.result ≡ 57 = search rules in take_leaf_done _ _ _ _ _ _ _ c.requires.1 c.load_page-ws.ensures c.leaf_without-without.ensures (long) c.store_page.ensures
