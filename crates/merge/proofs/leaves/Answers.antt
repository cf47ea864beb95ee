-- `leaves` makes one leaf of two: each callee gets what it asks for, and what they leave is put together.
use borrow.Author.Rules.{rules}
use mathlib.Core.Path.{◌≡◌, ◌∙◌}
use lib.ListN.{length}
use native.Mathlib.Omega.{arith}
use Rattle.merge.proofs.Assemble.{three}
use Rattle.merge.proofs.LeafMerge.{leaves_fit, leaves_law}
use Rattle.merge.proofs.Pairs.{pair_fill, pair_index, loaded, rest_ends}
use Rattle.merge.proofs.leaves.Goals as goal

pub load_page-page-requires : goal.load_page-page-requires
load_page-page-requires c = let s = c.requires.1.pair in let t = three s in record { img_len = s.stands.long; le_p = (t.above_low, t.above_high) }

pub child_in-left-requires : goal.child_in-left-requires
child_in-left-requires c = let s = c.requires.1.pair in omega (arith, pair_fill s, pair_index s)

pub overflow_add-j : goal.overflow_add-j
overflow_add-j c = let s = c.requires.1.pair in omega (arith, pair_fill s, pair_index s)

pub child_in-right-requires : goal.child_in-right-requires
child_in-right-requires c = let s = c.requires.1.pair in omega (arith, pair_fill s, pair_index s)

pub load_page-a-requires : goal.load_page-a-requires
load_page-a-requires c = let l = loaded c.requires.1.pair c.load_page-page.ensures c.child_in-left.ensures c.child_in-right.ensures in record { img_len = l.long; le_p = (l.left_low, l.left_high) }

pub load_page-b-requires : goal.load_page-b-requires
load_page-b-requires c = let l = loaded c.requires.1.pair c.load_page-page.ensures c.child_in-left.ensures c.child_in-right.ensures in record { img_len = l.long; le_p = (l.right_low, l.right_high) }

pub leaf_joined-joined-requires : goal.leaf_joined-joined-requires
leaf_joined-joined-requires c = leaves_fit c.requires.1 c.load_page-page.ensures c.child_in-left.ensures c.child_in-right.ensures c.load_page-a.ensures c.load_page-b.ensures

pub hand_on-handed-requires : goal.hand_on-handed-requires
hand_on-handed-requires c = let l = loaded c.requires.1.pair c.load_page-page.ensures c.child_in-left.ensures c.child_in-right.ensures in (l.long, l.few, l.leaving)

pub clear_flags-leaf-requires : goal.clear_flags-leaf-requires
clear_flags-leaf-requires c = let l = loaded c.requires.1.pair c.load_page-page.ensures c.child_in-left.ensures c.child_in-right.ensures in (omega (arith, c.leaf_joined-joined.ensures.fill_is, leaves_fit c.requires.1 c.load_page-page.ensures c.child_in-left.ensures c.child_in-right.ensures c.load_page-a.ensures c.load_page-b.ensures), rest_ends (c.hand_on-handed.ensures l.leaving))

pub drop_list-requires : goal.drop_list-requires
drop_list-requires c = let l = loaded c.requires.1.pair c.load_page-page.ensures c.child_in-left.ensures c.child_in-right.ensures in (c.hand_on-handed.auto.img ∙ l.long, rest_ends (c.hand_on-handed.ensures l.leaving))

pub store_merged-requires : goal.store_merged-requires
store_merged-requires c = let l = loaded c.requires.1.pair c.load_page-page.ensures c.child_in-left.ensures c.child_in-right.ensures in record { img_len = c.drop_list.auto.img ∙ c.hand_on-handed.auto.img ∙ l.long; le_left = (l.left_low, l.left_high, l.above_low, l.above_high, l.right_low, l.right_high) }

pub returns : goal.returns
returns c = let long : length c.clear_flags-leaf.result ≡ 57 = search rules in let l = loaded c.requires.1.pair c.load_page-page.ensures c.child_in-left.ensures c.child_in-right.ensures in leaves_law _ _ _ _ _ _ _ _ _ _ _ _ _ _ c.requires.1 c.load_page-page.ensures c.child_in-left.ensures c.child_in-right.ensures c.load_page-a.ensures c.load_page-b.ensures c.leaf_joined-joined.ensures c.hand_on-handed.ensures c.clear_flags-leaf.ensures c.drop_list.ensures (c.drop_list.auto.img ∙ c.hand_on-handed.auto.img ∙ l.long) (long) c.store_merged.ensures
