-- `mend_page` mends the child on x's way with a neighbour, where it holds three.
use Rattle.mending.proofs.Turns.{thin_few, thin_index, thin_kept, as_left, one_before, as_right}
use Rattle.mending.proofs.mend_page.Goals as goal

pub rank-i-requires : goal.rank-i-requires
rank-i-requires c = thin_few c.requires.1

pub child_fill-n-requires : goal.child_fill-n-requires
child_fill-n-requires c = thin_index c.requires.1 _ c.rank-i.ensures

pub returns-then-n-ge4 : goal.returns-then-n-ge4
returns-then-n-ge4 c = λ s. thin_kept s _ c.rank-i.ensures _ c.child_fill-n.ensures c.if-n-ge4.true

pub mend_left-requires : goal.mend_left-requires
mend_left-requires c = (c.requires.0, (as_left c.requires.1 _ c.rank-i.ensures _ c.child_fill-n.ensures c.if-n-ge4.false _ c.fill-keys.ensures c.if-i-keys.true).0)

pub overflow_sub-i : goal.overflow_sub-i
overflow_sub-i c = one_before c.requires.1 _ c.rank-i.ensures _ c.child_fill-n.ensures c.if-n-ge4.false _ c.fill-keys.ensures c.if-i-keys.false

pub mend_right-requires : goal.mend_right-requires
mend_right-requires c = (c.requires.0, (as_right c.requires.1 _ c.rank-i.ensures _ c.child_fill-n.ensures c.if-n-ge4.false _ c.fill-keys.ensures c.if-i-keys.false).0)

pub returns-then-i-keys : goal.returns-then-i-keys
returns-then-i-keys c = λ s. let a = as_left s _ c.rank-i.ensures _ c.child_fill-n.ensures c.if-n-ge4.false _ c.fill-keys.ensures c.if-i-keys.true in a.1 _ (c.mend_left.ensures a.0)

pub returns-else-i-keys : goal.returns-else-i-keys
returns-else-i-keys c = λ s. let a = as_right s _ c.rank-i.ensures _ c.child_fill-n.ensures c.if-n-ge4.false _ c.fill-keys.ensures c.if-i-keys.false in a.1 _ (c.mend_right.ensures a.0)
