-- `mend_right` joins the thin right child with its left neighbour, or has that lend.
use native.Mathlib.Omega.{arith}
use Rattle.mending.proofs.Couples.{pair_small, left_four, right_joins, right_joined, left_lends, right_takes, right_took}
use Rattle.mending.proofs.mend_right.Goals as goal

pub child_fill-n-requires : goal.child_fill-n-requires
child_fill-n-requires c = omega (arith, pair_small c.requires.1.couple)

pub merge_pages-requires : goal.merge_pages-requires
merge_pages-requires c = (c.requires.0, right_joins c.requires.1 _ c.child_fill-n.ensures (omega (arith, c.most_joined.ensures, c.if-n-most_joined.true)))

pub overflow_sub-n : goal.overflow_sub-n
overflow_sub-n c = omega (arith, left_four c.requires.1 _ c.child_fill-n.ensures)

pub split_page-requires : goal.split_page-requires
split_page-requires c = (c.requires.0, left_lends c.requires.1 _ c.child_fill-n.ensures (omega (arith, c.most_joined.ensures, c.if-n-most_joined.false)))

pub overflow_add-j : goal.overflow_add-j
overflow_add-j c = omega (arith, pair_small c.requires.1.couple)

pub merge_pages-requires-else-n-most_joined : goal.merge_pages-requires-else-n-most_joined
merge_pages-requires-else-n-most_joined c =
    (c.requires.0, right_takes c.requires.1 _ c.child_fill-n.ensures _ (omega (arith, c.most_joined.ensures, c.if-n-most_joined.false)) c.split_page.ensures)

pub returns-then-n-most_joined : goal.returns-then-n-most_joined
returns-then-n-most_joined c = λ s. right_joined s _ c.child_fill-n.ensures (omega (arith, c.most_joined.ensures, c.if-n-most_joined.true)) c.merge_pages.ensures

pub returns-else-n-most_joined : goal.returns-else-n-most_joined
returns-else-n-most_joined c =
    λ s. right_took s _ c.child_fill-n.ensures _ (omega (arith, c.most_joined.ensures, c.if-n-most_joined.false)) c.split_page.ensures c.merge_pages-else-n-most_joined.ensures
