-- `insert::spread`: the child on the path is spread below and then settled, and so the page is spread below; the leaf at the path's end stays as it is.
use Rattle.std.proofs.Common.{refl, get_or, arith}
use Rattle.insert.proofs.Turns.{rank_asks, spread_asks, settle_asks, spread_done, spread_none}
use Rattle.insert.proofs.+spread.Goals as goal

pub rank-i-requires : goal.rank-i-requires
rank-i-requires t c = rank_asks _ _ _ _ _ _ _ refl c.if-at-leaf.true _ _ _ _ _ c.requires.6

pub spread-requires : goal.spread-requires
spread-requires t c = (omega arith, spread_asks _ _ _ _ _ _ (get_or c.args.path c.args.at 0) refl c.if-at-leaf.true _ _ _ _ _ c.requires.6)

pub settle-requires : goal.settle-requires
settle-requires t c =
    let s = c.requires.6 in
    (omega arith, settle_asks _ _ _ _ _ _ _ refl _ c.spread.ensures _ _ _ c.rank-i.ensures refl (omega arith) c.if-at-leaf.true _ _ _ _ _ s)

pub returns-then-at-leaf : goal.returns-then-at-leaf
returns-then-at-leaf t c = λ rs h lo hi o u s. spread_done _ _ _ _ _ rs _ refl _ c.spread.ensures _ _ _ c.rank-i.ensures refl (omega arith) _ c.settle.ensures c.if-at-leaf.true h lo hi o u s

pub returns-else-at-leaf : goal.returns-else-at-leaf
returns-else-at-leaf t c = spread_none _ _ _ _ _ (λ l. omega arith)
