-- `insert::relieve_root` leaves a root of eight or less as it is, and puts a root above one of nine.
use native.Mathlib.Omega.{arith}
use mathlib.Core.Path.{sym, ◌∙◌}
use Rattle.insert.proofs.Roots.{top_kept, grow_asks, settle_asks, top_done}
use Rattle.insert.proofs.relieve_root.Goals as goal

pub returns-then-fill-ne9 : goal.returns-then-fill-ne9
returns-then-fill-ne9 c = λ s. top_kept _ _ s _ c.root-p.ensures (λ e. c.if-fill-ne9.true (c.fill.ensures ∙ e))

pub grow_root-requires : goal.grow_root-requires
grow_root-requires c = grow_asks _ _ c.requires _ c.root-p.ensures (sym c.fill.ensures ∙ c.if-fill-ne9.false)

pub settle-requires : goal.settle-requires
settle-requires c =
    let s = c.requires in
    (omega arith, settle_asks _ _ s _ c.root-p.ensures (sym c.fill.ensures ∙ c.if-fill-ne9.false) _ (c.grow_root.ensures s.rs s.h s.t s.whole) _ c.root-q.ensures)

pub returns : goal.returns
returns c = λ s. top_done _ _ s _ c.root-p.ensures (sym c.fill.ensures ∙ c.if-fill-ne9.false) _ (c.grow_root.ensures s.rs s.h s.t s.whole) _ c.root-q.ensures _ c.settle.ensures
