-- `turns::seat_turn` meets its contract: a closed seat is left, an open one is handed its pairs and marked behind them.
use native.Mathlib.Omega.{arith}
use Rattle.turns.proofs.Handed.{hands_few, hands_long, may_open, closed_turn, open_turn}
use Rattle.turns.proofs.seat_turn.Goals as goal

pub returns-in_default : goal.returns-in_default
returns-in_default c = closed_turn _ _ c.args.s.now _ _ c.in_default.is

pub mark_behind-mark-requires : goal.mark_behind-mark-requires
mark_behind-mark-requires c =
    let m = may_open _ _ c.args.s.now _ _ _ c.in-Open.is c.requires in
    let h = c.hand-n.ensures in
    let below = m.seat in
    let few = hands_few _ _ _ _ _ _ _ m.fits h in
    let long = hands_long _ _ _ _ _ _ _ m.words h in
    omega arith

pub overflow_cast-result : goal.overflow_cast-result
overflow_cast-result c =
    let m = may_open _ _ c.args.s.now _ _ _ c.in-Open.is c.requires in
    let few = hands_few _ _ _ _ _ _ _ m.fits c.hand-n.ensures in
    record { fits = omega arith }

pub returns : goal.returns
returns c =
    let e = c.in-Open.is in
    let m = may_open _ _ c.args.s.now _ _ _ e c.requires in
    let h = c.hand-n.ensures in
    open_turn _ _ c.args.s.now _ _ _ _ _ _ _ e m.words m.seat m.fits h c.mark_behind-mark.ensures c.moved.ensures
