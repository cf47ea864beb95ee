use native.Mathlib.Omega.{arith}
use Rattle.seats.proofs.Fitting.{eight_seats}
use Rattle.turns.proofs.ByTurns.{stands_first, stands_may, stands_next, stands_last}
use Rattle.turns.proofs.serve.Goals as goal

pub loop-i-init : goal.loop-i-init
loop-i-init c = stands_first _ _ _ _

pub seat_turn-requires : goal.seat_turn-requires
seat_turn-requires c = stands_may _ _ _ _ _ _ _ _ c.loop-i.invariant c.requires (omega arith)

pub loop-i-preserved : goal.loop-i-preserved
loop-i-preserved c = stands_next _ _ _ _ _ _ _ _ c.loop-i.invariant (omega arith) _ _ _ c.seat_turn.ensures

pub returns : goal.returns
returns c = stands_last _ _ _ _ _ _ _ _ c.loop-i.invariant c.requires (omega arith)

pub bounds-desk-i : goal.bounds-desk-i
bounds-desk-i c = let e = eight_seats c.args.desk.now c.requires.fits in let l = c.loop-i.auto.desk in omega arith
