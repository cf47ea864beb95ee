-- `turns::hand` meets its contract: by what the join's writer leaves in the part.
use mathlib.Core.Path.{refl}
use Prim.Native.Nat.{◌+◌, ◌*◌, ◌-◌}
use native.Mathlib.Omega.{arith}
use Rattle.words.proofs.Tests.{T_of}
use Rattle.regions.proofs.Seats.{open_ok}
use Rattle.turns.proofs.Handed.{hands}
use borrow.Author.Rules.{rules}
use Rattle.turns.proofs.hand.Goals as goal

pub slice_bounds-pairs_past-end : goal.slice_bounds-pairs_past-end
slice_bounds-pairs_past-end c = let m = c.requires in let e = m.words in let l = m.seat in let h = (open_ok c.args.o m.fits).high in let r = c.pairs_a_turn.ensures in search rules

pub pairs_past-requires : goal.pairs_past-requires
pairs_past-requires c = let m = c.requires in record { outer_valid = T_of m.outer_valid; inner_valid = T_of m.inner_valid; account_le_last_account = (open_ok c.args.o m.fits).range }

pub returns : goal.returns
returns c =
    let p = c.pairs_past in
    let t = c.pairs_a_turn in
    let r = t.ensures in
    let a = c.args in
    let m = c.requires in
    hands _ _ a.o a.buffer.now a.i ((128 * a.i + 4 * t.result) - 128 * a.i) _ p.result p.new.out m.words m.seat m.fits p.ensures (omega arith) refl
