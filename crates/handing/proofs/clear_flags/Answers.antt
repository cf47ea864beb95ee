use Prim.Native.Nat.{◌<◌}
use native.Mathlib.Omega.{arith}
use native.Mathlib.Numerals.{add-one}
use Rattle.pages.specs.Layout.{fill_of}
use mathlib.Core.Path.{sym, ◌∙◌}
use Rattle.handing.proofs.Clearing.{clear_start, clear_yes, clear_no, clear_end}
use Rattle.handing.proofs.clear_flags.Goals as goal
use Rattle.handing.proofs.clear_flags.Goals.{then-in_list, else-in_list}

pub loop-i-init : goal.loop-i-init
loop-i-init c = clear_start _ _

pub in_list-requires : goal.in_list-requires
in_list-requires c = c.requires.1

pub set_flag-cleared-requires : goal.set_flag-cleared-requires
set_flag-cleared-requires c = let v = c.loop-i.invariant in (omega (arith, v.fill_is, c.requires.0), omega (arith, v.fill_is, c.loop-i-test.true))

pub loop-i-preserved : goal.loop-i-preserved
loop-i-preserved c = let v = c.loop-i.invariant in let u : c.loop-i.i < fill_of c.args.leaf = omega (arith, c.loop-i-test.true) in
    rw add-one (elim c.if-in_list.branch [
      | then-in_list w ↦ rw w.ws-is (clear_yes v _ _ u c.start_in.ensures (sym c.in_list.ensures ∙ w.if-in_list.true) w.set_flag-cleared.ensures)
      | else-in_list w ↦ rw w.ws-is (clear_no v _ u c.start_in.ensures (sym c.in_list.ensures ∙ w.if-in_list.false))
    ])

pub returns : goal.returns
returns c = clear_end c.loop-i.invariant (omega (arith, c.loop-i-test.false))
