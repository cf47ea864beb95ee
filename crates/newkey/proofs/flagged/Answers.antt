use Prim.Native.Nat.{◌+◌, ◌<◌}
use mathlib.Core.Path.{◌≡◌, sym, ap, ◌∙◌, subst}
use native.Mathlib.Omega.{arith}
use Rattle.regions.specs.Positions.{stabs}
use Rattle.pages.specs.Layout.{fill_of}
use Rattle.newkey.specs.Moves.{Flagged}
use Rattle.newkey.proofs.Flagging.{flag_start, flag_pass, flag_set}
use mathlib.Core.Path.{sym, ap, ◌∙◌, subst}
use Rattle.newkey.proofs.flagged.Goals as goal
use Rattle.newkey.proofs.flagged.Goals.{then-stabs, else-stabs}

pub loop-j-init : goal.loop-j-init
loop-j-init c = (omega arith, flag_start c.args.leaf c.args.k)

pub entry_in-r-requires : goal.entry_in-r-requires
entry_in-r-requires c = omega (arith, c.requires)

pub set_flag-s-requires : goal.set_flag-s-requires
set_flag-s-requires c =
    let l = c.loop-j in
    let p = c.requires in
    let e = l.invariant.1.fill_is in
    (omega (arith, p.0), omega (arith, p.1))

pub loop-j-preserved : goal.loop-j-preserved
loop-j-preserved c =
    let l = c.loop-j in
    let a = c.args in
    let p = c.requires in
    let e = sym (c.stabs.ensures ∙ ap (stabs a.k) c.entry_in-r.ensures) in
    let h : l.j < fill_of a.leaf = omega (arith, p.1) in (
      omega arith,
      elim c.if-stabs.branch [
        | then-stabs w ↦ subst (Flagged a.leaf (l.j + 1) a.k) (sym w.ws-is) (flag_set a.leaf a.k l.j h l.ws w.set_flag-s.result l.invariant.1 (e ∙ w.if-stabs.true) w.set_flag-s.ensures)
        | else-stabs w ↦ subst (Flagged a.leaf (l.j + 1) a.k) (sym w.ws-is) (flag_pass a.leaf a.k l.j h l.ws l.invariant.1 (e ∙ w.if-stabs.false))
      ],
    )

pub returns : goal.returns
returns c =
    let l = c.loop-j in
    let a = c.args in
    let e : l.j ≡ a.n = omega (arith, c.loop-j-test.false) in
    subst (λ j. Flagged a.leaf j a.k l.ws) e l.invariant.1
