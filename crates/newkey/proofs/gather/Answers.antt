use Prim.Native.Nat.{◌-◌, ◌≤◌}
use mathlib.Core.Path.{sym, ◌∙◌, subst}
use native.Mathlib.Omega.{arith}
use Rattle.newkey.proofs.Gathering.{entries_all, gather_begin, gather_pass, gather_take, gather_free, gather_done}
use Rattle.newkey.proofs.gather.Goals as goal

pub loop-j-init : goal.loop-j-init
loop-j-init c = (omega arith, gather_begin _ _ _ _)

pub is_fresh-requires : goal.is_fresh-requires
is_fresh-requires c = omega (arith, c.requires.few)

pub entry_in-r-requires : goal.entry_in-r-requires
entry_in-r-requires c = omega (arith, c.requires.few)

pub push-key-requires : goal.push-key-requires
push-key-requires c =
    let l = c.loop-j in
    let p = c.requires in
    let a = c.args in
    let low = c.loop-j-test.true in
    let h = sym c.is_fresh.ensures ∙ c.if-is_fresh.true in
    (l.invariant.1.touched.long ∙ p.long, gather_free a.leaf a.n l.j low l.invariant.0 l.invariant.1 h p.room, subst (λ r. 1 ≤ r.end) (sym c.entry_in-r.ensures) (entries_all (λ e. 1 ≤ e.region.end) a.leaf 0 a.n (l.j - 1) p.ends (omega arith) (omega arith)))

pub loop-j-preserved-then-is_fresh : goal.loop-j-preserved-then-is_fresh
loop-j-preserved-then-is_fresh c =
    let l = c.loop-j in
    let a = c.args in
    let low = c.loop-j-test.true in
    (omega arith, gather_take a.leaf a.n l.j low l.invariant.0 l.invariant.1 (sym c.is_fresh.ensures ∙ c.if-is_fresh.true) c.entry_in-r.ensures c.push-key.ensures)

pub loop-j-preserved : goal.loop-j-preserved
loop-j-preserved c =
    let l = c.loop-j in
    let a = c.args in
    let low = c.loop-j-test.true in
    (omega arith, gather_pass a.leaf a.n l.j low l.invariant.0 l.invariant.1 (sym c.is_fresh.ensures ∙ c.if-is_fresh.false))

pub shape_of-img : goal.shape_of-img
shape_of-img c = c.loop-j.invariant.1.touched.long

pub returns : goal.returns
returns c = gather_done c.args.leaf c.args.n c.loop-j.j (omega (arith, c.loop-j-test.false)) c.loop-j.invariant.1
