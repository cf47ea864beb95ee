use Prim.Native.Nat.{◌+◌, ◌-◌}
use mathlib.Core.Path.{◌≡◌, refl, sym, ap, ◌∙◌}
use native.Mathlib.Omega.{arith}
use lib.ListN.{length-set}
use Rattle.form.specs.Form.{Shares, no_shares, share_no, shared}
use Rattle.form.specs.Steps.{place_at, heard}
use Rattle.regions.proofs.Refused.{refused_some}
use Rattle.form.proofs.Sections.{stands_on, section_goes, section_ends, items_go, items_end, items_none, shared_is, shares_refused}
use Rattle.form.proofs.read_shares.Goals as goal

pub read_count-requires : goal.read_count-requires
read_count-requires c = c.requires.1

pub returns-in-Err : goal.returns-in-Err
returns-in-Err c =
    let some = refused_some c.in-Err.refusal in
    shares_refused _ _ _ _ _ _ _ (section_ends share_no shared c.args.text.now 16 no_shares _ c.args.at _ _ c.in-Err.ensures.number_is some) some refl

pub loop-this-init : goal.loop-this-init
loop-this-init c =
    let r = c.in-Ok.ensures in
    let n = c.in-Ok.c.count in
    let all : c.args.line + 1 + n - (c.args.line + 1) ≡ n = omega arith in
    let h = (r.count_is refl).0 in (
      refl,
      stands_on _ _ _ _ c.requires (r.goes refl),
      section_goes share_no shared _ 16 no_shares _ _ _ _ (sym r.number_is) (all ∙ h) (r.goes refl),
    )

pub read_share-requires : goal.read_share-requires
read_share-requires c = c.loop-this.invariant.1.1

pub returns-in-Err-read_share : goal.returns-in-Err-read_share
returns-in-Err-read_share c =
    let l = c.loop-this in
    let s : Shares = record { sixteen = l.shares; from = l.from } in
    let end = c.args.line + 1 + c.in-Ok.c.count in
    let some = refused_some c.in-Err-read_share.refusal in
    shares_refused _ _ _ _ _ _ _
    (l.invariant.2 ∙ items_end share_no shared c.args.text.now _ (end - (l.this + 1)) s _ l.here _ _ (omega (arith, c.loop-this-test.true)) (c.in-Err-read_share.ensures s refl).number_is some)
    some refl

pub bounds-shares-s : goal.bounds-shares-s
bounds-shares-s c =
    let l = c.loop-this in
    let s : Shares = record { sixteen = l.shares; from = l.from } in
    omega (arith, ((c.in-Ok-read_share.ensures s refl).share_is refl).2)

pub overflow_add-from : goal.overflow_add-from
overflow_add-from c =
    let l = c.loop-this in
    let s : Shares = record { sixteen = l.shares; from = l.from } in
    omega (arith, ((c.in-Ok-read_share.ensures s refl).share_is refl).2)

pub loop-this-preserved : goal.loop-this-preserved
loop-this-preserved c =
    let l = c.loop-this in
    let s : Shares = record { sixteen = l.shares; from = l.from } in
    let r = c.in-Ok-read_share.ensures s refl in
    let h = r.share_is refl in (
      length-set l.shares _ _ ∙ l.invariant.0,
      stands_on _ _ _ _ l.invariant.1 (r.goes refl),
      l.invariant.2 ∙ items_go share_no shared c.args.text.now _ _ s _ _ l.here _ _ (omega (arith, c.loop-this-test.true)) r.number_is refl (shared_is _ _ _ _ _ _ h.0 refl h.1) (r.goes refl),
    )

pub returns : goal.returns
returns c =
    let l = c.loop-this in
    let end = c.args.line + 1 + c.in-Ok.c.count in
    let e : l.this ≡ end = omega (arith, c.loop-this-test.false) in
    let i = l.invariant in
    let s : Shares = record { sixteen = l.shares; from = l.from } in
    record {
      is = i.2 ∙ items_none share_no shared c.args.text.now _ s _ l.this (omega arith) ∙ ap (λ k. heard 0 k (s, place_at c.args.text.now k l.here)) e;
      goes = λ z. (i.1.0, i.1.1, omega (arith, i.1.2));
      sixteen_is = i.0;
      some_line = λ z. omega arith;
    }
