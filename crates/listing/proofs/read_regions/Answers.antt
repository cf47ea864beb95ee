use Prim.Native.Nat.{◌+◌, ◌-◌}
use mathlib.Core.Path.{◌≡◌, refl, sym, ap, ◌∙◌}
use native.Mathlib.Omega.{arith}
use Rattle.image.specs.Read.{set_of}
use Rattle.form.specs.Form.{region_no, saved_line}
use Rattle.form.specs.Steps.{place_at, heard}
use Rattle.regions.proofs.Refused.{refused_some}
use Rattle.form.proofs.Sections.{stands_on, section_goes, section_ends, items_go, items_end, items_none}
use Rattle.listing.proofs.Sections.{regions_refused}
use Rattle.changes.proofs.Counts.{counts_none}
use Rattle.listing.proofs.Copied.{same_long}
use Rattle.listing.proofs.read_regions.Goals as goal

pub read_count-requires : goal.read_count-requires
read_count-requires c = c.requires.stands.1

pub returns-in-Err : goal.returns-in-Err
returns-in-Err c =
    let some = refused_some c.in-Err.refusal in
    regions_refused _ _ _ _ _ _ _ _ (section_ends region_no saved_line c.args.text.now 500 (set_of c.args.img.now) _ c.args.at _ _ c.in-Err.ensures.number_is some) some c.requires.img_empty.0

pub loop-this-init : goal.loop-this-init
loop-this-init c =
    let r = c.in-Ok.ensures in
    let n = c.in-Ok.c.count in
    let all : c.args.line + 1 + n - (c.args.line + 1) ≡ n = omega arith in
    let h = (r.count_is refl).0 in (
      c.requires.img_empty.0,
      counts_none _ c.requires.img_empty.1,
      stands_on _ _ _ _ c.requires.stands (r.goes refl),
      section_goes region_no saved_line _ 500 _ _ _ _ _ (sym r.number_is) (all ∙ h) (r.goes refl),
      refl,
    )

pub take_region-requires : goal.take_region-requires
take_region-requires c = let i = c.loop-this.invariant in record { at_in_bounds = i.2.1; counted = (i.0, i.1) }

pub shape_of-img-in-Err-take_region : goal.shape_of-img-in-Err-take_region
shape_of-img-in-Err-take_region c = same_long _ _ c.requires.img_empty.0 c.in-Err-take_region.ensures.stays_valid

pub returns-in-Err-take_region : goal.returns-in-Err-take_region
returns-in-Err-take_region c =
    let l = c.loop-this in
    let end = c.args.line + 1 + c.in-Ok.c.count in
    let t = c.in-Err-take_region.ensures in
    let some = refused_some c.in-Err-take_region.refusal in
    regions_refused _ _ _ _ _ _ _ _
    (l.invariant.3 ∙ items_end region_no saved_line c.args.text.now _ (end - (l.this + 1)) (set_of l.img) _ l.here _ _ (omega (arith, c.loop-this-test.true)) t.number_is some)
    some t.stays_valid

pub loop-this-preserved : goal.loop-this-preserved
loop-this-preserved c =
    let l = c.loop-this in
    let i = l.invariant in
    let t = c.in-Ok-take_region.ensures in
    let (b, e, k) = t.goes refl in (
      t.stays_valid,
      k,
      stands_on _ _ _ _ i.2 b,
      i.3 ∙ items_go region_no saved_line c.args.text.now _ _ (set_of l.img) _ _ l.here _ _ (omega (arith, c.loop-this-test.true)) t.number_is refl e b,
      same_long _ _ c.requires.img_empty.0 t.stays_valid,
    )

pub returns : goal.returns
returns c =
    let l = c.loop-this in
    let end = c.args.line + 1 + c.in-Ok.c.count in
    let e : l.this ≡ end = omega (arith, c.loop-this-test.false) in
    let i = l.invariant in
    record {
      is = i.3 ∙ items_none region_no saved_line c.args.text.now _ (set_of l.img) _ l.this (omega arith) ∙ ap (λ k. heard 0 k (set_of l.img, place_at c.args.text.now k l.here)) e;
      goes = λ z. (i.2.0, i.2.1, omega (arith, i.2.2));
      stays_valid = i.0;
    }
