-- `split::inner` meets its contract: the laws on what it hands to its callees, and on what is there at its end.
use native.Mathlib.Omega.{arith}
use Prim.Native.Nat.{suc}
use mathlib.Core.Path.{◌∙◌}
use Rattle.split.proofs.Seen.{q_range, i_fits, first_is_free}
use Rattle.split.proofs.LeafCalls.{child_range, store_asks}
use Rattle.split.proofs.InnerCalls.{page_fits, child_fits, raise_asks, risen_fits, risen_long, key_asks, inner_split}
use Rattle.split.proofs.inner.Goals as goal

pub load_page-page-requires : goal.load_page-page-requires
load_page-page-requires c = let s = c.requires.1.1 in record { img_len = s.child_at.stands.long; le_p = q_range s.child_at }

pub child_in-p-requires : goal.child_in-p-requires
child_in-p-requires c = let s = c.requires.1.1 in omega (arith, i_fits s.child_at, s.child_at.stands.held.0.fill_is, s.room)

pub load_page-child-requires : goal.load_page-child-requires
load_page-child-requires c = let s = c.requires.1.1 in
    let page = c.load_page-page in
    let place = c.child_in-p in
    record { img_len = s.child_at.stands.long; le_p = child_range s.child_at page.result place.result page.ensures place.ensures }

pub raise-risen-requires : goal.raise-risen-requires
raise-risen-requires c = let s = c.requires.1.1 in
    let page = c.load_page-page in
    let place = c.child_in-p in
    let child = c.load_page-child in
    let f = child_fits s page.result place.result child.result page.ensures place.ensures child.ensures in
    record { img_len = (s.child_at.stands.long, f.0, f.1); by_index = (c.requires.1.0, raise_asks s page.result place.result child.result page.ensures place.ensures child.ensures) }

pub enter_key-above-requires : goal.enter_key-above-requires
enter_key-above-requires c = let s = c.requires.1.1 in
    let page = c.load_page-page in
    let place = c.child_in-p in
    let child = c.load_page-child in
    let g = c.raise-risen.ensures in
    let a = page_fits s page.result place.result child.result page.ensures place.ensures child.ensures in
    record { img_len = (risen_long s page.result place.result child.result page.ensures place.ensures child.ensures g ∙ s.child_at.stands.long, a.0, a.1); by_index = (suc c.requires.1.0, key_asks s page.result place.result child.result page.ensures place.ensures child.ensures g) }

pub inner_left-left-requires : goal.inner_left-left-requires
inner_left-left-requires c =
    let s = c.requires.1.1 in
    let page = c.load_page-page in
    let place = c.child_in-p in
    let child = c.load_page-child in
    let a = risen_fits s page.result place.result child.result page.ensures place.ensures child.ensures c.raise-risen.ensures in
    (omega arith, omega arith)

pub inner_right-right-requires : goal.inner_right-right-requires
inner_right-right-requires c =
    let s = c.requires.1.1 in
    let page = c.load_page-page in
    let place = c.child_in-p in
    let child = c.load_page-child in
    let a = risen_fits s page.result place.result child.result page.ensures place.ensures child.ensures c.raise-risen.ensures in
    (omega arith, omega arith)

pub store_split-requires : goal.store_split-requires
store_split-requires c =
    let s = c.requires.1.1 in
    let page = c.load_page-page in
    let place = c.child_in-p in
    let child = c.load_page-child in
    let g = c.raise-risen.ensures in
    let e = c.enter_key-above.ensures (suc c.requires.1.0) (key_asks s page.result place.result child.result page.ensures place.ensures child.ensures g) in
    store_asks s.child_at page.result place.result page.ensures place.ensures c.enter_key-above.new.img _ (e.touched.long ∙ risen_long s page.result place.result child.result page.ensures place.ensures child.ensures g ∙ s.child_at.stands.long)
    (first_is_free s.child_at _ c.first_free_page-r.ensures s.free_page)

pub returns : goal.returns
returns c = λ h s.
    let page = c.load_page-page in
    let place = c.child_in-p in
    let child = c.load_page-child in
    inner_split s page.result place.result child.result page.ensures place.ensures child.ensures c.raise-risen.ensures c.first_free_page-r.ensures
    c.enter_key-above.ensures c.inner_left-left.ensures c.inner_right-right.ensures c.store_split.ensures
