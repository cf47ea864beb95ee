-- `split::leaf` meets its contract: the laws on what it hands to its callees, and on what is there at its end.
-- Of the key, only the end asks that it is the one of rule 2; all else asks that it separates the two parts.
use native.Mathlib.Omega.{arith}
use mathlib.Core.Path.{◌∙◌}
use Rattle.split.proofs.Seen.{q_range, i_fits, first_is_free}
use Rattle.split.proofs.LeafCalls.{child_range, store_asks, above_fits, cut_asks, key_lies, flag_asks, gather_asks, enter_asks, leaf_split}
use Rattle.split.proofs.leaf.Goals as goal

pub load_page-page-requires : goal.load_page-page-requires
load_page-page-requires c = let s = c.requires.1 in record { img_len = s.child_at.stands.long; le_p = q_range s.child_at }

pub child_in-p-requires : goal.child_in-p-requires
child_in-p-requires c = let s = c.requires.1 in omega (arith, i_fits s.child_at, s.child_at.stands.held.0.fill_is, s.room)

pub load_page-leaf-requires : goal.load_page-leaf-requires
load_page-leaf-requires c = let s = c.requires.1 in
    let page = c.load_page-page in
    let child = c.child_in-p in
    record { img_len = s.child_at.stands.long; le_p = child_range s.child_at page.result child.result page.ensures child.ensures }

pub cut_key-k-requires : goal.cut_key-k-requires
cut_key-k-requires c =
    let s = c.requires.1 in
    let page = c.load_page-page in
    let child = c.child_in-p in
    let leaf = c.load_page-leaf in
    cut_asks s page.result child.result leaf.result page.ensures child.ensures leaf.ensures

pub overflow_add-c : goal.overflow_add-c
overflow_add-c c =
    let s = c.requires.1 in
    let page = c.load_page-page in
    let child = c.child_in-p in
    let leaf = c.load_page-leaf in
    let e = cut_asks s page.result child.result leaf.result page.ensures child.ensures leaf.ensures in
    omega arith

pub gather-key-requires : goal.gather-key-requires
gather-key-requires c =
    let s = c.requires.1 in
    let page = c.load_page-page in
    let child = c.child_in-p in
    let leaf = c.load_page-leaf in
    let k = c.cut_key-k in
    let b = key_lies s page.result child.result leaf.result page.ensures child.ensures leaf.ensures in
    gather_asks s page.result child.result leaf.result page.ensures child.ensures leaf.ensures k.result (omega arith, omega arith)

pub overflow_add-c-2 : goal.overflow_add-c-2
overflow_add-c-2 c =
    let s = c.requires.1 in
    let page = c.load_page-page in
    let child = c.child_in-p in
    let leaf = c.load_page-leaf in
    let e = cut_asks s page.result child.result leaf.result page.ensures child.ensures leaf.ensures in
    omega arith

pub flagged-ws-requires : goal.flagged-ws-requires
flagged-ws-requires c =
    let s = c.requires.1 in
    let page = c.load_page-page in
    let child = c.child_in-p in
    let leaf = c.load_page-leaf in
    flag_asks s page.result child.result leaf.result page.ensures child.ensures leaf.ensures

pub enter_key-above-requires : goal.enter_key-above-requires
enter_key-above-requires c = let s = c.requires.1 in
    let page = c.load_page-page in
    let child = c.child_in-p in
    let leaf = c.load_page-leaf in
    let k = c.cut_key-k in
    let b = key_lies s page.result child.result leaf.result page.ensures child.ensures leaf.ensures in
    let g = c.gather-key.ensures in
    let a = above_fits s page.result child.result leaf.result page.ensures child.ensures leaf.ensures in
    record { img_len = (g.touched.long ∙ s.child_at.stands.long, a.0, a.1); by_index = (0, enter_asks s page.result child.result leaf.result page.ensures child.ensures leaf.ensures k.result (omega arith, omega arith) g) }

pub leaf_left-left-requires : goal.leaf_left-left-requires
leaf_left-left-requires c =
    let s = c.requires.1 in
    let page = c.load_page-page in
    let child = c.child_in-p in
    let leaf = c.load_page-leaf in
    let e = c.flagged-ws.ensures.fill_is in
    let a = flag_asks s page.result child.result leaf.result page.ensures child.ensures leaf.ensures in
    (omega arith, omega arith)

pub leaf_right-right-requires : goal.leaf_right-right-requires
leaf_right-right-requires c =
    let s = c.requires.1 in
    let page = c.load_page-page in
    let child = c.child_in-p in
    let leaf = c.load_page-leaf in
    let e = c.flagged-ws.ensures.fill_is in
    let a = flag_asks s page.result child.result leaf.result page.ensures child.ensures leaf.ensures in
    (omega arith, omega arith)

pub store_split-requires : goal.store_split-requires
store_split-requires c =
    let s = c.requires.1 in
    let page = c.load_page-page in
    let child = c.child_in-p in
    let leaf = c.load_page-leaf in
    let k = c.cut_key-k in
    let b = key_lies s page.result child.result leaf.result page.ensures child.ensures leaf.ensures in
    let g = c.gather-key.ensures in
    let e = c.enter_key-above.ensures 0 (enter_asks s page.result child.result leaf.result page.ensures child.ensures leaf.ensures k.result (omega arith, omega arith) g) in
    store_asks s.child_at page.result child.result page.ensures child.ensures c.enter_key-above.new.img _ (e.touched.long ∙ g.touched.long ∙ s.child_at.stands.long)
    (first_is_free s.child_at _ c.first_free_page-r.ensures s.free_page)

pub returns : goal.returns
returns c = λ s.
    let page = c.load_page-page in
    let child = c.child_in-p in
    let leaf = c.load_page-leaf in
    let k = c.cut_key-k in
    let b = key_lies s page.result child.result leaf.result page.ensures child.ensures leaf.ensures in
    leaf_split s page.result child.result leaf.result page.ensures child.ensures leaf.ensures k.result (omega arith, omega arith) c.gather-key.ensures k.ensures c.first_free_page-r.ensures c.flagged-ws.ensures
    c.enter_key-above.ensures c.leaf_left-left.ensures c.leaf_right-right.ensures c.store_split.ensures
