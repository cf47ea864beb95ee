-- `remove::mend`: the next page of the path is mended before the page above it; a page above leaves is one turn.
use Rattle.std.proofs.Common.{refl, suc, ◌≡◌, ℕ, ◌-◌, arith}
use Rattle.remove.proofs.Thinning.{low_ask, low_done, child_ask, page_ask, page_done, ask_at, done_at, leads_at}
use Rattle.remove.proofs.+mend.Goals as goal

-- a height that is not 0
one_up : (h : ℕ) → (h ≡ 0 → ⊥) → h ≡ suc (h - 1)
one_up h n = omega arith

pub mend_page-requires : goal.mend_page-requires
mend_page-requires t c = (omega arith, low_ask (ask_at _ _ _ _ 0 c.if-h-eq0.true c.requires.2))

pub mend-requires : goal.mend-requires
mend-requires t c =
    let h = c.args.h in
    let e = one_up h c.if-h-eq0.false in
    let l = leads_at _ _ _ c.args.at h (suc (h - 1)) e c.requires.1 in
    (omega arith, (omega arith, l.1, child_ask (ask_at _ _ _ _ (suc (h - 1)) e c.requires.2) _ _ refl l.0))

pub mend_page-requires-else-h-eq0 : goal.mend_page-requires-else-h-eq0
mend_page-requires-else-h-eq0 t c =
    let h = c.args.h in
    let e = one_up h c.if-h-eq0.false in
    let l = leads_at _ _ _ c.args.at h (suc (h - 1)) e c.requires.1 in
    (omega arith, page_ask (ask_at _ _ _ _ (suc (h - 1)) e c.requires.2) _ _ refl l.0 _ c.mend.ensures)

pub returns-then-h-eq0 : goal.returns-then-h-eq0
returns-then-h-eq0 t c = done_at _ _ _ _ _ 0 c.if-h-eq0.true (λ s. low_done s c.mend_page.ensures)

pub returns-else-h-eq0 : goal.returns-else-h-eq0
returns-else-h-eq0 t c =
    let h = c.args.h in
    let e = one_up h c.if-h-eq0.false in
    let l = leads_at _ _ _ c.args.at h (suc (h - 1)) e c.requires.1 in
    done_at _ _ _ _ _ (suc (h - 1)) e (λ s. page_done s _ _ refl l.0 _ c.mend.ensures c.mend_page-else-h-eq0.ensures)
