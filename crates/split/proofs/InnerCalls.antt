-- What `inner` hands to the functions it calls, and what it has at its end: by the values of its locals.
-- Assumes nothing.
use Prim.Native.Nat.{ℕ, suc, ◌-◌, ◌≤◌, ◌<◌}
use mathlib.Core.Path.{◌≡◌, sym, ap, ◌∙◌, subst}
use mathlib.Core.List.{List}
use lib.ListN.{length, take, drop}
use native.Mathlib.Omega.{arith}
use Rattle.pages.specs.Layout.{page_of, mark_of, fill_of, next_of, child_in, page_used}
use Rattle.store.specs.Store.{FirstFree}
use Rattle.newpages.specs.Pages.{keys_of, children_of, IsInner}
use Rattle.steps.specs.Steps.{Split}
use Rattle.raising.specs.Moves.{RaiseReady, Raised, EnterReady, Entered}
use Rattle.raising.specs.declared.Risen.{Risen}
use Rattle.split.specs.Stored.{Stored}
use Rattle.split.specs.Ready.{InnerReady}
use Rattle.split.proofs.Assemble.{assemble}
use Rattle.split.proofs.Seen.{i_fits, first_is_free}
use Rattle.split.proofs.Inners.{inner_few, inner_more, raise_ready, inner_enter, inner_made}
use Rattle.split.proofs.LeafCalls.{child_place}

module _ {w : List ℕ} {h q i c : ℕ} (s : InnerReady w h q i c) (page : List ℕ) (p : ℕ) (child : List ℕ) (page_is : page ≡ page_of w q) (p-is : p ≡ child_in page i) (child_is : child ≡ page_of w p) where
  place_is : p ≡ s.child_at.child.place
  place_is = child_place s.child_at page p page_is p-is

  child_there : child ≡ page_of w s.child_at.child.place
  child_there = child_is ∙ ap (page_of w) place_is

  pub page_fits : (fill_of page ≤ 8) × (i ≤ fill_of page)
  page_fits = subst (λ (z : List ℕ). (fill_of z ≤ 8) × (i ≤ fill_of z)) (sym page_is) (omega (arith, s.child_at.stands.held.0.fill_is, s.room), i_fits s.child_at)

  pub child_fits : (fill_of child ≤ 9) × (c < fill_of child)
  child_fits = subst (λ (z : List ℕ). (fill_of z ≤ 9) × (c < fill_of z)) (sym child_there) (inner_few s, inner_more s)

  pub raise_asks : RaiseReady w child c h
  raise_asks = subst (λ z. RaiseReady w z c h) (sym child_there) (raise_ready s)

  module _ {w₁ : List ℕ} {t : Risen} (f : (h : ℕ) (g : RaiseReady w child c h) → Raised w w₁ child c h g t) where
    raised_here : Raised w w₁ (page_of w s.child_at.child.place) c h (raise_ready s) t
    raised_here = subst (λ (z : List ℕ). (h : ℕ) (g : RaiseReady w z c h) → Raised w w₁ z c h g t) child_there f h (raise_ready s)

    pub risen_fits : (fill_of t.page ≤ 9) × (c < fill_of t.page)
    risen_fits = (omega (arith, raised_here.page_is.fill_is, inner_few s), omega (arith, raised_here.page_is.fill_is, inner_more s))

    pub risen_long : length w₁ ≡ length w
    risen_long = raised_here.touched.long

    pub key_asks : EnterReady w₁ page i t.key (suc h)
    key_asks = subst (λ z. EnterReady w₁ z i t.key (suc h)) (sym page_is) (inner_enter s raised_here)

    pub inner_split : {w₂ w₅ lws rws pws : List ℕ} {r : ℕ} → FirstFree (page_used w) 160 r
        → ((h : ℕ) (g : EnterReady w₁ page i t.key h) → Entered w₁ w₂ page i t.key r h g pws)
        → IsInner lws (mark_of t.page) c (next_of t.page) (take c (keys_of t.page)) (take (suc c) (children_of t.page))
        → IsInner rws 1 (fill_of t.page - suc c) (next_of t.page) (drop (suc c) (keys_of t.page)) (drop (suc c) (children_of t.page))
        → Stored w₂ w₅ p lws r rws q pws → Split w w₅ (suc h) q i c s.child_at
    inner_split {w₂} {w₅} {lws} {rws} {pws} {r} free e l m u =
        let o = first_is_free s.child_at r free s.free_page in
        assemble
        (inner_made s raised_here
        (subst (λ (z : List ℕ). (h : ℕ) (g : EnterReady w₁ z i t.key h) → Entered w₁ w₂ z i t.key r h g pws) page_is e (suc h) (inner_enter s raised_here)) l m)
        (subst (λ p. Stored w₂ w₅ p lws r rws q pws) place_is u) o.low o.high o.free
