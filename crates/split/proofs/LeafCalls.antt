-- What `leaf` hands to the functions it calls, and what it has at its end: by the values of its locals.
-- Assumes nothing.
use Prim.Native.Nat.{ℕ, ◌+◌, ◌-◌, ◌≤◌, ◌<◌}
use mathlib.Core.Path.{◌≡◌, sym, ap, ◌∙◌, subst}
use mathlib.Core.Logic.{◌≢◌}
use mathlib.Core.List.{List}
use lib.ListN.{length, take, drop}
use native.Mathlib.Omega.{arith}
use Rattle.pages.specs.Layout.{page_of, mark_of, fill_of, next_of, child_in, page_used}
use Rattle.pages.specs.declared.KeyWords.{KeyWords}
use Rattle.xrtree.specs.Rules.{key_between}
use Rattle.xrtree.proofs.CutLeaf.{key_between_lem}
use Rattle.image.specs.Read.{entry_at, entries_from}
use Rattle.store.specs.Store.{FirstFree}
use Rattle.newpages.specs.Pages.{entries_of, spares_of, IsLeaf}
use Rattle.holding.specs.Held.{place_of}
use Rattle.newkey.specs.Moves.{Gathered, Flagged, GatherReady}
use Rattle.steps.specs.Steps.{ChildAt, Split}
use Rattle.raising.specs.Moves.{EnterReady, Entered}
use Rattle.split.specs.Stored.{Stored}
use Rattle.split.specs.Ready.{LeafReady}
use Rattle.split.proofs.Assemble.{assemble}
use Rattle.split.proofs.Seen.{q_range, p_range, p_not_q, i_fits, child_is, FreePage, first_is_free}
use Rattle.split.proofs.Leafs.{Separates, LeafCut, starts_rise, leaf_cut, leaf_more, leaf_few, leaf_pairs, gather_ready, leaf_enter, leaf_made}

-- what the three stores ask
abbrev pub StoreAsks : List ℕ → ℕ → ℕ → ℕ → Type 0
StoreAsks w p r q = (length w ≡ 12288) × (1 ≤ p) × (p ≤ 160) × (1 ≤ r) × (r ≤ 160) × (1 ≤ q) × (q ≤ 160) × (p ≢ r) × (p ≢ q) × (r ≢ q)

module _ {w : List ℕ} {h q i : ℕ} (s : ChildAt w h q i) (page : List ℕ) (p : ℕ) (page_is : page ≡ page_of w q) (p-is : p ≡ child_in page i) where
  pub child_place : p ≡ place_of h s.child
  child_place = p-is ∙ ap (λ (z : List ℕ). child_in z i) page_is ∙ child_is s

  pub child_range : (1 ≤ p) × (p ≤ 160)
  child_range = subst (λ p. (1 ≤ p) × (p ≤ 160)) (sym child_place) (p_range s)

  pub store_asks : (w₂ : List ℕ) (r : ℕ) → length w₂ ≡ 12288 → FreePage s r → StoreAsks w₂ p r q
  store_asks w₂ r l f =
      subst (λ p. StoreAsks w₂ p r q) (sym child_place)
      (l, (p_range s).0, (p_range s).1, f.low, f.high, (q_range s).0, (q_range s).1, f.not_p, p_not_q s, f.not_q)

module _ {w : List ℕ} {q i c : ℕ} (s : LeafReady w q i c) (page : List ℕ) (p : ℕ) (leaf : List ℕ) (page_is : page ≡ page_of w q) (p-is : p ≡ child_in page i) (leaf-is : leaf ≡ page_of w p) where
  place_is : p ≡ s.child_at.child.place
  place_is = child_place s.child_at page p page_is p-is

  leaf_at_lem : leaf ≡ page_of w s.child_at.child.place
  leaf_at_lem = leaf-is ∙ ap (page_of w) place_is

  pub above_fits : (fill_of page ≤ 8) × (i ≤ fill_of page)
  above_fits = subst (λ (z : List ℕ). (fill_of z ≤ 8) × (i ≤ fill_of z)) (sym page_is) (omega (arith, s.child_at.stands.held.0.fill_is, s.room), i_fits s.child_at)

  pub cut_asks : (1 ≤ c) × (c < 9) × ((entry_at leaf (c - 1)).region.start < (entry_at leaf c).region.start)
  cut_asks = (
    s.low,
    omega (arith, leaf_more s, leaf_few s),
    subst (λ (z : List ℕ). (entry_at z (c - 1)).region.start < (entry_at z c).region.start) (sym leaf_at_lem) (starts_rise (page_of w s.child_at.child.place) c s.low (leaf_more s) (leaf_pairs s)),
  )

  pub key_lies : Separates leaf c (key_between (entry_at leaf (c - 1)).region.start (entry_at leaf c).region.start)
  key_lies = key_between_lem _ _ cut_asks.2

  pub flag_asks : (fill_of leaf ≤ 9) × (c + 1 ≤ fill_of leaf)
  flag_asks = subst (λ (z : List ℕ). (fill_of z ≤ 9) × (c + 1 ≤ fill_of z)) (sym leaf_at_lem) (leaf_few s, omega (arith, leaf_more s))

  module _ (k : ℕ) (separates : Separates leaf c k) where
    cut_here : LeafCut (page_of w s.child_at.child.place) c k
    cut_here = leaf_cut (page_of w s.child_at.child.place) c s.low (leaf_more s) (leaf_pairs s) k (subst (λ z. Separates z c k) leaf_at_lem separates)

    pub gather_asks : GatherReady w leaf (c + 1) k
    gather_asks = subst (λ z. GatherReady w z (c + 1) k) (sym leaf_at_lem) (gather_ready s k cut_here)

    module _ {w₁ : List ℕ} {key : KeyWords} (g : Gathered w w₁ k (entries_from leaf 0 (c + 1)) key) where
      gathered_here : Gathered w w₁ k (entries_from (page_of w s.child_at.child.place) 0 (c + 1)) key
      gathered_here = subst (λ z. Gathered w w₁ k (entries_from z 0 (c + 1)) key) leaf_at_lem g

      pub enter_asks : EnterReady w₁ page i key 0
      enter_asks = subst (λ z. EnterReady w₁ z i key 0) (sym page_is) (leaf_enter s cut_here gathered_here)

      pub leaf_split : {w₂ w₅ ws lws rws pws : List ℕ} {r : ℕ} → k ≡ key_between (entry_at leaf (c - 1)).region.start (entry_at leaf c).region.start → FirstFree (page_used w) 160 r → Flagged leaf (c + 1) k ws
          → ((h : ℕ) (g : EnterReady w₁ page i key h) → Entered w₁ w₂ page i key r h g pws)
          → IsLeaf lws (mark_of ws) c r (take c (entries_of ws)) (take c (spares_of ws)) → IsLeaf rws 1 (fill_of ws - c) (next_of ws) (drop c (entries_of ws)) (drop c (spares_of ws))
          → Stored w₂ w₅ p lws r rws q pws → Split w w₅ 0 q i c s.child_at
      leaf_split {w₂} {w₅} {ws} {lws} {rws} {pws} {r} k-is free f e l m t =
          let o = first_is_free s.child_at r free s.free_page in
          assemble
          (leaf_made s cut_here gathered_here (subst (λ z. Flagged z (c + 1) k ws) leaf_at_lem f)
          (subst (λ (z : List ℕ). (h : ℕ) (g : EnterReady w₁ z i key h) → Entered w₁ w₂ z i key r h g pws) page_is e 0 (leaf_enter s cut_here gathered_here)) l m
          (k-is ∙ ap (λ (z : List ℕ). key_between (entry_at z (c - 1)).region.start (entry_at z c).region.start) leaf_at_lem))
          (subst (λ p. Stored w₂ w₅ p lws r rws q pws) place_is t) o.low o.high o.free
