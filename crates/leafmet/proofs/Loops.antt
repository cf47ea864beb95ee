-- A turn and each way out of the loop over a leaf's entries.
-- Assumes nothing.
use Prim.Native.Nat.{ℕ, suc, ◌+◌, ◌-◌, ◌≤◌, ◌<◌}
use mathlib.Core.Path.{◌≡◌, refl, sym, ap, ◌∙◌}
use mathlib.Core.Bool.{true, false}
use mathlib.Core.List.{List, [], ◌∷◌}
use native.Mathlib.Omega.{arith}
use native.Mathlib.Numerals.{add-one}
use Rattle.regions.specs.Positions.{holds}
use Rattle.regions.specs.declared.Region.{Region}
use Rattle.regions.specs.declared.Choice.{Choice}
use Rattle.pages.specs.Layout.{page_of, fill_of, region_in, entry_word, flag_in}
use Rattle.image.specs.Read.{entry_at}
use Rattle.tally.specs.declared.Task.{Task}
use Rattle.tally.specs.declared.Tally.{Tally}
use Rattle.tally.specs.Tallies.{Tallied}
use Rattle.tally.proofs.Tallies.{Leads, leads_all, tallied_none, leads_on, leads_done}
use Rattle.leafmet.specs.LeafMet.{entries_met, own_from, leaf_met}
use Rattle.leafmet.proofs.LeafMet.{entry_listed, entry_beside, entry_met, entry_few, own_none, own_more}

-- AN ENTRY: in a list, beside p, or met
abbrev pub EntryMet : Task → List ℕ → Tally → List ℕ → ℕ → ℕ → Choice → ℕ → List ℕ → Tally → Type 0
EntryMet task out t w page i ch p out' t' = Tallied task out t (entries_met ch p (entry_at (page_of w page) i ∷ [])) 0 out' t'

module _ {task : Task} {out : List ℕ} {t : Tally} (w : List ℕ) (page i : ℕ) (ch : Choice) (p : ℕ) where
  pub entry_in_list : (f : ℕ) → f ≡ flag_in (page_of w page) i → (f ≡ 0 → ⊥) → EntryMet task out t w page i ch p out t
  entry_in_list f e h =
      let g : (flag_in (page_of w page) i ≡ 0 → ⊥) = (λ z. h (e ∙ z)) in
      rw (entry_listed ch p (entry_at (page_of w page) i) g) tallied_none

  module _ (a : Region) (d : a ≡ region_in (page_of w page) (entry_word i)) where
    pub entry_outside : holds ch p a ≡ false → EntryMet task out t w page i ch p out t
    entry_outside h = rw (entry_beside ch p (entry_at (page_of w page) i) (ap (holds ch p) (sym d) ∙ h)) tallied_none

    pub entry_visited : (f : ℕ) (out' : List ℕ) (t' : Tally) → f ≡ flag_in (page_of w page) i → f ≡ 0 → holds ch p a ≡ true → Tallied task out t (a ∷ []) 0 out' t' → EntryMet task out t w page i ch p out' t'
    entry_visited f out' t' e z h r = rw (entry_met ch p (entry_at (page_of w page) i) (sym e ∙ z) (ap (holds ch p) (sym d) ∙ h), ← d) r

-- THE ENTRIES OF A LEAF: n of them, entry i comes next
abbrev pub Owning : Task → List ℕ → Tally → List ℕ → ℕ → Choice → ℕ → List ℕ → Tally → ℕ → ℕ → Type 0
Owning task out₀ t₀ w page ch p out t n i = Leads task out₀ t₀ (leaf_met w ch p page) 0 out t (own_from ch p (page_of w page) i (n - i)) 0 i

pub leaf_start : {task : Task} {out : List ℕ} {t : Tally} (w : List ℕ) (page : ℕ) (ch : Choice) (p n : ℕ) → n ≡ fill_of (page_of w page) → Owning task out t w page ch p out t n 0
leaf_start w page ch p n e = let f : n - 0 ≡ fill_of (page_of w page) = omega arith in rw f leads_all

module _ {task : Task} {out₀ : List ℕ} {t₀ : Tally} (w : List ℕ) (page : ℕ) (ch : Choice) (p : ℕ) {out : List ℕ} {t : Tally} (n i : ℕ) (l : Owning task out₀ t₀ w page ch p out t n i) where
  pub leaf_done : n ≤ i → Tallied task out₀ t₀ (leaf_met w ch p page) 0 out t
  leaf_done h = let e : n - i ≡ 0 = omega arith in leads_done l (own_none ch p (page_of w page) i (n - i) e) refl

  pub leaf_on_lem : (out₁ : List ℕ) (t₁ : Tally) → i < n → EntryMet task out t w page i ch p out₁ t₁ → Owning task out₀ t₀ w page ch p out₁ t₁ n (i + 1)
  leaf_on_lem out₁ t₁ h r =
      let m : n - i ≡ suc (n - suc i) = omega arith in
      leads_on l r (rw (add-one i) (own_more ch p (page_of w page) i (n - i) (n - suc i) m)) (omega arith) (omega (arith, entry_few ch p (entry_at (page_of w page) i))) (omega arith)
