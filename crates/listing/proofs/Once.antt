-- Reading a listing has one result: any two results that its promise allows are equal, of images by what they mean; a refusal fixes every word.
-- Assumes nothing.
use Prim.Native.Nat.{ℕ}
use mathlib.Core.Path.{◌≡◌, sym, ap, ◌∙◌}
use mathlib.Core.List.{List}
use lib.Dec.{eqb}
use Rattle.words.proofs.Tests.{by_test, eq_of, ne_of}
use Rattle.regions.specs.Sets.{Set}
use Rattle.image.specs.Read.{set_of}
use Rattle.form.specs.Form.{Reading, refused, read}
use Rattle.listing.specs.Promise.{ReadsListing}

-- two readings that are equal have read the same
what_read : {X : Type 0} → X → Reading X → X
what_read d (refused n l) = d
what_read d (read x) = x

module _ (text outer inner : List ℕ) (m n k l : ℕ) (o o' i i' : List ℕ) (x : ReadsListing text outer inner m k o i) (y : ReadsListing text outer inner n l o' i') where
  same_number : m ≡ n
  same_number = x.number_is ∙ sym y.number_is

  same_sets : m ≡ 0 → ◌≡◌ {A = Set × Set} (set_of o, set_of i) (set_of o', set_of i')
  unfolding what_read
  same_sets z = ap (what_read (set_of o, set_of i)) (sym (x.done z).2 ∙ (y.done (sym same_number ∙ z)).2)

  same_words : (m ≡ 0 → ⊥) → (o ≡ o') × (i ≡ i')
  same_words h =
      let a = x.refused_is h in
      let b = y.refused_is (λ z. h (same_number ∙ z)) in
      (a.0 ∙ sym b.0, a.1 ∙ sym b.1)

  pub listing_once : (m ≡ n) × (k ≡ l) × (set_of o ≡ set_of o') × (set_of i ≡ set_of i') × ((m ≡ 0 → ⊥) → (o ≡ o') × (i ≡ i'))
  listing_once =
      by_test (eqb m 0)
      (λ t.
      let e = same_sets (eq_of m 0 t) in
      (same_number, x.line_is ∙ sym y.line_is, ap (λ (p : Set × Set). p.0) e, ap (λ (p : Set × Set). p.1) e, same_words))
      (λ t.
      let e = same_words (ne_of m 0 t) in
      (same_number, x.line_is ∙ sym y.line_is, ap set_of e.0, ap set_of e.1, same_words))
