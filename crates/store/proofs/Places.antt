-- Rule 7 by counts: where fewer places are listed than there are, one is free; and what taking or giving back a place does to the rule.
-- Assumes nothing.
use Prim.Native.Nat.{ℕ, ◌<◌, ◌≤◌}
use mathlib.Core.Path.{◌≡◌, sym, ap, ◌∙◌}
use mathlib.Core.Logic.{◌≢◌}
use mathlib.Core.Bool.{Bool, true, false}
use mathlib.Core.List.{List, [], ◌∷◌}
use lib.ListN.{length}
use native.Mathlib.Omega.{arith}
use native.Mathlib.Decide.{ℕ_discrete}
use Rattle.words.specs.Lists.{All, count}
use Rattle.words.proofs.Counted.{one, count_same, count_other, count_more, sum_count, pigeon, one_at_most}
use Rattle.store.specs.Store.{FirstFree}

-- rule 7 as facts: the listed places are in range, and each is listed as often as it is in use
pub record Fair (used : ℕ → Bool) (n : ℕ) (ps : List ℕ) : Type 0 where
  pub range : All (λ q. (1 ≤ q) × (q ≤ n)) ps
  pub counts : (i : ℕ) → 1 ≤ i → i ≤ n → count i ps ≡ one (used i)

-- what is listed has what all that are listed have; what each listed number has, all have
pub counted_has : (P : ℕ → Type 0) (x : ℕ) (ps : List ℕ) → All P ps → 0 < count x ps → P x
unfolding count
counted_has P x [] a h = absurd (omega arith)
counted_has P x (p ∷ ps) a h =
    elim (ℕ_discrete x p) [
      | yes e ↦ rw e a.0
      | no e ↦ counted_has P x ps a.1 (omega (arith, count_other x p ps e))
    ]

pub all_counted : (P : ℕ → Type 0) (ps : List ℕ) → ((x : ℕ) → 0 < count x ps → P x) → All P ps
all_counted P [] f = tt
all_counted P (p ∷ ps) f = (f p (omega (arith, count_same p ps)), all_counted P ps (λ x h. f x (omega (arith, count_more x p ps))))

module _ {used : ℕ → Bool} {n : ℕ} {ps : List ℕ} (fair : Fair used n ps) where
  -- A FREE PLACE: the first one is there, and is listed nowhere
  pub first_free : (r : ℕ) → length ps < n → FirstFree used n r → (1 ≤ r) × (r ≤ n) × (used r ≡ false) × (count r ps ≡ 0)
  first_free r h f =
      let x = pigeon (λ i. count i ps) n (omega (arith, sum_count ps n fair.range)) in
      let low : 1 ≤ r = omega (arith, not_none x.0 x.1 x.2 x.3) in
      (low, f.high, f.free low, fair.counts r low f.high ∙ ap one (f.free low))
    where
      not_none : (i : ℕ) → 1 ≤ i → i ≤ n → count i ps ≡ 0 → r ≢ 0
      not_none i a b z e =
          let u : one (used i) ≡ 1 = ap one (f.none e i b a) in
          omega (arith, fair.counts i a b)

  -- A PLACE IS TAKEN: it was free, is in use, and stands in the list once more
  pub fair_more : (used' : ℕ → Bool) (q : ℕ) (qs : List ℕ) → 1 ≤ q → q ≤ n → used q ≡ false → used' q ≡ true
      → ((i : ℕ) → 1 ≤ i → i ≤ n → q ≢ i → used' i ≡ used i) → ((i : ℕ) → count i qs ≡ count i (q ∷ ps)) → Fair used' n qs
  fair_more used' q qs l h was is u c =
      record { range = all_counted (λ q. (1 ≤ q) × (q ≤ n)) qs (λ x p. inside x p); counts = λ i a b. counted i a b }
    where
      inside : (x : ℕ) → 0 < count x qs → (1 ≤ x) × (x ≤ n)
      inside x p = counted_has (λ q. (1 ≤ q) × (q ≤ n)) x (q ∷ ps) ((l, h), fair.range) (omega (arith, c x))

      counted : (i : ℕ) → 1 ≤ i → i ≤ n → count i qs ≡ one (used' i)
      counted i a b =
          elim (ℕ_discrete i q) [
            | yes e ↦
                rw e
                (let z : count q ps ≡ 0 = fair.counts q l h ∙ ap one was in let o : one (used' q) ≡ 1 = ap one is in omega (arith, c q, count_same q ps))
            | no e ↦ c i ∙ count_other i q ps e ∙ fair.counts i a b ∙ ap one (sym (u i a b (λ z. e (sym z))))
          ]

  -- A PLACE IS GIVEN BACK: it was listed once more, and is free
  pub fair_less : (used' : ℕ → Bool) (q : ℕ) (qs : List ℕ) → used' q ≡ false
      → ((i : ℕ) → 1 ≤ i → i ≤ n → q ≢ i → used' i ≡ used i) → ((i : ℕ) → count i ps ≡ count i (q ∷ qs)) → Fair used' n qs
  fair_less used' q qs is u c =
      record { range = all_counted (λ q. (1 ≤ q) × (q ≤ n)) qs (λ x p. inside x p); counts = λ i a b. counted i a b }
    where
      inside : (x : ℕ) → 0 < count x qs → (1 ≤ x) × (x ≤ n)
      inside x p = counted_has (λ q. (1 ≤ q) × (q ≤ n)) x ps fair.range (omega (arith, c x, count_more x q qs))

      gone : 1 ≤ q → q ≤ n → count q qs ≡ one (used' q)
      gone a b = let o : one (used' q) ≡ 0 = ap one is in omega (arith, c q, count_same q qs, fair.counts q a b, one_at_most (used q))

      counted : (i : ℕ) → 1 ≤ i → i ≤ n → count i qs ≡ one (used' i)
      counted i a b =
          elim (ℕ_discrete i q) [
            | yes e ↦ rw e (gone (rw e at a) (rw e at b))
            | no e ↦ sym (count_other i q qs e) ∙ sym (c i) ∙ fair.counts i a b ∙ ap one (sym (u i a b (λ z. e (sym z))))
          ]
