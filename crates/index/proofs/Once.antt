-- Each promise of a call that changes a set has one result, as far as it is said: number, meaning, and every word where it is refused.
-- Assumes nothing.
use Prim.Native.Nat.{ℕ}
use mathlib.Core.Path.{◌≡◌, sym, ap, ◌∙◌, subst}
use mathlib.Core.List.{List}
use lib.Dec.{eqb}
use Rattle.words.specs.Lists.{All}
use Rattle.words.proofs.Tests.{either_way, by_test, eq_of, ne_of}
use Rattle.regions.specs.Items.{items_of, numbers_of}
use Rattle.regions.specs.declared.Region.{Region}
use Rattle.image.specs.Read.{set_of}
use Rattle.index.specs.Changes.{Saves, Deletes}
use Rattle.index.specs.Batches.{Batches}
use Rattle.index.proofs.Batched.{batches_mean, all_refused}

-- of saves and deletes the number and the meaning; a refusal fixes every word
pub saves_once : (w : List ℕ) (a : ℕ) (r : Region) (m n : ℕ) (u v : List ℕ) → Saves w a r m u → Saves w a r n v → (m ≡ n) × (set_of u ≡ set_of v) × ((m ≡ 0 → ⊥) → u ≡ v)
saves_once w a r m n u v x y =
    let e : m ≡ n = x.number_is ∙ sym y.number_is in (
      e,
      either_way m n e (λ p q. (x.done p).1 ∙ sym (y.done q).1) (λ p q. ap set_of (x.refused p ∙ sym (y.refused q))),
      (λ p. x.refused p ∙ sym (y.refused (λ q. p (e ∙ q)))),
    )

pub deletes_once : (w : List ℕ) (a s : ℕ) (m n : ℕ) (u v : List ℕ) → Deletes w a s m u → Deletes w a s n v → (m ≡ n) × (set_of u ≡ set_of v) × ((m ≡ 0 → ⊥) → u ≡ v)
deletes_once w a s m n u v x y =
    let e : m ≡ n = x.number_is ∙ sym y.number_is in (
      e,
      either_way m n e (λ p q. (x.done p).1 ∙ sym (y.done q).1) (λ p q. ap set_of (x.refused p ∙ sym (y.refused q))),
      (λ p. x.refused p ∙ sym (y.refused (λ q. p (e ∙ q)))),
    )

-- of a batch its number, all places, and the meaning; where the whole is refused, or every item, every word
pub batches_once : (w words places : List ℕ) (m n : ℕ) (u v p q : List ℕ) → Batches w words places m u p → Batches w words places n v q
    → (m ≡ n) × (p ≡ q) × (set_of u ≡ set_of v) × ((m ≡ 0 → All (λ k. k ≡ 0 → ⊥) (numbers_of (items_of words) (set_of w))) → u ≡ v)
batches_once w words places m n u v p q x y =
    let e : m ≡ n = x.number_is ∙ sym y.number_is in
    by_test (eqb m 0)
    (λ t.
    let z = eq_of m 0 t in
    let x' = subst (λ k. Batches w words places k u p) z x in
    let y' = subst (λ k. Batches w words places k v q) (sym e ∙ z) y in
    let a = batches_mean w words places u p x' in
    let b = batches_mean w words places v q y' in
    (e, a.0 ∙ sym b.0, a.1 ∙ sym b.1, λ h. all_refused w words places u p x' (h z) ∙ sym (all_refused w words places v q y' (h z))))
    (λ t.
    let z = ne_of m 0 t in
    let a = x.refused z in
    let b = y.refused (λ k. z (e ∙ k)) in
    (e, a.1 ∙ sym b.1, ap set_of (a.0 ∙ sym b.0), λ h. a.0 ∙ sym b.0))
