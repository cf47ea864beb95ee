-- The counts of held regions, kept along with the saves and deletes.
-- Assumes nothing.
use Prim.Native.Nat.{ℕ, zero, suc, ◌<◌, ◌≤◌, ◌+◌, ◌-◌}
use mathlib.Core.Path.{◌≡◌, refl, sym, ap, ◌∙◌, ap₂, subst}
use mathlib.Core.List.{List, [], ◌∷◌}
use lib.Dec.{T, eqb}
use lib.ListN.{length, get_or, set, replicate, get_or-replicate, length-set}
use lib.Seq.{get_or-set_same, get_or-set_other}
use native.Mathlib.Omega.{arith}
use native.Mathlib.Numerals.{add-one}
use Rattle.words.specs.Lists.{filter, sum}
use Rattle.words.proofs.Tests.{by_test, eq_of, ne_of, le_of, of_T}
use Rattle.regions.specs.Positions.{account}
use Rattle.regions.specs.Sets.{of, held_by, saved, deleted}
use Rattle.regions.specs.Calls.{save_no, delete_no}
use Rattle.regions.specs.declared.Region.{Region}
use Rattle.regions.proofs.Done.{save_done, delete_done}
use Rattle.regions.proofs.Rising.{held_saved, held_deleted, others_saved, others_deleted}
use Rattle.image.specs.Read.{set_of}
use Rattle.image.specs.Valid.{valid}
use Rattle.image.proofs.Facts.{valid_facts}
use Rattle.image.proofs.Sound.{set_rises}
use Rattle.changes.specs.Changed.{SavesIn, DeletesIn}
use Rattle.changes.specs.Counts.{Counted}

-- one of several is at most their sum
part_of : (xs : List ℕ) (i : ℕ) → get_or xs i 0 ≤ sum xs
unfolding sum
part_of [] i = omega arith
part_of (x ∷ xs) zero = omega arith
part_of (x ∷ xs) (suc i) = omega (arith, part_of xs i)

-- where a region may be saved, its account's count is below its share, and so below 500
count_room : (w held : List ℕ) (a : ℕ) (r : Region) → T (valid w) → save_no (set_of w) a r ≡ 0 → a < 16 → Counted held w → get_or held a 0 < 500
count_room w held a r v e l c =
    omega (arith, c.1 a l, (save_done (set_of w) a r e).room, part_of (set_of w).shares a, le_of (sum (set_of w).shares) 500 (of_T _ (valid_facts w v).sums))

-- where a region may be deleted, its account holds one less without it
one_less : (w : List ℕ) (a p : ℕ) → T (valid w) → delete_no (set_of w) a p ≡ 0 → suc (held_by a (deleted p (set_of w))) ≡ held_by a (set_of w)
one_less w a p v e =
    let m = delete_done (set_of w) a p e in
    subst (λ k. suc (held_by k (deleted p (set_of w))) ≡ held_by k (set_of w)) m.own.same (held_deleted (set_of w) p (set_rises w v) m.held)

-- THE COUNTS BEHIND A CALL: one account's is another, those of the other accounts stay
module _ (w w' held : List ℕ) (a : ℕ) (l : a < 16) (c : Counted held w) where
  counts_at_lem : (n : ℕ) → held_by a (set_of w') ≡ n → ((b : ℕ) → (b ≡ a → ⊥) → held_by b (set_of w') ≡ held_by b (set_of w)) → Counted (set held a n) w'
  counts_at_lem n e f = (simp length-set c.0, each)
    where
      each : (b : ℕ) → b < 16 → get_or (set held a n) b 0 ≡ held_by b (set_of w')
      each b m =
          by_test (eqb b a)
          (λ t. let q = eq_of b a t in ap (λ k. get_or (set held a n) k 0) q ∙ get_or-set_same held a n 0 (omega (arith, c.0)) ∙ sym e ∙ ap (λ k. held_by k (set_of w')) (sym q))
          (λ t. let q = ne_of b a t in get_or-set_other held a b n 0 q ∙ c.1 b m ∙ sym (f b q))

  -- a save
  counts_on : (r : Region) → save_no (set_of w) a r ≡ 0 → set_of w' ≡ saved r (set_of w) → Counted (set held a (suc (get_or held a 0))) w'
  counts_on r e s =
      let m = save_done (set_of w) a r e in
      let o : a ≡ account r.start = sym m.own.same in
      counts_at_lem (suc (get_or held a 0))
      (ap (held_by a) s ∙ ap (λ k. held_by k (saved r (set_of w))) o ∙ held_saved (set_of w) r m.free ∙ ap (λ k. suc (held_by k (set_of w))) (sym o) ∙ ap suc (sym (c.1 a l)))
      (λ b q. ap (held_by b) s ∙ others_saved (set_of w) r b (λ p. q (p ∙ sym o)))

  -- a delete
  counts_off : (p : ℕ) → T (valid w) → delete_no (set_of w) a p ≡ 0 → set_of w' ≡ deleted p (set_of w) → Counted (set held a (get_or held a 0 - 1)) w'
  counts_off p v e s =
      counts_at_lem (get_or held a 0 - 1)
      (ap (held_by a) s ∙ omega (arith, one_less w a p v e, c.1 a l))
      (λ b q. ap (held_by b) s ∙ others_deleted (set_of w) p b (λ z. q (z ∙ (delete_done (set_of w) a p e).own.same)))

-- WHAT IS COUNTED behind a call on a valid image that was done
module _ (w held : List ℕ) (v : T (valid w)) (c : Counted held w) where
  module _ (a : ℕ) (r : Region) (w' : List ℕ) (s : SavesIn w a r 0 w') where
    -- what counting asks for
    pub save_counts : (a < 16) × (get_or held a 0 < 500)
    save_counts =
        let b : a < 16 = omega (arith, (save_done (set_of w) a r (sym s.number_is)).own.range) in
        (b, count_room w held a r v (sym s.number_is) b c)

    pub save_counted : T (valid w') × Counted (set held a (get_or held a 0 + 1)) w'
    save_counted =
        let d = s.done refl in
        (d.0, subst (λ n. Counted (set held a n) w') (sym (add-one (get_or held a 0))) (counts_on w w' held a save_counts.0 c r (sym s.number_is) d.1))

  module _ (a p : ℕ) (w' : List ℕ) (s : DeletesIn w a p 0 w') where
    pub delete_counts : (a < 16) × (0 < get_or held a 0)
    delete_counts =
        let e = sym s.number_is in
        let b : a < 16 = omega (arith, (delete_done (set_of w) a p e).own.range) in
        (b, omega (arith, one_less w a p v e, c.1 a b))

    pub delete_counted : T (valid w') × Counted (set held a (get_or held a 0 - 1)) w'
    delete_counted =
        let d = s.done refl in
        (d.0, counts_off w w' held a delete_counts.0 c p v (sym s.number_is) d.1)

-- an image that holds nothing
pub counts_none : (w : List ℕ) → (set_of w).regions ≡ [] → Counted (replicate 16 0) w
unfolding filter
counts_none w e = (refl, λ a l. get_or-replicate 16 a 0 0 l ∙ sym (ap (λ rs. length (filter (of a) rs)) e))
