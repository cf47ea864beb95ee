-- Every place is in the list once or free, never both: where no place stands in the list twice, that is the same as that the listed places are in use
-- and that the list is as long as there are places in use.
-- Assumes nothing.
use Prim.Native.Nat.{ℕ, zero, suc, ◌+◌, ◌≤◌}
use mathlib.Core.Path.{◌≡◌, refl, sym, ap, ◌∙◌}
use mathlib.Core.Bool.{Bool, true, false, true≢false}
use mathlib.Core.List.{List, [], ◌∷◌}
use lib.Dec.{eqb}
use lib.ListN.{length}
use native.Mathlib.Omega.{arith}
use Rattle.words.specs.Lists.{All, count, sum_to}
use Rattle.words.proofs.Tests.{by_test, eq_of, ne_of}
use Rattle.words.proofs.Says.{Says, and_says, says_iff, le_says, eq_says, all_says}
use Rattle.words.proofs.Counted.{one, count_same, count_other, count_more, sum_same, sum_tight, sum_count}
use Rattle.xrtree.specs.Rules.{once_or_free, placed}
use Rattle.pages.specs.Layout.{page_used}
use Rattle.shape.specs.Run.{used_to}

-- as statements
abbrev pub InRange : ℕ → List ℕ → Type 0
InRange n ps = All (λ p. (1 ≤ p) × (p ≤ n)) ps

abbrev pub Once : (ℕ → Bool) → ℕ → List ℕ → Type 0
Once used n ps = (q : ℕ) → 1 ≤ q → q ≤ n → count q ps ≡ one (used q)

once_more : (used : ℕ → Bool) (n : ℕ) (ps : List ℕ) → count (suc n) ps ≡ one (used (suc n)) → Once used n ps → Once used (suc n) ps
once_more used n ps e f q a b =
    by_test (eqb q (suc n))
    (λ t. let z : q ≡ suc n = eq_of q (suc n) t in rw z e)
    (λ t. let z : (q ≡ suc n → ⊥) = ne_of q (suc n) t in f q a (omega arith))

once_says : (used : ℕ → Bool) (n : ℕ) (ps : List ℕ) → Says (once_or_free used n ps) (Once used n ps)
unfolding once_or_free
once_says used zero ps = record { yes_so = λ t q a b. absurd (omega arith); so_yes = λ f. tt }
once_says used (suc n) ps =
    says_iff (and_says (eq_says (count (suc n) ps) (one (used (suc n)))) (once_says used n ps))
    (λ m. once_more used n ps m.0 m.1)
    (λ f. (f (suc n) (omega arith) (omega arith), λ q a b. f q a (omega arith)))

pub placed_says : (used : ℕ → Bool) (n : ℕ) (ps : List ℕ) → Says (placed used n ps) (InRange n ps × Once used n ps)
unfolding placed
placed_says used n ps = and_says (all_says (λ p. and_says (le_says 1 p) (le_says p n)) ps) (once_says used n ps)

-- a list of places in use
abbrev pub InUse : (ℕ → Bool) → List ℕ → Type 0
InUse used ps = All (λ p. used p ≡ true) ps

free_none : (used : ℕ → Bool) (q : ℕ) (ps : List ℕ) → InUse used ps → used q ≡ false → count q ps ≡ 0
unfolding count
free_none used q [] h f = refl
free_none used q (p ∷ ps) h f =
    count_other q p ps (λ e. absurd (true≢false (sym h.0 ∙ ap used (sym e) ∙ f))) ∙ free_none used q ps h.1 f

at_most : (used : ℕ → Bool) (ps : List ℕ) → InUse used ps → ((q : ℕ) → count q ps ≤ 1) → (q : ℕ) → count q ps ≤ one (used q)
at_most used ps h f q =
    by_test (used q)
    (λ t. let k = f q in rw t (omega arith))
    (λ t. let k = free_none used q ps h t in rw t (omega arith))

pub places_once : (used : ℕ → Bool) (n : ℕ) (ps : List ℕ) → InRange n ps → InUse used ps → ((q : ℕ) → count q ps ≤ 1)
    → length ps ≡ sum_to (λ q. one (used q)) n → Once used n ps
places_once used n ps r h f e =
    sum_tight (λ q. count q ps) (λ q. one (used q)) n (λ q a b. at_most used ps h f q) (sum_count ps n r ∙ e)

-- and back
counted : (ps qs : List ℕ) → ((q : ℕ) → count q qs ≤ count q ps) → All (λ p. 1 ≤ count p ps) qs
counted ps [] f = tt
counted ps (p ∷ qs) f =
    (let a = f p in let b = count_same p qs in omega arith, counted ps qs (λ q. let a = f q in let b = count_more q p qs in omega arith))

pub once_used : (used : ℕ → Bool) (n : ℕ) (ps : List ℕ) → InRange n ps → Once used n ps → InUse used ps
once_used used n ps r f = go ps r (counted ps ps (λ q. omega arith))
  where
    go : (qs : List ℕ) → InRange n qs → All (λ p. 1 ≤ count p ps) qs → InUse used qs
    go [] a b = tt
    go (q ∷ qs) a b =
        (by_test (used q) (λ t. t) (λ t. let k = f q a.0.0 a.0.1 in let z : one (used q) ≡ 0 = rw t in let l = b.0 in absurd (omega arith)), go qs a.1 b.1)

pub once_length : (used : ℕ → Bool) (n : ℕ) (ps : List ℕ) → InRange n ps → Once used n ps → length ps ≡ sum_to (λ q. one (used q)) n
once_length used n ps r f = sym (sum_count ps n r) ∙ sum_same (λ q. count q ps) (λ q. one (used q)) n f

-- the pages in use
pub used_sum : (w : List ℕ) (n : ℕ) → used_to w n ≡ sum_to (λ q. one (page_used w q)) n
unfolding used_to sum_to
used_sum w zero = refl
used_sum w (suc n) = ap (λ (m : ℕ). one (page_used w (suc n)) + m) (used_sum w n)
