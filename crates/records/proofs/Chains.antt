-- Lists in the words: a list that ends has each place once, at most 500 of them, and one reading; the list behind a place.
-- Assumes nothing.
use Prim.Native.Nat.{ℕ, suc, ◌+◌, ◌≤◌, ◌<◌}
use mathlib.Core.Path.{◌≡◌, refl, sym, ap, ◌∙◌, subst}
use mathlib.Core.Logic.{◌≢◌}
use mathlib.Core.List.{List, [], ◌∷◌, ◌++◌}
use lib.ListN.{length}
use native.Mathlib.Omega.{arith}
use native.Mathlib.Nat.{le_refl}
use native.Mathlib.Decide.{ℕ_discrete}
use Rattle.words.specs.Lists.{All, count, last_or}
use Rattle.words.proofs.Tests.{eq_no}
use Rattle.words.proofs.Listed.{all_last, all_left}
use Rattle.words.proofs.Counted.{count_same, count_other, all_off, sum_count, sum_at_most}
use Rattle.pages.specs.Layout.{record_of, record_next}
use Rattle.image.specs.Read.{chain, list_places}
use Rattle.holding.specs.Held.{Chain}
use Rattle.holding.specs.Held.Chain.{done, link}
use Rattle.holding.proofs.Chains.{chain_read, chain_range}
use Rattle.records.specs.Touched.{Ends}
use Rattle.records.specs.Ways.{behind}

pub chain_same : {w : List ℕ} {q : ℕ} {ps qs : List ℕ} → Chain w q ps → Chain w q qs → ps ≡ qs
chain_same {w} {q} {ps} {qs} a b = sym (chain_read (suc (length ps + length qs)) a (omega arith)) ∙ chain_read (suc (length ps + length qs)) b (omega arith)

-- the list from a place that stands in a list
chain_from : {w : List ℕ} {q : ℕ} {ps : List ℕ} (x : ℕ) → Chain w q ps → 0 < count x ps → (t : List ℕ) × Chain w x t × (length t ≤ length ps)
unfolding count
chain_from x done h = absurd (omega arith)
chain_from {w = w} x (link {q = q} {ps = ps} l u t) h = by (ℕ_discrete x q) (λ g. chain_from x t g)
  where
    by : Dec (x ≡ q) → (0 < count x ps → (t : List ℕ) × Chain w x t × (length t ≤ length ps)) → (t : List ℕ) × Chain w x t × (length t ≤ suc (length ps))
    by (yes e) r = (q ∷ ps, rw e (link l u t), le_refl _)
    by (no n) r = let z = r (omega (arith, count_other x q ps n)) in (z.0, z.1, omega (arith, z.2))

-- the first place of a list does not stand in the rest
pub chain_fresh : {w : List ℕ} {q : ℕ} {ps : List ℕ} → 1 ≤ q → q ≤ 500 → Chain w (record_next (record_of w q)) ps → count q ps ≡ 0
chain_fresh {w} {q} {ps} l u t = by (ℕ_discrete (count q ps) 0)
  where
    by : Dec (count q ps ≡ 0) → count q ps ≡ 0
    by (yes e) = e
    by (no n) =
        let z = chain_from q t (omega arith) in
        absurd (omega (arith, z.2, ap length (chain_same z.1 (link {ps = ps} l u t))))

-- EACH PLACE ONCE, and at most 500 of them
pub chain_once : {w : List ℕ} {q : ℕ} {ps : List ℕ} → Chain w q ps → (x : ℕ) → count x ps ≤ 1
unfolding count
chain_once done x = omega arith
chain_once (link {q = q} {ps = ps} l u t) x =
    elim (ℕ_discrete x q) [
      | yes e ↦ omega (arith, ap (λ y. count y (q ∷ ps)) e, count_same q ps, chain_fresh l u t)
      | no n ↦ omega (arith, count_other x q ps n, chain_once t x)
    ]

pub chain_short : {w : List ℕ} {q : ℕ} {ps : List ℕ} → Chain w q ps → length ps ≤ 500
chain_short {ps = ps} c = omega (arith, sum_count ps 500 (chain_range c), sum_at_most (λ i. count i ps) 500 (chain_once c))

-- one reading
pub places_are : {w : List ℕ} {q : ℕ} {ps : List ℕ} → Chain w q ps → list_places w q ≡ ps
places_are c = chain_read 501 c (omega (arith, chain_short c))

-- a list whose first place is known, one that is empty, one that is not
pub record First (w : List ℕ) (q x : ℕ) (ps : List ℕ) : Type 0 where
  pub is : q ≡ x
  pub low : 1 ≤ x
  pub high : x ≤ 500
  pub on : Chain w (record_next (record_of w x)) ps

pub first : {w : List ℕ} {q x : ℕ} {ps : List ℕ} → Chain w q (x ∷ ps) → First w q x ps
first (link l u t) = record { is = refl; low = l; high = u; on = t }

pub ended : {w : List ℕ} {q : ℕ} {ps : List ℕ} → Chain w q ps → q ≡ 0 → ps ≡ []
ended done e = refl
ended (link l u t) e = absurd (omega arith)

pub record More (w : List ℕ) (q : ℕ) (ps : List ℕ) : Type 0 where
  pub rest : List ℕ
  pub is : ps ≡ q ∷ rest
  pub low : 1 ≤ q
  pub high : q ≤ 500
  pub on : Chain w (record_next (record_of w q)) rest

pub more : {w : List ℕ} {q : ℕ} {ps : List ℕ} → Chain w q ps → q ≢ 0 → More w q ps
more done n = absurd (n refl)
more (link {ps = ps} l u t) n = record { rest = ps; is = refl; low = l; high = u; on = t }

-- A STEP along a list that ends
pub record Step (w : List ℕ) (q : ℕ) : Type 0 where
  pub is : list_places w q ≡ q ∷ list_places w (record_next (record_of w q))
  pub low : 1 ≤ q
  pub high : q ≤ 500
  pub on : Ends w (record_next (record_of w q))

step_of : {w : List ℕ} {q : ℕ} {ps : List ℕ} → Chain w q ps → q ≢ 0 → Step w q
step_of done n = absurd (n refl)
step_of (link {q = q} {ps = ps} l u c) n =
    record { is = places_are (link {ps = ps} l u c) ∙ ap (q ∷◌) (sym (places_are c)); low = l; high = u; on = record { places = ps; chain = c } }

pub step : {w : List ℕ} {q : ℕ} → Ends w q → q ≢ 0 → Step w q
step e n = step_of e.chain n

pub none_at : {w : List ℕ} {q : ℕ} → Ends w q → q ≡ 0 → list_places w q ≡ []
none_at e z = places_are e.chain ∙ ended e.chain z

-- THE LAST PLACE of a list that is not empty stands in it
pub last_off : (y x : ℕ) (xs : List ℕ) → count y (x ∷ xs) ≡ 0 → last_or x xs ≢ y
last_off y x xs h =
    let a : All (λ z. z ≢ y) (x ∷ xs) = all_off (λ z. z ≢ y) y (x ∷ xs) h (λ z n. n) in
    all_last (λ z. z ≢ y) x xs a.0 a.1

pub last_range : (x : ℕ) (xs : List ℕ) → All (λ p. (1 ≤ p) × (p ≤ 500)) (x ∷ xs) → (1 ≤ last_or x xs) × (last_or x xs ≤ 500)
last_range x xs a = all_last (λ p. (1 ≤ p) × (p ≤ 500)) x xs a.0 a.1

-- any place but 0 that does not stand in a list is not its last
pub last_else : (y : ℕ) (xs : List ℕ) → 1 ≤ y → count y xs ≡ 0 → last_or 0 xs ≢ y
unfolding last_or
last_else y [] l h = λ e. omega arith
last_else y (x ∷ xs) l h = last_off y x xs h

-- BEHIND the last place of a beginning
rest_on : {w : List ℕ} (x : ℕ) (xs ys : List ℕ) → Chain w x (x ∷ (xs ++ ys)) → Chain w (record_next (record_of w (last_or x xs))) ys
unfolding last_or
rest_on x [] ys c = (first c).on
rest_on {w} x (y ∷ xs) ys c =
    let f = first c in
    let e = (first f.on).is in
    rest_on y xs ys (subst (λ z. Chain w z (y ∷ (xs ++ ys))) e f.on)

pub behind_chain : (w : List ℕ) (h : ℕ) (xs ys : List ℕ) → Chain w h (xs ++ ys) → Chain w (behind w h (last_or 0 xs)) ys
unfolding behind last_or
behind_chain w h [] ys c = c
behind_chain w h (x ∷ xs) ys c =
    let a = last_range x xs (all_left (λ p. (1 ≤ p) × (p ≤ 500)) (x ∷ xs) ys (chain_range c)) in
    rw (eq_no (last_or x xs) 0 (omega arith)) (rest_on x xs ys (subst (λ z. Chain w z (x ∷ (xs ++ ys))) (first c).is c))
