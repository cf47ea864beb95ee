-- The stack in words: its first n regions; what is read of it, popped from it and pushed onto it.
-- Assumes nothing.
use Prim.Native.Nat.{ℕ, zero, suc, ◌+◌, ◌*◌, ◌-◌, ◌/◌, ◌≤◌, ◌<◌}
use mathlib.Core.Path.{◌≡◌, refl, sym, ap, ap₂, ◌∙◌, subst}
use mathlib.Core.Bool.{true}
use mathlib.Core.List.{List, [], ◌∷◌, ◌++◌, append-nil, append_assoc}
use lib.Dec.{eqb}
use lib.ListN.{length, get_or, length-append}
use lib.Seq.{sets}
use native.Mathlib.Omega.{arith}
use native.Mathlib.Numerals.{add-one}
use Rattle.words.specs.Lists.{filter, All}
use Rattle.words.proofs.Tests.{by_test, eq_of, ne_of}
use Rattle.words.proofs.Listed.{all_left, all_right, pairs_left}
use Rattle.words.proofs.Written.{sets_below, sets_in}
use Rattle.regions.specs.Positions.{holds}
use Rattle.regions.specs.Calls.{room, region_words}
use Rattle.regions.specs.declared.Region.{Region}
use Rattle.regions.specs.declared.Choice.{Choice}
use Rattle.words.proofs.Says.{so_true, so_false}
use Rattle.answers.specs.Items.{written_from}
use Rattle.answers.proofs.Items.{from_none, from_long, from_one, from_append}
use Rattle.stack.specs.Stacks.{ends_behind, Falling, region_at, stacked}
use Rattle.stack.proofs.Stacks.{ends_says, pop_one, pop_stop}

pub stacked_long : (ws : List ℕ) (n : ℕ) → length (stacked ws n) ≡ n
unfolding stacked
stacked_long ws zero = refl
stacked_long ws (suc n) = length-append (stacked ws n) (region_at ws n ∷ []) ∙ omega (arith, stacked_long ws n)

pub stacked_more : (ws : List ℕ) (n : ℕ) → stacked ws (suc n) ≡ stacked ws n ++ region_at ws n ∷ []
unfolding stacked
stacked_more ws n = refl

-- the first i of n, and the others
pub stacked_front : (ws : List ℕ) (i n : ℕ) → i ≤ n → (vs : List Region) × (stacked ws n ≡ stacked ws i ++ vs)
stacked_front ws i zero l = let e : 0 ≡ i = omega arith in ([], ap (stacked ws) e ∙ sym (append-nil (stacked ws i)))
stacked_front ws i (suc n) l =
    by_test (eqb i (suc n)) (λ e. ([], ap (stacked ws) (sym (eq_of i (suc n) e)) ∙ sym (append-nil (stacked ws i))))
    (λ e.
    let ne : (i ≡ suc n → ⊥) = ne_of i (suc n) e in
    let r = stacked_front ws i n (omega arith) in
    (r.0 ++ region_at ws n ∷ [], stacked_more ws n ∙ ap (λ us. us ++ region_at ws n ∷ []) r.1 ∙ append_assoc (stacked ws i) r.0 (region_at ws n ∷ [])))

-- what all of them have, each has
pub stacked_at : (P : Region → Type 0) (ws : List ℕ) (n i : ℕ) → i < n → All P (stacked ws n) → P (region_at ws i)
stacked_at P ws n i l h =
    let r = stacked_front ws (suc i) n l in
    let front : All P (stacked ws (suc i)) = all_left P (stacked ws (suc i)) r.0 (rw r.1 at h) in
    (all_right P (stacked ws i) (region_at ws i ∷ []) (rw stacked_more at front)).0

-- A REGION THAT IS READ
pub region_read : (ws : List ℕ) (i a b c d : ℕ) → a ≡ get_or ws (4 * i) 0 → b ≡ get_or ws (4 * i + 1) 0 → c ≡ get_or ws (4 * i + 2) 0 → d ≡ get_or ws (4 * i + 3) 0
    → record { start = a; end = b; level = c; reference = d } ≡ region_at ws i
unfolding region_at
region_read ws i a b c d e f g h = rw (e, f, g, h)

pub read_holds : (ws : List ℕ) (n i : ℕ) (ch : Choice) (p : ℕ) (a : Region) → a ≡ region_at ws i → i < n → All (λ (x : Region). holds ch p x ≡ true) (stacked ws n) → holds ch p a ≡ true
read_holds ws n i ch p a e l h = rw e (stacked_at (λ (x : Region). holds ch p x ≡ true) ws n i l h)

-- POPPING: m are left, the top of them has ended or has not
module _ (ws : List ℕ) (q n m : ℕ) (is : filter (ends_behind q) (stacked ws m) ≡ filter (ends_behind q) (stacked ws n)) where
  pub popped_all : m ≤ 0 → stacked ws 0 ≡ filter (ends_behind q) (stacked ws n)
  popped_all l = none ∙ ap (λ k. filter (ends_behind q) (stacked ws k)) (sym e) ∙ is
    where
      e : m ≡ 0
      e = omega arith

      none : stacked ws 0 ≡ filter (ends_behind q) (stacked ws 0)
      none = unfold stacked filter in refl

  -- the top's end, as it is read
  module _ (x : ℕ) (l : 0 < m) (r : x ≡ get_or ws (4 * (m - 1) + 1) 0) where
    top : stacked ws m ≡ stacked ws (m - 1) ++ region_at ws (m - 1) ∷ []
    top = let e : m ≡ suc (m - 1) = omega arith in ap (stacked ws) e ∙ stacked_more ws (m - 1)

    end_is : x ≡ (region_at ws (m - 1)).end
    unfolding region_at
    end_is = r

    pub popped_one : x ≤ q → filter (ends_behind q) (stacked ws (m - 1)) ≡ filter (ends_behind q) (stacked ws n)
    popped_one k = sym (pop_one q (stacked ws (m - 1)) (region_at ws (m - 1)) (omega (arith, end_is))) ∙ ap (filter (ends_behind q)) (sym top) ∙ is

    pub popped_stop : Falling (stacked ws m) → q < x → stacked ws (m - 1 + 1) ≡ filter (ends_behind q) (stacked ws n)
    popped_stop f k =
        let e : m - 1 + 1 ≡ m = omega arith in
        ap (stacked ws) e ∙ top ∙ sym (pop_stop q (stacked ws (m - 1)) (region_at ws (m - 1)) (subst (λ (l : List Region). Falling l) top f) (omega (arith, end_is)))
        ∙ ap (filter (ends_behind q)) (sym top) ∙ is

-- what is left falls too
pub fall_less : (ws : List ℕ) (m : ℕ) → 0 < m → Falling (stacked ws m) → Falling (stacked ws (m - 1))
fall_less ws m l f =
    let r = stacked_front ws (m - 1) m (omega arith) in
    pairs_left (λ x y. y.end < x.end) (stacked ws (m - 1)) r.0 (subst (λ (l : List Region). Falling l) r.1 f)

-- WRITING: the words below count only
stacked_same : (ws vs : List ℕ) (n : ℕ) → ((j : ℕ) → j < 4 * n → get_or ws j 0 ≡ get_or vs j 0) → stacked ws n ≡ stacked vs n
unfolding stacked region_at
stacked_same ws vs zero h = refl
stacked_same ws vs (suc n) h =
    let a = h (4 * n) (omega arith) in
    let b = h (4 * n + 1) (omega arith) in
    let c = h (4 * n + 2) (omega arith) in
    let d = h (4 * n + 3) (omega arith) in
    ap₂ ◌++◌ (stacked_same ws vs n (λ j l. h j (omega arith))) (rw (a, b, c, d))

region_put : (out : List ℕ) (k : ℕ) (r : Region) → 4 * k + 4 ≤ length out → region_at (sets out (4 * k) (region_words r)) k ≡ r
unfolding region_at
region_put out k r h =
    let z : 4 * k + 0 ≡ 4 * k = omega arith in
    let a = rw z at (word 0 (omega arith)) in
    rw (a, word 1 (omega arith), word 2 (omega arith), word 3 (omega arith))
  where
    word : (j : ℕ) → j < 4 → get_or (sets out (4 * k) (region_words r)) (4 * k + j) 0 ≡ get_or (region_words r) j 0
    word j l = sets_in (region_words r) out (4 * k) j 0 l h

-- one
pub stacked_push : (out : List ℕ) (k : ℕ) (r : Region) → k < room 4 out → stacked (written_from region_words 4 k out (r ∷ [])) (suc k) ≡ stacked out k ++ r ∷ []
stacked_push out k r h =
    let ws = sets out (4 * k) (region_words r) in
    let e : written_from region_words 4 k out (r ∷ []) ≡ ws = from_one region_words 4 k out r h ∙ ap (sets out (4 * k)) (append-nil (region_words r)) in
    ap (λ vs. stacked vs (suc k)) e ∙ stacked_more ws k
    ∙ ap₂ ◌++◌ (stacked_same ws out k (λ j l. sets_below (region_words r) out (4 * k) j 0 l)) (ap (λ x. x ∷ []) (region_put out k r (omega arith)))

-- many, behind those that stand there, or from the first on
pub stacked_many : (xs : List Region) (out : List ℕ) (k : ℕ) → k + length xs ≤ room 4 out → stacked (written_from region_words 4 k out xs) (k + length xs) ≡ stacked out k ++ xs
stacked_many [] out k h =
    let e : k + 0 ≡ k = omega arith in
    ap₂ stacked (from_none region_words 4 k out) e ∙ sym (append-nil (stacked out k))
stacked_many (x ∷ xs) out k h =
    let o = written_from region_words 4 k out (x ∷ []) in
    let n = from_long region_words 4 k out (x ∷ []) in
    let e : k + suc (length xs) ≡ suc k + length xs = omega arith in
    let g : written_from region_words 4 k out (x ∷ xs) ≡ written_from region_words 4 (suc k) o xs =
    from_append region_words 4 (λ r. refl) k out (x ∷ []) xs ∙ ap (λ m. written_from region_words 4 m o xs) (add-one k) in
    ap₂ stacked g e ∙ stacked_many xs o (suc k) (omega (arith, ap (λ m. m / 4) n))
    ∙ ap (λ us. us ++ xs) (stacked_push out k x (omega arith)) ∙ append_assoc (stacked out k) (x ∷ []) xs

pub stacked_all : (xs : List Region) (out : List ℕ) → length xs ≤ room 4 out → stacked (written_from region_words 4 0 out xs) (length xs) ≡ xs
unfolding stacked
stacked_all xs out h = let e : 0 + length xs ≡ length xs = omega arith in ap (stacked (written_from region_words 4 0 out xs)) (sym e) ∙ stacked_many xs out 0 (omega arith)

-- PUSHING: it has ended, or it goes on top
pub pushed_not : (ws : List ℕ) (n q : ℕ) (a : Region) → a.end ≤ q → stacked ws n ≡ stacked ws n ++ filter (ends_behind q) (a ∷ [])
unfolding filter
pushed_not ws n q a l = rw (so_false (ends_says q a) (λ k. omega arith)) (sym (append-nil (stacked ws n)))

pub pushed_one : (ws vs : List ℕ) (n q : ℕ) (a : Region) → n < room 4 ws → q < a.end → vs ≡ written_from region_words 4 n ws (a ∷ [])
    → stacked vs (n + 1) ≡ stacked ws n ++ filter (ends_behind q) (a ∷ [])
unfolding filter
pushed_one ws vs n q a h l e = ap₂ stacked e (add-one n) ∙ stacked_push ws n a h ∙ rw (so_true (ends_says q a) l)
