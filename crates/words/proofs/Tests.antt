-- Tests: from a Bool to the fact that it decides, and back.
-- Assumes nothing.
use Prim.Native.Nat.{ℕ, suc, ◌<◌, ◌≤◌}
use mathlib.Core.Path.{◌≡◌, refl, sym, ◌∙◌}
use mathlib.Core.Bool.{Bool, true, false, not, ◌&&◌, ◌||◌, cond, true≢false, false≢true}
use mathlib.Core.List.{List, ◌∷◌}
use lib.Dec.{T, leb, ltb, eqb, leb→le, le→leb, ltb→lt, lt→ltb, nleb→lt, nltb→le, eqb→eq, eqb_refl}
use native.Mathlib.Omega.{arith}
use Rattle.words.specs.Lists.{first_no}

pub T_of : {b : Bool} → b ≡ true → T b
T_of e = rw e tt

pub of_T : (b : Bool) → T b → b ≡ true
of_T true h = refl
of_T false h = absurd h

pub off_t : (b : Bool) → (T b → ⊥) → b ≡ false
off_t true h = absurd (h tt)
off_t false h = refl

pub T-off : {b : Bool} → b ≡ false → T (not b)
T-off e = rw e tt

pub no_t : {b : Bool} → b ≡ false → T b → ⊥
no_t e t = rw e at t

-- two tests that hold together
pub both : (a b : Bool) → (T a → T b) → (T b → T a) → a ≡ b
both true b f g = sym (of_T b (f tt))
both false true f g = absurd (g tt)
both false false f g = refl

pub by_test : {C : Type 0} (b : Bool) → (b ≡ true → C) → (b ≡ false → C) → C
by_test true f g = f refl
by_test false f g = g refl

pub and_left : (a b : Bool) → T (a && b) → T a
and_left true b h = tt
and_left false b h = absurd h

pub and_right : (a b : Bool) → T (a && b) → T b
and_right true b h = h
and_right false b h = absurd h

pub and_both : (a b : Bool) → T a → T b → T (a && b)
and_both true b h k = k
and_both false b h k = h

pub and_comm : (a b : Bool) → (a && b) ≡ (b && a)
and_comm true true = refl
and_comm true false = refl
and_comm false true = refl
and_comm false false = refl

pub and_false : (a : Bool) → (a && false) ≡ false
and_false true = refl
and_false false = refl

pub and_true : (a : Bool) → (a && true) ≡ a
and_true true = refl
and_true false = refl

pub and_assoc : (a b c : Bool) → (a && b && c) ≡ (a && (b && c))
and_assoc true b c = refl
and_assoc false b c = refl

-- one of two tests holds
pub or_cases : {C : Type 0} (a b : Bool) → T (a || b) → (T a → C) → (T b → C) → C
or_cases true b t f g = f tt
or_cases false b t f g = g t

pub or_left : (a b : Bool) → T a → T (a || b)
or_left true b t = tt
or_left false b t = absurd t

pub or_right : (a b : Bool) → T b → T (a || b)
or_right true b t = tt
or_right false b t = t

pub or_false_left : (a b : Bool) → (a || b) ≡ false → a ≡ false
or_false_left true b h = h
or_false_left false b h = refl

pub or_false_right : (a b : Bool) → (a || b) ≡ false → b ≡ false
or_false_right true b h = absurd (true≢false h)
or_false_right false b h = h

pub not_false : (b : Bool) → not b ≡ false → b ≡ true
not_false true h = refl
not_false false h = absurd (true≢false h)

pub not_true : (b : Bool) → not b ≡ true → b ≡ false
not_true true h = absurd (false≢true h)
not_true false h = refl

-- tests on numbers
pub eq_of : (m n : ℕ) → eqb m n ≡ true → m ≡ n
eq_of m n e = eqb→eq m n (T_of e)

pub ne_of : (m n : ℕ) → eqb m n ≡ false → m ≡ n → ⊥
ne_of m n e h = absurd (true≢false (sym (of_T (eqb m n) (rw h (eqb_refl n))) ∙ e))

pub eq_yes : (m n : ℕ) → m ≡ n → eqb m n ≡ true
eq_yes m n h = of_T _ (rw h (eqb_refl n))

pub eq_no : (m n : ℕ) → (m ≡ n → ⊥) → eqb m n ≡ false
eq_no m n h = off_t _ (λ t. h (eqb→eq m n t))

pub lt_of : (m n : ℕ) → ltb m n ≡ true → m < n
lt_of m n e = ltb→lt m n (T_of e)

pub nlt_of : (m n : ℕ) → ltb m n ≡ false → n ≤ m
nlt_of m n e = nltb→le m n (T-off e)

pub le_of : (m n : ℕ) → leb m n ≡ true → m ≤ n
le_of m n e = leb→le m n (T_of e)

pub nle_of : (m n : ℕ) → leb m n ≡ false → n < m
nle_of m n e = nleb→lt m n (T-off e)

pub lt_yes : (m n : ℕ) → m < n → ltb m n ≡ true
lt_yes m n h = of_T _ (lt→ltb m n h)

pub lt_no : (m n : ℕ) → n ≤ m → ltb m n ≡ false
lt_no m n h = off_t _ (λ t. let k = ltb→lt m n t in omega arith)

pub le_yes : (m n : ℕ) → m ≤ n → leb m n ≡ true
le_yes m n h = of_T _ (le→leb m n h)

pub le_no : (m n : ℕ) → n < m → leb m n ≡ false
le_no m n h = off_t _ (λ t. let k = leb→le m n t in omega arith)

-- one of two values by a test
pub cond_else : {X : Type 0} (b : Bool) (x y z : X) → (b ≡ false → y ≡ z) → cond b x y ≡ cond b x z
cond_else true x y z f = refl
cond_else false x y z f = f refl

pub cond_same : {X : Type 0} (b : Bool) (x y z : X) → (b ≡ true → x ≡ y) → cond b x z ≡ cond b y z
cond_same true x y z f = f refl
cond_same false x y z f = refl

pub cond_twice : {X : Type 0} (b : Bool) (x : X) → cond b x x ≡ x
cond_twice true x = refl
cond_twice false x = refl

-- a property of one of two values, and a relation of two such
pub either : {X : Type 0} (P : X → Type 0) (b : Bool) (x y : X) → (b ≡ true → P x) → (b ≡ false → P y) → P (cond b x y)
either P true x y f g = f refl
either P false x y f g = g refl

pub both_cond : {X : Type 0} (R : X → X → Type 0) (b b' : Bool) (x y x' y' : X) → b ≡ b' → (b ≡ true → b' ≡ true → R x x') → R y y' → R (cond b x y) (cond b' x' y')
both_cond R true true x y x' y' e f g = f refl refl
both_cond R true false x y x' y' e f g = absurd (true≢false e)
both_cond R false true x y x' y' e f g = absurd (false≢true e)
both_cond R false false x y x' y' e f g = g

pub first_0 : (b : Bool) (n : ℕ) (ts : List (Bool × ℕ)) → first_no ((b, suc n) ∷ ts) ≡ 0 → (b ≡ false) × (first_no ts ≡ 0)
unfolding first_no
first_0 true n ts e = absurd (let z : suc n ≡ 0 = e in omega arith)
first_0 false n ts e = (refl, e)

pub first_else : (b : Bool) (n : ℕ) (ts us : List (Bool × ℕ)) → (b ≡ false → first_no ts ≡ first_no us) → first_no ((b, n) ∷ ts) ≡ first_no ((b, n) ∷ us)
unfolding first_no
first_else b n ts us f = cond_else b n (first_no ts) (first_no us) f

-- done or refused, by one number
pub either_way : (m n : ℕ) {C : Type 0} → m ≡ n → ((m ≡ 0) → (n ≡ 0) → C) → ((m ≡ 0 → ⊥) → (n ≡ 0 → ⊥) → C) → C
either_way m n e f g =
    by_test (eqb m 0)
    (λ t. let z = eq_of m 0 t in f z (sym e ∙ z))
    (λ t. let z = ne_of m 0 t in g z (λ q. z (e ∙ q)))
