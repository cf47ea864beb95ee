-- The pass decides rule 6, and what it took of each share is what the account holds.
-- Assumes nothing.
use Prim.Native.Nat.{ℕ, zero, suc, ◌+◌, ◌-◌, ◌<◌, ◌≤◌, zero-le}
use mathlib.Core.Path.{◌≡◌, refl, sym, ap, ◌∙◌}
use mathlib.Core.Bool.{Bool, true, false, ◌&&◌}
use mathlib.Core.List.{List, [], ◌∷◌}
use lib.Dec.{T, leb, ltb, eqb, ltb→lt, lt→ltb}
use lib.ListN.{length, get_or}
use lib.Seq.{get_or-set_same, get_or-set_other}
use native.Mathlib.Omega.{arith}
use Rattle.std.specs.Prelude.{Some, None, is_some, option_and_then}
use Rattle.std.proofs.lemmas.Option.{none-some, same_Some}
use Rattle.words.specs.Lists.{filter, All, Pairs, sum}
use Rattle.words.proofs.Tests.{T_of, of_T, no_t, by_test, and_left, and_right, and_both, and_false, lt_of, nlt_of, eq_of, ne_of, eq_yes, eq_no}
use Rattle.words.proofs.Listed.{all_mono, all_two, all_every, pairs_two, filter_none}
use Rattle.words.proofs.Says.{Says, says_same, says_iff, and_says, le_says, all_says, true_so, so_true}
use Rattle.words.proofs.Counted.{one}
use Rattle.regions.specs.Positions.{account, well_formed, nested, leveled}
use Rattle.regions.specs.Sets.{Set, of, held_by, share_of}
use Rattle.regions.specs.Sound.{Wf, Rising, Nesting, Leveling}
use Rattle.regions.specs.declared.Region.{Region}
use Rattle.regions.proofs.Means.{formed_says, nested_in_turn, leveled_in_turn}
use Rattle.regions.proofs.Rising.{nesting_says, leveling_says}
use Rattle.xrtree.specs.Rules.{shares_kept, rule6}
use Rattle.nesting.specs.Pass.{Around, kept, pop, under, Passed, going, left_for, take_one, enter}
use Rattle.nesting.proofs.Stack.{under_says, some_at}
use Rattle.census.specs.Pass.{pass}

-- a region starts behind the end of one around, or lies in it with a level above that one's
abbrev Apart : Around → Region → Type 0
Apart t y = y.start ≤ t.end → (y.end < t.end) × (t.level < y.level)

abbrev Clear : List Around → Region → Type 0
Clear st y = All (λ t. Apart t y) st

abbrev Rightly : Region → Region → Type 0
Rightly x y = Apart (kept x) y

-- from the innermost outwards ends rise and levels fall, so that what the innermost allows all allow
abbrev Outwards : List Around → Type 0
Outwards st = Pairs (λ t u. (t.end < u.end) × (u.level < t.level)) st

-- CLOSING, and what stays open
under_nothing : (r : Region) → T (under r [])
unfolding under
under_nothing r = tt

clear_under : (r : Region) (st : List Around) → Clear st r → T (under r (pop r.start st))
unfolding pop
clear_under r [] h = under_nothing r
clear_under r (t ∷ ts) h =
    by_test (ltb t.end r.start) (λ k. rw k (clear_under r ts h.1)) (λ k. rw k ((under_says r t ts).so_yes (h.0 (nlt_of t.end r.start k))))

under_clear : (r : Region) (st : List Around) → Outwards st → T (under r (pop r.start st)) → Clear st r
unfolding pop
under_clear r [] o u = tt
under_clear r (t ∷ ts) o u =
    by_test (ltb t.end r.start)
    (λ k. (λ l. absurd (omega (arith, lt_of t.end r.start k)), under_clear r ts o.1 (rw k at u)))
    (λ k. let m = (under_says r t ts).yes_so (rw k at u) in (λ l. m, all_mono (λ v q l. (omega arith, omega arith)) ts o.0))

pop_outwards : (s : ℕ) (st : List Around) → Outwards st → Outwards (pop s st)
unfolding pop
pop_outwards s [] o = tt
pop_outwards s (t ∷ ts) o = by_test (ltb t.end s) (λ k. rw k (pop_outwards s ts o.1)) (λ k. rw k o)

push_outwards : (r : Region) (st : List Around) → Outwards st → T (under r st) → Outwards (kept r ∷ st)
push_outwards r [] o u = (tt, tt)
push_outwards r (t ∷ ts) o u = let l = (under_says r t ts).yes_so u in ((l, all_mono (λ v q. (omega arith, omega arith)) ts o.0), o)

-- what was closed is clear of all that comes behind
pop_clear : (s : ℕ) (st : List Around) (y : Region) → s < y.start → Clear (pop s st) y → Clear st y
unfolding pop
pop_clear s [] y l h = tt
pop_clear s (t ∷ ts) y l h =
    by_test (ltb t.end s) (λ k. (λ m. absurd (omega (arith, lt_of t.end s k)), pop_clear s ts y l (rw k at h))) (λ k. rw k at h)

clear_pop : (s : ℕ) (st : List Around) (y : Region) → Clear st y → Clear (pop s st) y
unfolding pop
clear_pop s [] y h = tt
clear_pop s (t ∷ ts) y h = by_test (ltb t.end s) (λ k. rw k (clear_pop s ts y h.1)) (λ k. rw k h)

-- COUNTING
abbrev held_in : ℕ → List Region → ℕ
held_in a rs = length (filter (of a) rs)

held_more : (a : ℕ) (r : Region) (rs : List Region) → held_in a (r ∷ rs) ≡ one (of a r) + held_in a rs
unfolding filter
held_more a r rs = by_test (of a r) (λ h. rw h (omega arith)) (λ h. rw h (omega arith))

took_one : (a : ℕ) (r : Region) (left : List ℕ) → 0 < left_for r left → one (of a r) + get_or (take_one r left) a 0 ≡ get_or left a 0
unfolding of
took_one a r left h =
    by_test (eqb (account r.start) a)
    (λ k. let e = eq_of (account r.start) a k in
    let l : get_or (take_one r left) (account r.start) 0 ≡ left_for r left - 1 =
    get_or-set_same left (account r.start) (left_for r left - 1) 0 (some_at left (account r.start) h) in
    rw k (rw (← e) (omega arith)))
    (λ k. let e = ne_of (account r.start) a k in
    rw k (omega (arith, get_or-set_other left (account r.start) a (left_for r left - 1) 0 (λ q. e (sym q)))))

own_one : (r : Region) → one (of (account r.start) r) ≡ 1
unfolding of
own_one r = rw (eq_yes (account r.start) (account r.start) refl)

-- ONE REGION
abbrev admits : Region → List Around → List ℕ → Bool
admits r st left = well_formed r && (ltb 0 (left_for r left) && under r (pop r.start st))

-- the stack behind it
abbrev put : Region → List Around → List Around
put r st = kept r ∷ pop r.start st

admits_some : (r : Region) (st : List Around) (left : List ℕ) → T (admits r st left) → 0 < left_for r left
admits_some r st left t =
    ltb→lt 0 (left_for r left) (and_left (ltb 0 (left_for r left)) (under r (pop r.start st)) (and_right (well_formed r) _ t))

admits_under : (r : Region) (st : List Around) (left : List ℕ) → T (admits r st left) → T (under r (pop r.start st))
admits_under r st left t = and_right (ltb 0 (left_for r left)) _ (and_right (well_formed r) _ t)

pass_cons : (r : Region) (rs : List Region) (s : Passed) → pass (r ∷ rs) s ≡ option_and_then (pass rs) (enter r s)
unfolding pass
pass_cons r rs s = refl

enter_yes : (r : Region) (st : List Around) (left : List ℕ) → admits r st left ≡ true → enter r (going st left) ≡ Some (going (put r st) (take_one r left))
unfolding enter
enter_yes r st left h = rw h

enter_no : (r : Region) (st : List Around) (left : List ℕ) → admits r st left ≡ false → enter r (going st left) ≡ None
unfolding enter
enter_no r st left h = rw h

-- ALL REGIONS
abbrev Right : List Around → List ℕ → List Region → Type 0
Right st left rs = All Wf rs × All (Clear st) rs × Pairs Rightly rs × ((a : ℕ) → held_in a rs ≤ get_or left a 0)

module _ (r : Region) (rs : List Region) (st : List Around) (left : List ℕ) where
  right_admits : Right st left (r ∷ rs) → T (admits r st left)
  right_admits m =
      and_both (well_formed r) _ (T_of m.0.0)
      (and_both (ltb 0 (left_for r left)) _
      (lt→ltb 0 (left_for r left) (omega (arith, m.3 (account r.start), held_more (account r.start) r rs, own_one r)))
      (clear_under r st m.1.0))

  right_rest : T (admits r st left) → Right st left (r ∷ rs) → Right (put r st) (take_one r left) rs
  right_rest t m = (
    m.0.1,
    all_two {R = Clear (put r st)} (λ y h k. (h, clear_pop r.start st y k)) rs m.2.0 m.1.1,
    m.2.1,
    λ a. omega (arith, m.3 a, held_more a r rs, took_one a r left (admits_some r st left t)),
  )

  right_whole : Outwards st → All (λ y. r.start < y.start) rs → T (admits r st left) → Right (put r st) (take_one r left) rs → Right st left (r ∷ rs)
  right_whole o f t m = (
    (of_T (well_formed r) (and_left (well_formed r) _ t), m.0),
    (under_clear r st o (admits_under r st left t), all_two {R = Clear st} (λ y l k. pop_clear r.start st y l k.1) rs f m.1),
    (all_mono {Q = Rightly r} (λ y k. k.0) rs m.1, m.2),
    λ a. omega (arith, m.3 a, held_more a r rs, took_one a r left (admits_some r st left t)),
  )

pass_none : (st : List Around) (left : List ℕ) → Says (is_some (pass [] (going st left))) (Right st left [])
unfolding pass filter
pass_none st left = record { yes_so = λ t. (tt, tt, tt, λ a. zero-le); so_yes = λ m. tt }

pass_says : (rs : List Region) (st : List Around) (left : List ℕ) → Outwards st → Rising rs → Says (is_some (pass rs (going st left))) (Right st left rs)
pass_says [] st left o f = pass_none st left
pass_says (r ∷ rs) st left o f =
    by_test (admits r st left)
    (λ h. rw (pass_cons r rs (going st left), enter_yes r st left h)
    (says_iff
    (pass_says rs (put r st) (take_one r left) (push_outwards r (pop r.start st) (pop_outwards r.start st o) (admits_under r st left (T_of h))) f.1)
    (right_whole r rs st left o f.0 (T_of h))
    (right_rest r rs st left (T_of h))))
    (λ h. rw (pass_cons r rs (going st left), enter_no r st left h)
    (record { yes_so = λ t. absurd t; so_yes = λ m. absurd (no_t h (right_admits r rs st left m)) }))

-- a pass that went well let its first region in
first_in : (r : Region) (rs : List Region) (st : List Around) (left : List ℕ) (p : Passed) → pass (r ∷ rs) (going st left) ≡ Some p
    → (0 < left_for r left) × (pass rs (going (put r st) (take_one r left)) ≡ Some p)
first_in r rs st left p k =
    by_test (admits r st left)
    (λ h. (admits_some r st left (T_of h), sym (pass_cons r rs (going st left) ∙ ap (option_and_then (pass rs)) (enter_yes r st left h)) ∙ k))
    (λ h. absurd (none-some p (sym (pass_cons r rs (going st left) ∙ ap (option_and_then (pass rs)) (enter_no r st left h)) ∙ k)))

-- what was taken of each share
none_after : (st : List Around) (left : List ℕ) (p : Passed) → pass [] (going st left) ≡ Some p → (a : ℕ) → held_in a [] + get_or p.left a 0 ≡ get_or left a 0
unfolding pass filter
none_after st left p k a = let e : get_or left a 0 ≡ get_or p.left a 0 = ap (λ (s : Passed). get_or s.left a 0) (same_Some (going st left) p k) in omega arith

left_after : (rs : List Region) (st : List Around) (left : List ℕ) (p : Passed) → pass rs (going st left) ≡ Some p → (a : ℕ) → held_in a rs + get_or p.left a 0 ≡ get_or left a 0
left_after [] st left p k a = none_after st left p k a
left_after (r ∷ rs) st left p k a =
    let f = first_in r rs st left p k in
    let i = left_after rs (put r st) (take_one r left) p f.1 a in
    omega (arith, i, held_more a r rs, took_one a r left f.0)

-- RULE 6. Of two regions the second starts behind the first, and ends behind its own start
abbrev Behind : Region → Region → Type 0
Behind x y = (x.start < y.start) × (y.start < y.end)

behind : (rs : List Region) → All Wf rs → Rising rs → Pairs Behind rs
behind [] w f = tt
behind (x ∷ xs) w f = (all_two {R = Behind x} (λ y v l. (l, (true_so (formed_says y) v).order)) xs w.1 f.0, behind xs w.1 f.1)

-- of every two such regions both tests together say what the pass asks
module _ (rs : List Region) (b : Pairs Behind rs) where
  rightly : Nesting rs → Leveling rs → Pairs Rightly rs
  rightly n l = pairs_two {S = Rightly} turn rs (pairs_two {S = λ x y. Behind x y × (nested x y ≡ true)} (λ x y u v. (u, v)) rs b n) l
    where
      turn : (x y : Region) → Behind x y × (nested x y ≡ true) → leveled x y ≡ true → Rightly x y
      turn x y m v h =
          let e = true_so (nested_in_turn x y m.0.0 (omega arith)) m.1 h in
          (e, true_so (leveled_in_turn x y m.0.0) v e)

  all_nest : Pairs Rightly rs → Nesting rs
  all_nest m = pairs_two {S = λ x y. nested x y ≡ true} (λ x y u v. so_true (nested_in_turn x y u.0 (omega arith)) (λ h. (v h).0)) rs b m

  all_level : Pairs Rightly rs → Leveling rs
  all_level m = pairs_two {S = λ x y. leveled x y ≡ true} (λ x y u v. so_true (leveled_in_turn x y u.0) (λ h. (v (omega arith)).1)) rs b m

abbrev Kept : ℕ → Set → Type 0
Kept n S = (a : ℕ) → a < n → held_by a S ≤ share_of a S

kept_says : (n : ℕ) (S : Set) → Says (shares_kept n S) (Kept n S)
unfolding shares_kept
kept_says zero S = record { yes_so = λ t a h. absurd (omega arith); so_yes = λ m. tt }
kept_says (suc n) S =
    says_iff (and_says (le_says (held_by n S) (share_of n S)) (kept_says n S))
    (λ m a h. by_test (eqb a n) (λ t. rw (eq_of a n t) m.0) (λ t. let q : (a ≡ n → ⊥) = ne_of a n t in m.1 a (omega arith)))
    (λ m. (m n (omega arith), λ a h. m a (omega arith)))

itself : (b : Bool) → Says b (b ≡ true)
itself b = record { yes_so = of_T b; so_yes = λ e. T_of e }

rule_says : (S : Set) → Says (rule6 S) (All Wf S.regions × (Nesting S.regions × (Leveling S.regions × (Kept 16 S × (sum S.shares ≤ 500)))))
unfolding rule6
rule_says S =
    and_says (all_says (λ r. itself (well_formed r)) S.regions)
    (and_says (nesting_says S.regions) (and_says (leveling_says S.regions) (and_says (kept_says 16 S) (le_says (sum S.shares) 500))))

-- a start of 32 bits is of one of sixteen accounts
abbrev pub Small : Region → Type 0
Small r = r.start < 4294967296

none_above : (a : ℕ) → 16 ≤ a → (rs : List Region) → All Small rs → held_in a rs ≡ 0
unfolding of
none_above a h rs s = ap length (filter_none (of a) rs (all_mono (λ r k. not_of r k) rs s))
  where
    not_of : (r : Region) → Small r → of a r ≡ false
    not_of r k = eq_no (account r.start) a (λ e. omega arith)

pub pass_decides : (S : Set) → Rising S.regions → All Small S.regions → sum S.shares ≤ 500 → is_some (pass S.regions (going [] S.shares)) ≡ rule6 S
pass_decides S f s h =
    says_same (pass_says S.regions [] S.shares tt f)
    (says_iff (rule_says S)
    (λ m. (
      m.0,
      all_every (λ r. tt) S.regions,
      rightly S.regions (behind S.regions m.0 f) m.1.0 m.1.1.0,
      λ a. by_test (ltb a 16) (λ t. m.1.1.1.0 a (lt_of a 16 t)) (λ t. omega (arith, none_above a (nlt_of a 16 t) S.regions s)),
    ))
    (λ m. let b = behind S.regions m.0 f in
    (m.0, (all_nest S.regions b m.2, (all_level S.regions b m.2, (λ a l. m.3 a, h))))))

pub rule_over : (S : Set) → leb (sum S.shares) 500 ≡ false → false ≡ rule6 S
unfolding rule6
rule_over S h = rw (h, and_false, and_false, and_false, and_false)

pub held_is : (S : Set) (p : Passed) → pass S.regions (going [] S.shares) ≡ Some p → (a : ℕ) → (held_by a S + get_or p.left a 0 ≡ share_of a S)
held_is S p k a = left_after S.regions [] S.shares p k a
