-- A set whose starts ascend: what a save and a delete leave of it, and that they keep what every set has.
-- Assumes nothing.
use Prim.Native.Nat.{ℕ, suc, ◌+◌, ◌<◌, ◌≤◌}
use mathlib.Core.Path.{◌≡◌, refl, sym, ap, ap₂, ◌∙◌, subst}
use mathlib.Core.Bool.{Bool, true, false, not, cond, false≢true}
use mathlib.Core.List.{List, [], ◌∷◌, ◌++◌}
use lib.Dec.{T}
use lib.ListN.{length, get_or, length-append}
use native.Mathlib.Omega.{arith}
use native.Mathlib.Decide.{dec_lt, ℕ_discrete}
use Rattle.words.specs.Lists.{filter, drop_while, some, all_pairs, All, Pairs, sum}
use Rattle.words.proofs.Tests.{T_of, of_T, not_false, not_true, by_test}
use Rattle.words.proofs.Listed.{all_mono, all_every, all_two, all_append, all_kept, all_let, pairs_mono, pairs_kept, pairs_right_lem, pairs_across, pairs_put, filter_append, filter_yes, filter_no, filter_all, filter_none, filter_same, filter_comm, none_of, some_none, begins, rests, while_join, length_parts}
use Rattle.words.proofs.Says.{Says, says_same, says_iff, pairs_say, true_so, so_true, false_so, so_false, not_says}
use Rattle.regions.specs.declared.Region.{Region}
use Rattle.regions.specs.Positions.{account, nested, crosses, contradicts, leveled}
use Rattle.regions.specs.Sets.{Set, empty_set, of, held_by, share_of, is_at, held_at, crossed, contradicted, starts_before, starts_behind, starts_from, saved, is_not_at, deleted}
use Rattle.regions.specs.Calls.{save_no, delete_no}
use Rattle.regions.proofs.Means.{at_says, before_says, behind_says, from_says, of_says, nested_comm, leveled_comm}
use Rattle.regions.specs.Sound.{Wf, Rising, Nesting, Leveling, Sound}
use Rattle.regions.proofs.Local.{held_local, saved_of, saved_other, deleted_other}
use Rattle.regions.proofs.Done.{MaySave, MayDelete, save_done, delete_done}

-- a test of every two regions
related_says : (q : Region → Region → Bool) (rs : List Region) → Says (all_pairs q rs) (Pairs (λ x y. q x y ≡ true) rs)
related_says q rs = pairs_say (λ x y. record { yes_so = of_T (q x y); so_yes = λ e. T_of e }) rs

pub nesting_says : (rs : List Region) → Says (all_pairs nested rs) (Nesting rs)
nesting_says rs = related_says nested rs

pub leveling_says : (rs : List Region) → Says (all_pairs leveled rs) (Leveling rs)
leveling_says rs = related_says leveled rs

-- THE TWO SIDES OF A START
starts_before_lem : (s : ℕ) (rs : List Region) → All (λ x. x.start < s) (filter (starts_before s) rs)
starts_before_lem s rs = all_mono {Q = λ x. x.start < s} (λ x h. true_so (before_says s x) h) (filter (starts_before s) rs) (all_let (starts_before s) rs)

starts_behind_lem : (s : ℕ) (rs : List Region) → All (λ x. s < x.start) (filter (starts_behind s) rs)
starts_behind_lem s rs = all_mono {Q = λ x. s < x.start} (λ x h. true_so (behind_says s x) h) (filter (starts_behind s) rs) (all_let (starts_behind s) rs)

pub sides : (s : ℕ) (rs : List Region) → Rising rs → filter (starts_before s) rs ++ filter (starts_behind s) rs ≡ filter (is_not_at s) rs
unfolding filter
sides s [] h = refl
sides s (x ∷ xs) h =
    elim (dec_lt x.start s) [
      | yes l ↦
          ap₂ ◌++◌ (filter_yes (starts_before s) x xs (so_true (before_says s x) l)) (filter_no (starts_behind s) x xs (so_false (behind_says s x) (λ k. omega arith)))
          ∙ ap (x ∷◌) (sides s xs h.1)
          ∙ sym (filter_yes (is_not_at s) x xs (ap not (so_false (at_says s x) (λ e. omega arith))))
      | no l ↦
          let f : All (λ (y : Region). s ≤ y.start) (x ∷ xs) = (omega arith, all_mono {Q = λ y. s ≤ y.start} (λ y k. omega arith) xs h.0) in
          ap₂ ◌++◌
          (filter_none (starts_before s) (x ∷ xs) (all_mono {Q = λ y. starts_before s y ≡ false} (λ y k. so_false (before_says s y) (λ m. omega arith)) (x ∷ xs) f))
          (filter_same (starts_behind s) (is_not_at s) (x ∷ xs) (all_mono {Q = λ y. starts_behind s y ≡ is_not_at s y} (λ y k. same y k) (x ∷ xs) f))
    ]
  where
    same : (y : Region) → s ≤ y.start → starts_behind s y ≡ is_not_at s y
    same y k =
        by_test (is_at s y)
        (λ e. let m = true_so (at_says s y) e in so_false (behind_says s y) (λ q. omega arith) ∙ sym (ap not e))
        (λ e. let n : (y.start ≡ s → ⊥) = false_so (at_says s y) e in so_true (behind_says s y) (omega arith) ∙ sym (ap not e))

-- those that start before it come first; the others are those from it on
sooner : (s : ℕ) (rs : List Region) → Rising rs → Pairs (λ x y. T (starts_before s y) → T (starts_before s x)) rs
sooner s rs up = pairs_mono (λ x y k t. let u = (before_says s y).yes_so t in (before_says s x).so_yes (omega arith)) rs up

pub from_rests : (s : ℕ) (rs : List Region) → Rising rs → drop_while (starts_before s) rs ≡ filter (starts_from s) rs
from_rests s rs up =
    rests (starts_before s) rs (sooner s rs up)
    ∙ filter_same (λ r. not (starts_before s r)) (starts_from s) rs
    (all_every (λ r. says_same (not_says (before_says s r)) (says_iff (from_says s r) (λ h k. omega arith) (λ n. back r n))) rs)
  where
    back : (r : Region) → (r.start < s → ⊥) → s ≤ r.start
    back r n = omega arith

pub parts : (s : ℕ) (rs : List Region) → Rising rs → rs ≡ filter (starts_before s) rs ++ filter (starts_from s) rs
parts s rs up = sym (while_join (starts_before s) rs) ∙ ap₂ ◌++◌ (begins (starts_before s) rs (sooner s rs up)) (from_rests s rs up)

-- no region has that start
pub free_all_lem : (s : ℕ) (S : Set) → held_at s S ≡ false → All (λ x. is_not_at s x ≡ true) S.regions
free_all_lem s S e = all_mono {Q = λ x. is_not_at s x ≡ true} (λ x h. ap not h) S.regions (none_of (is_at s) S.regions (some_none _ e))

pub free_sides : (s : ℕ) (S : Set) → Rising S.regions → held_at s S ≡ false → filter (starts_before s) S.regions ++ filter (starts_behind s) S.regions ≡ S.regions
free_sides s S h e = sides s S.regions h ∙ filter_all (is_not_at s) S.regions (free_all_lem s S e)

pub deleted_splits : (S : Set) (r : Region) (us vs : List Region) → Rising S.regions → S.regions ≡ us ++ r ∷ vs → (deleted r.start S).regions ≡ us ++ vs
unfolding deleted
deleted_splits S r us vs h e =
    let k : Rising (us ++ r ∷ vs) = rw e at h in
    let a = pairs_across (λ x y. x.start < y.start) us (r ∷ vs) k in
    let b = pairs_right_lem (λ x y. x.start < y.start) us (r ∷ vs) k in
    ap (filter (is_not_at r.start)) e ∙ filter_append (is_not_at r.start) us (r ∷ vs)
    ∙ ap₂ ◌++◌ (filter_all (is_not_at r.start) us (all_mono {Q = λ x. is_not_at r.start x ≡ true} (λ x m. off x (λ z. let l = m.0 in omega arith)) us a))
    (filter_no (is_not_at r.start) r vs (ap not (so_true (at_says r.start r) refl))
    ∙ filter_all (is_not_at r.start) vs (all_mono {Q = λ x. is_not_at r.start x ≡ true} (λ x l. off x (λ z. omega arith)) vs b.0))
  where
    off : (x : Region) → (x.start ≡ r.start → ⊥) → is_not_at r.start x ≡ true
    off x n = ap not (so_false (at_says r.start x) n)

-- WHAT THEY KEEP
put_in : (R : Region → Region → Type 0) (S : Set) (r : Region) → Rising S.regions → Pairs R S.regions
    → All (λ x. R x r) (filter (starts_before r.start) S.regions) → All (R r) (filter (starts_behind r.start) S.regions) → Pairs R (saved r S).regions
unfolding saved
put_in R S r h k a b =
    pairs_put R (filter (starts_before r.start) S.regions) (filter (starts_behind r.start) S.regions) r
    (subst (λ (l : List Region). Pairs R l) (sym (sides r.start S.regions h)) (pairs_kept R (is_not_at r.start) S.regions k)) a b

pub saved_rises : (S : Set) (r : Region) → Rising S.regions → Rising (saved r S).regions
saved_rises S r h = put_in (λ x y. x.start < y.start) S r h h (starts_before_lem r.start S.regions) (starts_behind_lem r.start S.regions)

pub deleted_rises : (S : Set) (s : ℕ) → Rising S.regions → Rising (deleted s S).regions
unfolding deleted
deleted_rises S s h = pairs_kept (λ x y. x.start < y.start) (is_not_at s) S.regions h

nests_with : (S : Set) (r : Region) → crossed r S ≡ false → All (λ x. nested r x ≡ true) S.regions
unfolding crosses
nests_with S r c = all_mono {Q = λ x. nested r x ≡ true} (λ x h. not_false (nested r x) h) S.regions (none_of (crosses r) S.regions (some_none _ c))

levels_with : (S : Set) (r : Region) → contradicted r S ≡ false → All (λ x. leveled r x ≡ true) S.regions
unfolding leveled
levels_with S r c = all_mono {Q = λ x. leveled r x ≡ true} (λ x h. ap not h) S.regions (none_of (contradicts r) S.regions (some_none _ c))

-- an even-handed test of every two regions: that they nest rightly, and that their levels say the same
module _ (q : Region → Region → Bool) (even : (x y : Region) → q x y ≡ q y x) (S : Set) (k : Pairs (λ x y. q x y ≡ true) S.regions) where
  saved_related : (r : Region) → Rising S.regions → All (λ x. q r x ≡ true) S.regions → Pairs (λ x y. q x y ≡ true) (saved r S).regions
  saved_related r h n =
      put_in (λ x y. q x y ≡ true) S r h k
      (all_kept (λ x. q x r ≡ true) (starts_before r.start) S.regions (all_mono {Q = λ x. q x r ≡ true} (λ x e. even x r ∙ e) S.regions n))
      (all_kept (λ x. q r x ≡ true) (starts_behind r.start) S.regions n)

  deleted_related : (s : ℕ) → Pairs (λ x y. q x y ≡ true) (deleted s S).regions
  unfolding deleted
  deleted_related s = pairs_kept (λ x y. q x y ≡ true) (is_not_at s) S.regions k

-- any property of each region
pub saved_all : (P : Region → Type 0) (S : Set) (r : Region) → P r → All P S.regions → All P (saved r S).regions
unfolding saved
saved_all P S r h k =
    all_append P (filter (starts_before r.start) S.regions) (r ∷ filter (starts_behind r.start) S.regions) (all_kept P (starts_before r.start) S.regions k)
    (h, all_kept P (starts_behind r.start) S.regions k)

pub deleted_all : (P : Region → Type 0) (S : Set) (s : ℕ) → All P S.regions → All P (deleted s S).regions
unfolding deleted
deleted_all P S s k = all_kept P (is_not_at s) S.regions k

-- HOW MANY AN ACCOUNT HOLDS
two_sides : (s : ℕ) (rs : List Region) → All (λ x. is_at s x ≡ false) rs → length (filter (starts_before s) rs) + length (filter (starts_behind s) rs) ≡ length rs
unfolding filter
two_sides s [] h = refl
two_sides s (x ∷ xs) h =
    let n : (x.start ≡ s → ⊥) = false_so (at_says s x) h.0 in
    let k = two_sides s xs h.1 in
    elim (dec_lt x.start s) [
      | yes l ↦ rw (filter_yes (starts_before s) x xs (so_true (before_says s x) l), filter_no (starts_behind s) x xs (so_false (behind_says s x) (λ m. omega arith))) (omega arith)
      | no l ↦ rw (filter_no (starts_before s) x xs (so_false (before_says s x) l), filter_yes (starts_behind s) x xs (so_true (behind_says s x) (omega arith))) (omega arith)
    ]

pub held_saved : (S : Set) (r : Region) → held_at r.start S ≡ false → held_by (account r.start) (saved r S) ≡ suc (held_by (account r.start) S)
unfolding saved
held_saved S r f =
    let a = account r.start in
    let l = filter (of a) S.regions in
    let k = so_true (of_says a r) refl in
    let q = two_sides r.start l (all_kept (λ x. is_at r.start x ≡ false) (of a) S.regions (none_of (is_at r.start) S.regions (some_none _ f))) in
    ap length (saved_of a r S.regions ∙ ap (λ b. filter (starts_before r.start) l ++ cond b (r ∷ filter (starts_behind r.start) l) (filter (starts_behind r.start) l)) k)
    ∙ length-append (filter (starts_before r.start) l) (r ∷ filter (starts_behind r.start) l) ∙ omega arith

one_at : (s : ℕ) (rs : List Region) → Rising rs → some (filter (is_at s) rs) ≡ true → suc (length (filter (is_not_at s) rs)) ≡ length rs
unfolding some filter
one_at s [] h e = absurd (false≢true e)
one_at s (x ∷ xs) h e =
    by_test (is_at s x)
    (λ u.
    let v = true_so (at_says s x) u in
    let w = filter_all (is_not_at s) xs (all_mono {Q = λ y. is_not_at s y ≡ true} (λ y z. ap not (so_false (at_says s y) (λ q. omega arith))) xs h.0) in
    ap (λ l. suc (length l)) (filter_no (is_not_at s) x xs (ap not u) ∙ w))
    (λ u. ap (λ l. suc (length l)) (filter_yes (is_not_at s) x xs (ap not u)) ∙ ap suc (one_at s xs h.1 (sym (ap some (filter_no (is_at s) x xs u)) ∙ e)))

pub held_deleted : (S : Set) (s : ℕ) → Rising S.regions → held_at s S ≡ true → suc (held_by (account s) (deleted s S)) ≡ held_by (account s) S
unfolding deleted
held_deleted S s h e =
    ap (λ l. suc (length l)) (filter_comm (of (account s)) (is_not_at s) S.regions)
    ∙ one_at s (filter (of (account s)) S.regions) (pairs_kept (λ x y. x.start < y.start) (of (account s)) S.regions h) (sym (held_local S s) ∙ e)

pub others_saved : (S : Set) (r : Region) (b : ℕ) → (b ≡ account r.start → ⊥) → held_by b (saved r S) ≡ held_by b S
others_saved S r b n = ap (λ (Z : Set). length Z.regions) (saved_other S b r n)

pub others_deleted : (S : Set) (s b : ℕ) → (b ≡ account s → ⊥) → held_by b (deleted s S) ≡ held_by b S
others_deleted S s b n = ap (λ (Z : Set). length Z.regions) (deleted_other S b s n)

-- WHAT EVERY SET HAS
pub empty_sound : (shares : List ℕ) → sum shares ≤ 500 → Sound (empty_set shares)
unfolding filter
empty_sound shares l = record { formed = tt; rising = tt; nesting = tt; leveling = tt; within = λ a. omega arith; shared = l }

pub saved_sound : (S : Set) (a : ℕ) (r : Region) → save_no S a r ≡ 0 → Sound S → Sound (saved r S)
unfolding saved
saved_sound S a r e g =
    let m = save_done S a r e in
    record {
      formed = saved_all Wf S r m.formed g.formed;
      rising = saved_rises S r g.rising;
      nesting = saved_related nested nested_comm S g.nesting r g.rising (nests_with S r m.clear);
      leveling = saved_related leveled leveled_comm S g.leveling r g.rising (levels_with S r m.level);
      within = within m;
      shared = g.shared;
    }
  where
    within : MaySave S a r → (b : ℕ) → held_by b (saved r S) ≤ share_of b S
    within m b =
        elim (ℕ_discrete b (account r.start)) [
          | yes q ↦ subst (λ c. held_by c (saved r S) ≤ share_of c S) (sym q)
              (let u = held_saved S r m.free in let v = m.room in let w = m.own.same in
              omega (arith, subst (λ c. held_by c S < share_of c S) (sym w) v))
          | no q ↦ omega (arith, others_saved S r b q, g.within b)
        ]

pub deleted_sound : (S : Set) (a s : ℕ) → delete_no S a s ≡ 0 → Sound S → Sound (deleted s S)
unfolding deleted
deleted_sound S a s e g =
    record {
      formed = deleted_all Wf S s g.formed;
      rising = deleted_rises S s g.rising;
      nesting = deleted_related nested nested_comm S g.nesting s;
      leveling = deleted_related leveled leveled_comm S g.leveling s;
      within = within (delete_done S a s e);
      shared = g.shared;
    }
  where
    within : MayDelete S a s → (b : ℕ) → held_by b (deleted s S) ≤ share_of b S
    within m b =
        elim (ℕ_discrete b (account s)) [
          | yes q ↦ subst (λ c. held_by c (deleted s S) ≤ share_of c S) (sym q) (omega (arith, held_deleted S s g.rising m.held, g.within (account s)))
          | no q ↦ omega (arith, others_deleted S s b q, g.within b)
        ]

-- shares of the accounts from i on, and regions of these accounts only
shared_out : (cs : List ℕ) (i : ℕ) (rs : List Region) → ((j : ℕ) → length (filter (of (i + j)) rs) ≤ get_or cs j 0)
    → All (λ r. (i ≤ account r.start) × (account r.start < i + length cs)) rs → length rs ≤ sum cs
unfolding sum
shared_out [] i [] f h = omega arith
shared_out [] i (r ∷ rs) f h = absurd (omega arith)
shared_out (c ∷ cs) i rs f h =
    let others = filter (λ r. not (of i r)) rs in
    omega (
      arith,
      length_parts (of i) rs,
      subst (λ n. length (filter (of n) rs) ≤ c) zeroth (f 0),
      shared_out cs (suc i) others next (all_two
          {R = λ r. (suc i ≤ account r.start) × (account r.start < suc i + length cs)}
          (λ r m k. let n : (account r.start ≡ i → ⊥) = false_so (of_says i r) (not_true _ k) in let u = m.0 in let v = m.1 in omega arith) others
          (all_kept (λ r. (i ≤ account r.start) × (account r.start < i + length (c ∷ cs))) (λ r. not (of i r)) rs h) (all_let (λ r. not (of i r)) rs)),
    )
  where
    zeroth : i + 0 ≡ i
    zeroth = omega arith

    later : (j : ℕ) → i + suc j ≡ suc i + j
    later j = omega arith

    -- an account behind i has none of i's regions
    off : (j : ℕ) (r : Region) → of (suc i + j) r ≡ true → not (of i r) ≡ true
    off j r e = let u = true_so (of_says (suc i + j) r) e in ap not (so_false (of_says i r) (λ k. omega arith))

    same : (j : ℕ) → filter (of (suc i + j)) (filter (λ r. not (of i r)) rs) ≡ filter (of (suc i + j)) rs
    same j =
        let own = filter (of (suc i + j)) rs in
        filter_comm (of (suc i + j)) (λ r. not (of i r)) rs ∙ filter_all (λ r. not (of i r)) own (all_mono (λ r e. off j r e) own (all_let (of (suc i + j)) rs))

    next : (j : ℕ) → length (filter (of (suc i + j)) (filter (λ r. not (of i r)) rs)) ≤ get_or cs j 0
    next j = omega (arith, ap length (same j), subst (λ n. length (filter (of n) rs) ≤ get_or cs j 0) (later j) (f (suc j)))

-- sixteen shares bound the whole set: so a save that its share allows always finds room
pub few : (S : Set) → Sound S → length S.shares ≡ 16 → All (λ r. account r.start ≤ 15) S.regions → length S.regions ≤ 500
few S g e h =
    omega (
      arith,
      g.shared,
      shared_out S.shares 0 S.regions at
          (all_mono {Q = λ r. (0 ≤ account r.start) × (account r.start < 0 + length S.shares)} (λ r l. omega arith) S.regions h),
    )
  where
    at : (j : ℕ) → length (filter (of (0 + j)) S.regions) ≤ get_or S.shares j 0
    at j = let z : j ≡ 0 + j = omega arith in subst (λ n. length (filter (of n) S.regions) ≤ get_or S.shares j 0) z (g.within j)
