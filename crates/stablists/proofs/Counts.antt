-- What the pass comes to: a test that fails, or so many records met. Each of its parts is a test and a number, and one part after the other is both tests
-- and the sum of both numbers.
-- Assumes nothing.
use Prim.Native.Nat.{ℕ, zero, suc, ◌+◌, ◌-◌, ◌≤◌}
use mathlib.Core.Path.{◌≡◌, refl, sym, ap, ◌∙◌}
use mathlib.Core.Bool.{Bool, true, false, ◌&&◌, cond}
use mathlib.Core.List.{List, [], ◌∷◌}
use Rattle.std.proofs.Common.{Option, None, Some, option_and_then}
use lib.Dec.{leb, eqb}
use lib.ListN.{length}
use native.Mathlib.Omega.{arith}
use Rattle.words.specs.Lists.{filter, all}
use Rattle.words.proofs.Tests.{by_test, and_false, le_yes, le_no, le_of, nle_of, eq_of}
use Rattle.words.proofs.Listed.{filter_yes, filter_no}
use Rattle.regions.specs.declared.Region.{Region}
use Rattle.xrtree.specs.Rules.{within, same_region, pair_right}
use Rattle.pages.specs.Layout.{page_of, fill_of, child_in, record_count, record_of, record_next}
use Rattle.image.specs.Read.{entries_from, key_at, record_region}
use Rattle.trail.specs.declared.Trail.{Trail}
use Rattle.trail.specs.declared.Home.{Home}
use Rattle.trail.specs.Pass.{going, is_home, step, meet, follow, ended}
use Rattle.flags.specs.Pass.{flag_here}
use Rattle.stablists.specs.Pass.{key_in, head_in, home_in, around, key_pass, pass_keys, pass_at}

-- where a part of the pass ends that begins with no list open and n records left: its test b, and the x records that it meets
abbrev pub outcome : Bool → ℕ → ℕ → Option Trail
outcome b x n = cond (b && leb x n) (Some (going 0 (n - x))) None

pub record Counts (f : Trail → Option Trail) (b : Bool) (x : ℕ) : Type 0 where
  pub goes : (n : ℕ) → f (going 0 n) ≡ outcome b x n

outcome_two : (g : Trail → Option Trail) (a b : Bool) (x y n : ℕ) → ((m : ℕ) → g (going 0 m) ≡ outcome b y m) → option_and_then g (outcome a x n) ≡ outcome (a && b) (x + y) n
outcome_two g false b x y n f = refl
outcome_two g true b x y n f =
    by_test (leb x n)
    (λ h.
    let l = le_of x n h in
    let e : leb y (n - x) ≡ leb (x + y) n = same_le l in
    let m : n - x - y ≡ n - (x + y) = omega arith in
    rw h (f (n - x) ∙ rw (e, m)))
    (λ h.
    let l = nle_of x n h in
    rw (h, le_no (x + y) n (omega arith), and_false b))
  where
    same_le : x ≤ n → leb y (n - x) ≡ leb (x + y) n
    same_le l =
        by_test (leb y (n - x))
        (λ h. let m = le_of y (n - x) h in h ∙ sym (le_yes (x + y) n (omega arith)))
        (λ h. let m = nle_of y (n - x) h in h ∙ sym (le_no (x + y) n (omega arith)))

pub counts_then : {f g : Trail → Option Trail} {a b : Bool} {x y : ℕ} → Counts f a x → Counts g b y → Counts (λ t. option_and_then g (f t)) (a && b) (x + y)
counts_then {f} {g} {a} {b} {x} {y} p q = record { goes = λ n. ap (option_and_then g) (p.goes n) ∙ outcome_two g a b x y n q.goes }

-- A LIST, followed along the regions that it is to hold
unfoldable pub followed : List ℕ → ℕ → List Region → Bool
followed w q [] = eqb q 0
followed w q (r ∷ rs) = within 1 record_count q && (same_region (record_region w q) r && followed w (record_next (record_of w q)) rs)

module _ (w : List ℕ) where
  ended_going : (q n : ℕ) → ended (going q n) ≡ cond (eqb q 0) (Some (going 0 n)) None
  unfolding ended
  ended_going q n =
      by_test (eqb q 0)
      (λ h. rw h (ap (λ m. Some (going m n)) (eq_of q 0 h)))
      (λ h. rw h)

  -- the regions followed to the list's end
  abbrev to_end : Home → List Region → Trail → Option Trail
  to_end h rs t = option_and_then ended (follow w h rs t)

  then_end : (h : Home) (rs : List Region) (o : Option Trail) → option_and_then ended (option_and_then (follow w h rs) o) ≡ option_and_then (to_end h rs) o
  then_end h rs None = refl
  then_end h rs (Some t) = refl

  follow_on : (h : Home) (r : Region) (rs : List Region) (t : Trail) → is_home h r ≡ true → to_end h (r ∷ rs) t ≡ option_and_then (to_end h rs) (step w r t)
  unfolding follow meet
  follow_on h r rs t e = ap (λ b. option_and_then ended (option_and_then (follow w h rs) (cond b (step w r t) (Some t)))) e ∙ then_end h rs (step w r t)

  follow_off : (h : Home) (r : Region) (rs : List Region) (t : Trail) → is_home h r ≡ false → to_end h (r ∷ rs) t ≡ to_end h rs t
  unfolding follow meet
  follow_off h r rs t e = ap (λ b. option_and_then ended (option_and_then (follow w h rs) (cond b (step w r t) (Some t)))) e

  -- one record more: the three tests of a step, and of what follows
  three_tests : (f : Trail → Option Trail) (a s b : Bool) (q n x : ℕ) → ((m : ℕ) → f (going q m) ≡ outcome b x m)
      → option_and_then f (cond (a && (leb 1 n && s)) (Some (going q (n - 1))) None) ≡ outcome (a && (s && b)) (suc x) n
  three_tests f false s b q n x e = refl
  three_tests f true false b q n x e = rw (and_false (leb 1 n))
  three_tests f true true b q zero x e = rw (le_no (suc x) 0 (omega arith), and_false b)
  three_tests f true true b q (suc n) x e =
      let u : suc n - 1 ≡ n = omega arith in
      let v : suc n - suc x ≡ n - x = omega arith in
      rw (le_yes 1 (suc n) (omega arith), u) (e n ∙ rw v (ap (λ c. cond (b && c) (Some (going 0 (n - x))) None) (same_le n)))
    where
      same_le : (m : ℕ) → leb x m ≡ leb (suc x) (suc m)
      same_le m =
          by_test (leb x m)
          (λ h. let k = le_of x m h in h ∙ sym (le_yes (suc x) (suc m) (omega arith)))
          (λ h. let k = nle_of x m h in h ∙ sym (le_no (suc x) (suc m) (omega arith)))

  step_decides : (h : Home) (r : Region) (rs : List Region) (q n : ℕ) (b : Bool) (x : ℕ) → ((m : ℕ) → to_end h rs (going (record_next (record_of w q)) m) ≡ outcome b x m)
      → option_and_then (to_end h rs) (step w r (going q n)) ≡ outcome (within 1 record_count q && (same_region (record_region w q) r && b)) (suc x) n
  unfolding step
  step_decides h r rs q n b x e = three_tests (to_end h rs) (within 1 record_count q) (same_region (record_region w q) r) b (record_next (record_of w q)) n x e

  none_decides : (h : Home) (q n : ℕ) → to_end h [] (going q n) ≡ outcome (eqb q 0) 0 n
  unfolding follow
  none_decides h q n =
      let z : n - 0 ≡ n = omega arith in
      ended_going q n ∙ by_test (eqb q 0) (λ e. rw (e, le_yes 0 n (omega arith), z)) (λ e. rw e)

  pub follow_decides : (h : Home) (rs : List Region) (q n : ℕ) → to_end h rs (going q n) ≡ outcome (followed w q (filter (is_home h) rs)) (length (filter (is_home h) rs)) n
  unfolding followed filter
  follow_decides h [] q n = none_decides h q n
  follow_decides h (r ∷ rs) q n =
      by_test (is_home h r)
      (λ e.
      follow_on h r rs (going q n) e
      ∙ step_decides h r rs q n _ _ (λ m. follow_decides h rs (record_next (record_of w q)) m)
      ∙ sym (ap (λ (l : List Region). outcome (followed w q l) (length l) n) (filter_yes (is_home h) r rs e)))
      (λ e. follow_off h r rs (going q n) e ∙ follow_decides h rs q n ∙ sym (ap (λ (l : List Region). outcome (followed w q l) (length l) n) (filter_no (is_home h) r rs e)))

  -- A KEY: the regions of its list
  abbrev pub home_list : ℕ → List ℕ → ℕ → ℕ → ℕ → List Region
  home_list d ws i lo hi = filter (is_home (home_in ws i lo hi)) (around w d ws i)

  unfoldable pub key_test : ℕ → List ℕ → ℕ → ℕ → ℕ → Bool
  key_test d ws i lo hi = pair_right (key_at w ws i) (key_at w ws i).list && followed w (head_in ws i) (home_list d ws i lo hi)

  with_pair : (a b : Bool) (x n : ℕ) (t : Option Trail) → t ≡ outcome b x n → cond a t None ≡ outcome (a && b) x n
  with_pair true b x n t e = e
  with_pair false b x n t e = refl

  pub key_counts : (d : ℕ) (ws : List ℕ) (i lo hi : ℕ) → Counts (key_pass w d ws i lo hi) (key_test d ws i lo hi) (length (home_list d ws i lo hi))
  unfolding key_pass key_test
  key_counts d ws i lo hi =
      record {
        goes = λ n.
            with_pair (pair_right (key_at w ws i) (key_at w ws i).list) (followed w (head_in ws i) (home_list d ws i lo hi)) (length (home_list d ws i lo hi)) n _
            (follow_decides (home_in ws i lo hi) (around w d ws i) (head_in ws i) n);
      }

-- THE TREE: its tests, and its records
module _ (test : ℕ → ℕ → ℕ → Bool) (w : List ℕ) (d : ℕ) (ws : List ℕ) where
  unfoldable pub test_keys : ℕ → ℕ → ℕ → ℕ → Bool
  test_keys i zero lo hi = test (child_in ws i) lo hi
  test_keys i (suc m) lo hi = (key_test w d ws i lo hi && test (child_in ws i) lo (key_in ws i)) && test_keys (suc i) m (suc (key_in ws i)) hi

module _ (size : ℕ → ℕ → ℕ → ℕ) (w : List ℕ) (d : ℕ) (ws : List ℕ) where
  unfoldable pub size_keys : ℕ → ℕ → ℕ → ℕ → ℕ
  size_keys i zero lo hi = size (child_in ws i) lo hi
  size_keys i (suc m) lo hi = length (home_list w d ws i lo hi) + size (child_in ws i) lo (key_in ws i) + size_keys (suc i) m (suc (key_in ws i)) hi

unfoldable pub test_at : List ℕ → ℕ → ℕ → ℕ → ℕ → Bool
test_at w zero p lo hi = all (flag_here lo hi) (entries_from (page_of w p) 0 (fill_of (page_of w p)))
test_at w (suc d) p lo hi = test_keys (test_at w d) w d (page_of w p) 0 (fill_of (page_of w p)) lo hi

unfoldable pub size_at : List ℕ → ℕ → ℕ → ℕ → ℕ → ℕ
size_at w zero p lo hi = 0
size_at w (suc d) p lo hi = size_keys (size_at w d) w d (page_of w p) 0 (fill_of (page_of w p)) lo hi

keys_count : (w : List ℕ) (d : ℕ) (ws : List ℕ) → ((p lo hi : ℕ) → Counts (pass_at w d p lo hi) (test_at w d p lo hi) (size_at w d p lo hi)) → (i m lo hi : ℕ)
    → Counts (pass_keys (pass_at w d) w d ws i m lo hi) (test_keys (test_at w d) w d ws i m lo hi) (size_keys (size_at w d) w d ws i m lo hi)
unfolding pass_keys test_keys size_keys
keys_count w d ws ih i zero lo hi = ih (child_in ws i) lo hi
keys_count w d ws ih i (suc m) lo hi =
    counts_then (counts_then (key_counts w d ws i lo hi) (ih (child_in ws i) lo (key_in ws i))) (keys_count w d ws ih (suc i) m (suc (key_in ws i)) hi)

flags_count : (b : Bool) → Counts (λ t. cond b (Some t) None) b 0
flags_count true = record { goes = λ n. rw (le_yes 0 n (omega arith)) (ap (λ m. Some (going 0 m)) (omega arith)) }
flags_count false = record { goes = λ n. refl }

pub pass_counts : (w : List ℕ) (d p lo hi : ℕ) → Counts (pass_at w d p lo hi) (test_at w d p lo hi) (size_at w d p lo hi)
unfolding pass_at test_at size_at
pass_counts w zero p lo hi = flags_count (all (flag_here lo hi) (entries_from (page_of w p) 0 (fill_of (page_of w p))))
pass_counts w (suc d) p lo hi = keys_count w d (page_of w p) (λ p lo hi. pass_counts w d p lo hi) 0 (fill_of (page_of w p)) lo hi
