-- The next d of the account, the walk forward: a law for each way out.
-- Assumes nothing.
use Prim.Native.Nat.{ℕ, suc, ◌<◌, ◌≤◌}
use mathlib.Core.Path.{◌≡◌, refl, sym, ◌∙◌, subst}
use mathlib.Core.Bool.{Bool, true, false, true≢false}
use mathlib.Core.List.{List, [], ◌∷◌}
use lib.Dec.{ltb}
use native.Mathlib.Omega.{arith}
use Rattle.words.specs.Lists.{filter, All}
use Rattle.std.specs.declared.option.Option.{Option}
use Rattle.std.specs.declared.option.Option.TheVariants.{None, Some}
use Rattle.words.proofs.Tests.{by_test, eq_yes, eq_no, lt_yes, lt_no}
use Rattle.words.proofs.Listed.{all_mono}
use Rattle.words.proofs.Says.{Says, says_iff, true_so, false_so, lt_says}
use Rattle.regions.specs.Positions.{account, too_late}
use Rattle.regions.specs.Sets.{of, starts_from}
use Rattle.regions.specs.declared.Region.{Region}
use Rattle.regions.specs.declared.Choice.{Choice}
use Rattle.regions.specs.declared.Choice.TheVariants.{Strict, WithSelf}
use Rattle.regions.proofs.Means.{late_near, from_says}
use Rattle.regions.specs.Sound.{Rising}
use Rattle.image.specs.Read.{set_of}
use Rattle.leaves.specs.declared.Entry.{Entry}
use Rattle.leaves.specs.declared.Cursor.{Cursor}
use Rattle.leaves.specs.Cursors.{step_from, start_faced}
use Rattle.leaves.specs.Faces.{Faces}
use Rattle.leaves.proofs.Faces.{faces_on, faces_end, faced_is}
use Rattle.stack.proofs.Stacks.{come_same, First, first_from}
use Rattle.skips.specs.Joins.{Before, own_step, first_held, Clear, Moved}

-- A STEP OF THE ACCOUNT
pub own_end : (a : ℕ) (s : Option (Entry × Cursor)) → s ≡ None → None ≡ own_step a s
unfolding own_step
own_end a s e = rw e

pub own_other : (a b : ℕ) (s : Option (Entry × Cursor)) (e : Entry) (on : Cursor) → s ≡ Some (e, on) → b ≡ account e.region.start → (b ≡ a → ⊥) → None ≡ own_step a s
unfolding own_step of
own_other a b s e on p q n = rw (p, eq_no (account e.region.start) a (λ z. n (q ∙ z)))

pub own_one : (a b : ℕ) (s : Option (Entry × Cursor)) (e : Entry) (on : Cursor) → s ≡ Some (e, on) → b ≡ account e.region.start → b ≡ a → Some (e, on) ≡ own_step a s
unfolding own_step of
own_one a b s e on p q n = rw (p, eq_yes (account e.region.start) a (sym q ∙ n))

-- THE NEXT START of the outer set
pub all_from : (p q : ℕ) (xs : List Region) → All (λ (r : Region). q ≤ r.start) (filter (starts_from p) xs) → All (λ (r : Region). p ≤ r.start → q ≤ r.start) xs
unfolding filter
all_from p q [] k = tt
all_from p q (x ∷ xs) k =
    by_test (starts_from p x)
    (λ e. let k' = rw e at k in ((λ u. k'.0), all_from p q xs k'.1))
    (λ e. let k' = rw e at k in ((λ u. absurd (false_so (from_says p x) e u)), all_from p q xs k'))

pub clear_from : (rs : List Region) (p q : ℕ) → p ≤ q → All (λ (r : Region). q ≤ r.start) (filter (starts_from p) rs) → Clear rs p q
clear_from rs p q l h = record { far = l; none = all_from p q rs h }

-- what comes too late for a position that is not the last is still a position
pub late_inside : (ch : Choice) (p : ℕ) → suc p < 4294967296 → too_late ch p < 4294967296
late_inside ch p l = omega (arith, late_near ch p)

pub clear_next : (w : List ℕ) (p q : ℕ) (c : Cursor) → p < 4294967296 → Rising (set_of w).regions → Faces w c (filter (starts_from p) (set_of w).regions) → q ≡ start_faced (step_from w c)
    → Clear (set_of w).regions p q
unfolding start_faced
clear_next w p q c l up f g = go (step_from w c) refl g
  where
    go : (s : Option (Entry × Cursor)) → step_from w c ≡ s → q ≡ start_faced s → Clear (set_of w).regions p q
    go None s k = clear_from (set_of w).regions p q (omega arith) (rw (faces_end w c _ f s) tt)
    go (Some (e, on)) s k =
        let o = faces_on w c _ e on f s in
        let m = first_from (set_of w).regions p e.region o.rest up o.is in
        clear_from (set_of w).regions p q (omega (arith, m.low)) (rw o.is (subst (λ n. All (λ r. n ≤ r.start) (e.region ∷ o.rest)) (sym k) m.least))

-- THE FIRST THAT MAY BE HELD by what starts at q: q comes in time for it
pub held_says : (ch : Choice) (q x : ℕ) → Says (ltb q (too_late ch x)) (first_held ch q ≤ x)
unfolding first_held too_late
held_says Strict q x = lt_says q x
held_says WithSelf q x = says_iff (lt_says q (suc x)) (λ h. omega arith) (λ h. omega arith)

-- where q comes too late for p, it lies behind p
pub held_far : (ch : Choice) (p q : ℕ) → too_late ch p ≤ q → suc p ≤ first_held ch q
unfolding first_held too_late
held_far Strict p q l = omega arith
held_far WithSelf p q l = omega arith

-- as it is asked of the start that a cursor faces
module _ (ch : Choice) (q s : ℕ) (b : Bool) (st : Option (Entry × Cursor)) (e : s ≡ start_faced st) (t : b ≡ ltb q (too_late ch s)) where
  pub not_held : b ≡ false → start_faced st < first_held ch q
  not_held h = let n : (first_held ch q ≤ s → ⊥) = false_so (held_says ch q s) (sym t ∙ h) in omega arith

  pub may_hold : b ≡ true → first_held ch q ≤ start_faced st
  may_hold h = omega (arith, true_so (held_says ch q s) (sym t ∙ h))

-- THE INNER CURSOR forward, up to y
module _ {w : List ℕ} {y : ℕ} {c : Cursor} (b : Before w y c) (up : Rising (set_of w).regions) where
  pub passed : All (λ (r : Region). y ≤ r.start) (filter (starts_from b.at) (set_of w).regions) → Faces w c (filter (starts_from y) (set_of w).regions)
  passed h = subst (λ (l : List Region). Faces w c l) (come_same b.at y 0 (set_of w).regions up b.far h) b.faces

  pub forward_end : step_from w c ≡ None → Faces w c (filter (starts_from y) (set_of w).regions)
  forward_end s = passed (rw (faces_end w c _ b.faces s) tt)

  module _ (e : Entry) (on : Cursor) (s : step_from w c ≡ Some (e, on)) where
    pub first : First (set_of w).regions b.at e.region (faces_on w c _ e on b.faces s).rest
    first = first_from (set_of w).regions b.at e.region _ up (faces_on w c _ e on b.faces s).is

    pub forward_stop : y ≤ e.region.start → Faces w c (filter (starts_from y) (set_of w).regions)
    forward_stop l = passed (rw (faces_on w c _ e on b.faces s).is (all_mono {Q = λ r. y ≤ r.start} (λ r m. omega arith) (e.region ∷ (faces_on w c _ e on b.faces s).rest) first.least))

    pub forward_on : start_faced (step_from w c) < y → Before w y on
    forward_on l =
        record {
          at = suc e.region.start;
          far = omega (arith, faced_is (step_from w c) e on s);
          faces = subst (λ (l : List Region). Faces w on l) first.others (faces_on w c _ e on b.faces s).faces;
        }

  pub forward_there : y ≤ start_faced (step_from w c) → Faces w c (filter (starts_from y) (set_of w).regions)
  forward_there l = go (step_from w c) refl
    where
      go : (s : Option (Entry × Cursor)) → step_from w c ≡ s → Faces w c (filter (starts_from y) (set_of w).regions)
      go None s = forward_end s
      go (Some (e, on)) s = forward_stop e on s (omega (arith, faced_is (step_from w c) e on s))

-- by a descent
pub sought : (ch : Choice) (w : List ℕ) (x : ℕ) (c : Cursor) → ch ≡ Strict → Faces w c (filter (starts_from (suc x)) (set_of w).regions) → Faces w c (filter (starts_from (first_held ch x)) (set_of w).regions)
unfolding first_held
sought ch w x c e f = rw e f

pub sought_self : (ch : Choice) (w : List ℕ) (x : ℕ) (c : Cursor) → ch ≡ WithSelf → Faces w c (filter (starts_from x) (set_of w).regions) → Faces w c (filter (starts_from (first_held ch x)) (set_of w).regions)
unfolding first_held
sought_self ch w x c e f = rw e f

-- THE NEXT d
module _ (ch : Choice) (rs : List Region) (w : List ℕ) (p : ℕ) where
  pub moved_before : (q : ℕ) {c : Cursor} → Clear rs (too_late ch p) q → Faces w c (filter (starts_from (suc p)) (set_of w).regions) → Before w (first_held ch q) c
  moved_before q k f = record { at = suc p; far = held_far ch p q k.far; faces = f }

  pub moved_on_lem : (n : ℕ) (on : Cursor) → 0 < n → Moved ch rs w p on (ltb 0 n) on
  moved_on_lem n on l = record { kept = λ e. refl; skipped = λ e. absurd (true≢false (sym (lt_yes 0 n l) ∙ e)) }

  pub moved_past : (q n : ℕ) (on c : Cursor) → n ≤ 0 → Clear rs (too_late ch p) q → Faces w c (filter (starts_from (first_held ch q)) (set_of w).regions) → Moved ch rs w p on (ltb 0 n) c
  moved_past q n on c l k s = record { kept = λ e. absurd (true≢false (sym e ∙ lt_no 0 n l)); skipped = λ e. record { reach = q; clear = k; faces = s } }
