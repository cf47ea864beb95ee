-- The algebra of boxes: the regions of a set whose start lies in a ≤ s < b and whose end lies in c ≤ e < d, in order.
-- A stab list is a box, the ancestors of a position are a box, and every law of stab lists is a cut of a box in two.
-- Assumes nothing.
use Prim.Native.Nat.{ℕ, suc, ◌≤◌, ◌<◌, min, max}
use mathlib.Core.Path.{◌≡◌, sym, ap₂, ◌∙◌}
use mathlib.Core.Bool.{Bool, true, false, ◌&&◌, not}
use mathlib.Core.List.{List, ◌++◌}
use lib.Dec.{T, leb, ltb, leb→le, ltb→lt, le→leb, lt→ltb}
use native.Mathlib.Omega.{arith}
use Rattle.words.specs.Lists.{filter, take_while, drop_while, All, Pairs}
use Rattle.words.proofs.Tests.{and_left, and_right, and_both}
use Rattle.words.proofs.Listed.{filter_filter, filter_iff, filter_both, pairs_filter, begins, rests, while_join}
use Rattle.regions.specs.Positions.{stabs}
use Rattle.regions.specs.declared.Region.{Region}
use Rattle.xrtree.specs.Claims.{Over}
use Rattle.xrtree.specs.Local.{InBox, box, boxb}

pub of_box : (a b c d : ℕ) (r : Region) → T (boxb a b c d r) → InBox a b c d r
unfolding boxb
of_box a b c d r h =
    let h1 = and_right (leb a r.start) _ h in
    let h2 = and_right (ltb r.start b) _ h1 in (
      leb→le a r.start (and_left (leb a r.start) _ h),
      ltb→lt r.start b (and_left (ltb r.start b) _ h1),
      leb→le c r.end (and_left (leb c r.end) _ h2),
      ltb→lt r.end d (and_right (leb c r.end) _ h2),
    )

pub to_box : (a b c d : ℕ) (r : Region) → InBox a b c d r → T (boxb a b c d r)
unfolding boxb
to_box a b c d r h =
    and_both (leb a r.start) _ (le→leb a r.start h.0)
    (and_both (ltb r.start b) _ (lt→ltb r.start b h.1)
    (and_both (leb c r.end) _ (le→leb c r.end h.2) (lt→ltb r.end d h.3)))

pub of_stabs : (k : ℕ) (r : Region) → T (stabs k r) → (r.start ≤ k) × (k ≤ r.end)
unfolding stabs
of_stabs k r h = (leb→le r.start k (and_left (leb r.start k) _ h), leb→le k r.end (and_right (leb r.start k) _ h))

pub to_stabs : (k : ℕ) (r : Region) → (r.start ≤ k) × (k ≤ r.end) → T (stabs k r)
unfolding stabs
to_stabs k r h = and_both (leb r.start k) _ (le→leb r.start k h.0) (le→leb k r.end h.1)

-- a filter that is a box
pub is_box : (P : Region → Bool) (a b c d : ℕ) → ((r : Region) → T (P r) → InBox a b c d r) → ((r : Region) → InBox a b c d r → T (P r))
    → (rs : List Region) → filter P rs ≡ box a b c d rs
unfolding box
is_box P a b c d f g rs = filter_both P (boxb a b c d) (λ r h. to_box a b c d r (f r h)) (λ r h. g r (of_box a b c d r h)) rs

-- the same, where members are known to be M
pub is_box_in : {M : Region → Type 0} (P : Region → Bool) (a b c d : ℕ) → ((r : Region) → M r → T (P r) → InBox a b c d r)
    → ((r : Region) → M r → InBox a b c d r → T (P r)) → (rs : List Region) → All M rs → filter P rs ≡ box a b c d rs
unfolding box
is_box_in P a b c d f g rs m = filter_iff P (boxb a b c d) (λ r k h. to_box a b c d r (f r k h)) (λ r k h. g r k (of_box a b c d r h)) rs m

-- a test within a box
pub box_within : (Q : Region → Bool) (a b c d a' b' c' d' : ℕ)
    → ((r : Region) → InBox a b c d r → T (Q r) → InBox a' b' c' d' r)
    → ((r : Region) → InBox a' b' c' d' r → InBox a b c d r × T (Q r))
    → (rs : List Region) → filter Q (box a b c d rs) ≡ box a' b' c' d' rs
unfolding box
box_within Q a b c d a' b' c' d' f g rs =
    filter_filter (boxb a b c d) Q rs ∙
    is_box (λ r. boxb a b c d r && Q r) a' b' c' d'
    (λ r h. f r (of_box a b c d r (and_left (boxb a b c d r) _ h)) (and_right (boxb a b c d r) _ h))
    (λ r h. and_both (boxb a b c d r) _ (to_box a b c d r (g r h).0) (g r h).1) rs

-- the cut by a test that is a beginning of the box
module _ (rs : List Region) (o : Pairs Over rs) (a b c d : ℕ) where
  -- Q holds of what starts earlier, within the box
  pub box_take : (Q : Region → Bool) (a' b' c' d' : ℕ)
      → ((x y : Region) → InBox a b c d x → InBox a b c d y → Over x y → T (Q y) → T (Q x))
      → ((r : Region) → InBox a b c d r → T (Q r) → InBox a' b' c' d' r)
      → ((r : Region) → InBox a' b' c' d' r → InBox a b c d r × T (Q r))
      → take_while Q (box a b c d rs) ≡ box a' b' c' d' rs
  unfolding box
  box_take Q a' b' c' d' u f g =
      begins Q (box a b c d rs) (pairs_filter (boxb a b c d) (λ x y p q v. u x y (of_box a b c d x p) (of_box a b c d y q) v) rs o)
      ∙ box_within Q a b c d a' b' c' d' f g rs

  pub box_drop : (Q : Region → Bool) (a' b' c' d' : ℕ)
      → ((x y : Region) → InBox a b c d x → InBox a b c d y → Over x y → T (Q y) → T (Q x))
      → ((r : Region) → InBox a b c d r → (T (Q r) → ⊥) → InBox a' b' c' d' r)
      → ((r : Region) → InBox a' b' c' d' r → InBox a b c d r × (T (Q r) → ⊥))
      → drop_while Q (box a b c d rs) ≡ box a' b' c' d' rs
  unfolding box
  box_drop Q a' b' c' d' u f g =
      rests Q (box a b c d rs) (pairs_filter (boxb a b c d) (λ x y p q v. u x y (of_box a b c d x p) (of_box a b c d y q) v) rs o)
      ∙ box_within (λ r. not (Q r)) a b c d a' b' c' d' (λ r i n. f r i (no_t (Q r) n)) (λ r i. ((g r i).0, yes_t (Q r) (g r i).1)) rs
    where
      no_t : (t : Bool) → T (not t) → T t → ⊥
      no_t true n h = n
      no_t false n h = h

      yes_t : (t : Bool) → (T t → ⊥) → T (not t)
      yes_t true n = n tt
      yes_t false n = tt

  -- CUT BY START: what starts before m comes first
  pub cut_start : (m : ℕ) → box a b c d rs ≡ box a (min b m) c d rs ++ box (max a m) b c d rs
  cut_start m =
      sym (while_join (λ r. ltb r.start m) (box a b c d rs))
      ∙ ap₂ ◌++◌
      (box_take (λ r. ltb r.start m) a (min b m) c d
      (λ x y p q v h. let l = ltb→lt y.start m h in lt→ltb x.start m (omega arith))
      (λ r i h. let l = ltb→lt r.start m h in omega arith)
      (λ r i. (omega arith, lt→ltb r.start m (omega arith))))
      (box_drop (λ r. ltb r.start m) (max a m) b c d
      (λ x y p q v h. let l = ltb→lt y.start m h in lt→ltb x.start m (omega arith))
      (λ r i h. let l : (r.start < m → ⊥) = (λ z. h (lt→ltb r.start m z)) in omega arith)
      (λ r i. (omega arith, (λ h. let l = ltb→lt r.start m h in omega arith))))

  -- CUT BY END, where all of the box hold the position c: what ends at m or later comes first
  pub cut_end : (m : ℕ) → b ≤ suc c → box a b c d rs ≡ box a b (max c m) d rs ++ box a b c (min d m) rs
  cut_end m w =
      sym (while_join (λ r. leb m r.end) (box a b c d rs))
      ∙ ap₂ ◌++◌
      (box_take (λ r. leb m r.end) a b (max c m) d
      (λ x y p q v h. let l = leb→le m y.end h in let n = v.1 (omega arith) in le→leb m x.end (omega arith))
      (λ r i h. let l = leb→le m r.end h in omega arith)
      (λ r i. (omega arith, le→leb m r.end (omega arith))))
      (box_drop (λ r. leb m r.end) a b c (min d m)
      (λ x y p q v h. let l = leb→le m y.end h in let n = v.1 (omega arith) in le→leb m x.end (omega arith))
      (λ r i h. let l : (m ≤ r.end → ⊥) = (λ z. h (le→leb m r.end z)) in omega arith)
      (λ r i. (omega arith, (λ h. let l = leb→le m r.end h in omega arith))))
