-- The held region with a given start: starts ascend, so there is at most one, and it is the first that does not start before.
-- Assumes nothing.
use Prim.Native.Nat.{ℕ, ◌<◌, ◌≤◌}
use Rattle.std.specs.Prelude.{Option, None, Some}
use Rattle.std.specs.Bool.{then_some}
use mathlib.Core.Path.{◌≡◌, refl, sym, ap, ◌∙◌}
use mathlib.Core.Bool.{cond}
use mathlib.Core.List.{List, [], ◌∷◌}
use lib.Dec.{T, eqb}
use native.Mathlib.Omega.{arith}
use Rattle.words.specs.Lists.{filter, All}
use Rattle.words.proofs.Tests.{by_test}
use Rattle.words.proofs.Listed.{all_mono, all_every, all_let, pairs_kept, filter_within}
use Rattle.words.proofs.Says.{all_says, true_so, so_true}
use Rattle.regions.specs.declared.Region.{Region}
use Rattle.regions.specs.Sets.{is_at, starts_from}
use Rattle.regions.proofs.Means.{Formed, formed_says, at_says, from_says}
use Rattle.regions.proofs.Selves.{none_at}
use Rattle.regions.specs.Sound.{Rising, Nesting, Leveling}
use Rattle.image.specs.Read.{set_of}
use Rattle.image.specs.Valid.{valid}
use Rattle.image.proofs.Facts.{valid_facts}
use Rattle.image.proofs.Sound.{set_rises, set_nests, set_leveled}
use Rattle.leaves.specs.declared.Cursor.{Cursor}
use Rattle.leaves.specs.declared.Entry.{Entry}
use Rattle.leaves.specs.Cursors.{step_from}
use Rattle.leaves.specs.Faces.{Faces}
use Rattle.leaves.proofs.Faces.{faces_on, faces_end}
use Rattle.tally.specs.Tallies.{found_list}

-- WHAT A VALID IMAGE SAYS of the regions held
pub record Ordered (rs : List Region) : Type 0 where
  pub rising : Rising rs
  pub nesting : Nesting rs
  pub leveling : Leveling rs
  pub long : All (λ (r : Region). r.start < r.end) rs

pub ordered : (w : List ℕ) → T (valid w) → Ordered (set_of w).regions
ordered w t =
    record {
      rising = set_rises w t;
      nesting = set_nests w t;
      leveling = set_leveled w t;
      long = all_mono (λ (r : Region) (m : Formed r). m.order) (set_of w).regions ((all_says formed_says (set_of w).regions).yes_so (valid_facts w t).formed);
    }

-- the first of some regions, where it has that start
unfoldable pub first_at : ℕ → List Region → List Region
first_at y [] = []
first_at y (r ∷ rs) = cond (is_at y r) (r ∷ []) []

-- AT MOST ONE HAS A GIVEN START, and of those that start there or behind it is the first
pub first_at_lem : (y : ℕ) (rs : List Region) → Rising rs → All (λ (r : Region). y ≤ r.start) rs → filter (is_at y) rs ≡ first_at y rs
unfolding filter first_at
first_at_lem y [] h a = refl
first_at_lem y (r ∷ rs) h a =
    let none = none_at y rs (all_mono {Q = λ (x : Region). y < x.start} (λ x l. omega (arith, a.0)) rs h.0) in
    by_test (is_at y r) (λ e. rw (e, none)) (λ e. rw (e, none))

-- so it is the first of those from there on
from_first : (y : ℕ) (rs : List Region) → Rising rs → filter (is_at y) rs ≡ first_at y (filter (starts_from y) rs)
from_first y rs h =
    let from = filter (starts_from y) rs in
    filter_within (is_at y) (starts_from y) rs (all_every (λ r e. so_true (from_says y r) (let u = true_so (at_says y r) e in omega arith)) rs)
    ∙ first_at_lem y from (pairs_kept (λ (a b : Region). a.start < b.start) (starts_from y) rs h)
    (all_mono {Q = λ (r : Region). y ≤ r.start} (λ r e. true_so (from_says y r) e) from (all_let (starts_from y) rs))

-- A STEP of the cursor there hands that first one
unfoldable pub step_at : ℕ → Option (Entry × Cursor) → List Region
step_at y None = []
step_at y (Some s) = cond (is_at y s.0.region) (s.0.region ∷ []) []

step_first : (w : List ℕ) (y : ℕ) (c : Cursor) (rs : List Region) → Faces w c rs → step_at y (step_from w c) ≡ first_at y rs
unfolding step_at first_at
step_first w y c rs f = go (step_from w c) refl
  where
    go : (s : Option (Entry × Cursor)) → step_from w c ≡ s → step_at y s ≡ first_at y rs
    go None e = rw (faces_end w c rs f e)
    go (Some (h, on)) e = rw (faces_on w c rs h on f e).is

pub step_finds : (w : List ℕ) (y : ℕ) (c : Cursor) (s : Option (Entry × Cursor)) → T (valid w) → Faces w c (filter (starts_from y) (set_of w).regions) → s ≡ step_from w c → step_at y s ≡ filter (is_at y) (set_of w).regions
step_finds w y c s t f e = ap (step_at y) e ∙ step_first w y c (filter (starts_from y) (set_of w).regions) f ∙ sym (from_first y (set_of w).regions (ordered w t).rising)

-- as the code tells it
pub none_left : (y : ℕ) (s : Option (Entry × Cursor)) (r : Option Region) → s ≡ None → r ≡ None → found_list r ≡ step_at y s
unfolding found_list step_at
none_left y s r e f = rw (e, f)

pub first_left : (y : ℕ) (s : Option (Entry × Cursor)) (h : Entry) (on : Cursor) (r : Option Region) → s ≡ Some (h, on) → r ≡ then_some (eqb h.region.start y) h.region → found_list r ≡ step_at y s
unfolding found_list step_at is_at
first_left y s h on r e f = by_test (eqb h.region.start y) (λ t. rw (e, f, t)) (λ t. rw (e, f, t))
