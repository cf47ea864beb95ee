-- The stack beside an image: where it begins, what a search makes it, and how it comes from one place to the next, by popping and then entry by entry.
-- Assumes nothing.
use Prim.Native.Nat.{ℕ, suc, ◌<◌, ◌≤◌}
use mathlib.Core.Path.{◌≡◌, refl, sym, ap, ap₂, ◌∙◌, subst}
use mathlib.Core.Bool.{Bool, true, false}
use mathlib.Core.List.{List, [], ◌∷◌, ◌++◌}
use lib.Dec.{ltb}
use lib.ListN.{length}
use native.Mathlib.Omega.{arith}
use Rattle.std.specs.declared.option.Option.{Option}
use Rattle.std.specs.declared.option.Option.TheVariants.{None, Some}
use Rattle.words.specs.Lists.{filter, All}
use Rattle.words.proofs.Tests.{lt_of, nlt_of}
use Rattle.words.proofs.Listed.{all_mono, filter_none}
use Rattle.regions.specs.Limits.{most_around}
use Rattle.regions.specs.Positions.{lowest, too_late}
use Rattle.regions.specs.Sets.{starts_from}
use Rattle.regions.specs.Sound.{Wf, Rising, Sound}
use Rattle.regions.specs.Calls.{region_words, ancestors}
use Rattle.regions.specs.declared.Region.{Region}
use Rattle.regions.specs.declared.Choice.{Choice}
use Rattle.words.proofs.Says.{true_so, so_false}
use Rattle.regions.proofs.Means.{formed_says, late_near}
use Rattle.image.specs.Read.{set_of}
use Rattle.answers.specs.Items.{written_from}
use Rattle.answers.proofs.Items.{from_first, from_long}
use Rattle.leaves.specs.declared.Entry.{Entry}
use Rattle.leaves.specs.declared.Cursor.{Cursor}
use Rattle.leaves.specs.Cursors.{step_from, start_faced}
use Rattle.leaves.specs.Faces.{Faces}
use Rattle.leaves.proofs.Faces.{faces_on, faces_end, faced_is}
use Rattle.tally.specs.declared.Tally.{Tally}
use Rattle.tally.specs.Tallies.{AncestorsFound}
use Rattle.stack.specs.Stacks.{held_words, holds_up_to, ends_behind, Falling, stacked}
use Rattle.stack.proofs.Stacks.{upto_says, upto_holds, holders_fall, holders_few, holders_kept, come_all, come_same, First, first_from, come_one, front_few}
use Rattle.stack.proofs.Stacked.{stacked_long, stacked_all}
use Rattle.follow.specs.declared.Stack.{Stack}
use Rattle.follow.specs.Places.{Placed, Behind, Coming}

-- A SEARCH: all ancestors have room
pub refilled : (w : List ℕ) (ch : Choice) (p n : ℕ) (held held' : List ℕ) (t : Tally) (c : Cursor) → length held ≡ held_words → Sound (set_of w)
    → AncestorsFound (ancestors ch p (set_of w)) n held held' t → Faces w c (filter (starts_from (too_late ch p)) (set_of w).regions) → Placed w (too_late ch p) p held' (record { n = t.total; cur = c })
refilled w ch p n held held' t c l s f faces =
    let xs = ancestors ch p (set_of w) in
    let is : held' ≡ written_from region_words 4 0 held xs = f.words ∙ sym (from_first region_words 4 held xs) in
    let same = upto_holds ch p (set_of w).regions in
    record {
      long = ap length is ∙ from_long region_words 4 0 held xs ∙ l;
      stack =
          ap₂ stacked is f.total
          ∙ stacked_all xs held (omega (arith, ap length same, holders_few (too_late ch p) p (late_near ch p).1 (set_of w) s))
          ∙ sym same;
      faces = faces;
    }

-- WHERE IT BEGINS: none holds an account's first position, since a region lies in one document
pub low_none : (a : ℕ) (rs : List Region) → All Wf rs → filter (holds_up_to (lowest a) (lowest a)) rs ≡ []
low_none a rs f =
    filter_none (holds_up_to (lowest a) (lowest a)) rs
    (all_mono {Q = λ r. holds_up_to (lowest a) (lowest a) r ≡ false} (λ r h. so_false (upto_says (lowest a) (lowest a) r) (λ m. beyond r h m)) rs f)
  where
    beyond : (r : Region) → Wf r → (r.start < lowest a) × (lowest a < r.end) → ⊥
    beyond r h m = let e = (true_so (formed_says r) h).in_one in omega arith

pub placed_behind : {w : List ℕ} {s p : ℕ} {held : List ℕ} {t : Stack} → s ≤ suc p → Placed w s p held t → Behind w s p held t
placed_behind {s = s} {p = p} l k = record { bound = s; place = p; near = l; bound_far = omega arith; place_far = omega arith; placed = k }

pub behind_later : {w : List ℕ} {s p s' p' : ℕ} {held : List ℕ} {t : Stack} → s ≤ s' → p ≤ p' → Behind w s p held t → Behind w s' p' held t
behind_later l k b =
    record {
      bound = b.bound;
      place = b.place;
      near = b.near;
      bound_far = omega (arith, b.bound_far);
      place_far = omega (arith, b.place_far);
      placed = b.placed;
    }

pub begun : (w : List ℕ) (ch : Choice) (a y p : ℕ) (held : List ℕ) (c : Cursor) → Sound (set_of w) → length held ≡ held_words → y ≡ lowest a → lowest a ≤ p → Faces w c (filter (starts_from y) (set_of w).regions)
    → Behind w (too_late ch p) p held (record { n = 0; cur = c })
unfolding stacked
begun w ch a y p held c s l e h f =
    behind_later (omega (arith, late_near ch p)) h
    (placed_behind (omega arith) (record { long = l; stack = sym (low_none a (set_of w).regions s.formed); faces = rw e at f }))

-- FROM ONE PLACE TO THE NEXT
pub placed_few : {w : List ℕ} {z p : ℕ} {held : List ℕ} {t : Stack} → z ≤ suc p → Placed w z p held t → Sound (set_of w) → t.n ≤ most_around
placed_few {w} {z} {p} {held} {t} l b s = omega (arith, ap length b.stack, stacked_long held t.n, holders_few z p l (set_of w) s)

module _ {w : List ℕ} {z p : ℕ} {held : List ℕ} {t : Stack} (b : Behind w z p held t) where
  pub behind_falls : Sound (set_of w) → Falling (stacked held t.n)
  behind_falls s =
      subst (λ (l : List Region). Falling l) (sym b.placed.stack) (holders_fall b.bound b.place b.near (set_of w).regions s.rising s.nesting)

  pub behind_coming : (m : ℕ) → stacked held m ≡ filter (ends_behind p) (stacked held t.n) → Coming w z p held (record { n = m; cur = t.cur })
  behind_coming m e =
      record {
        long = b.placed.long;
        at = b.bound;
        far = b.bound_far;
        stack = e ∙ ap (filter (ends_behind p)) b.placed.stack ∙ holders_kept b.bound b.place z p b.bound_far b.place_far (set_of w).regions;
        faces = b.placed.faces;
      }

-- ENTRY BY ENTRY. The start that is faced comes in time to hold p, or too late
module _ (ch : Choice) (p s : ℕ) (b : Bool) (st : Option (Entry × Cursor)) (e : s ≡ start_faced st) (t : b ≡ ltb s (too_late ch p)) where
  pub in_time : b ≡ true → start_faced st < too_late ch p
  in_time h = omega (arith, lt_of s (too_late ch p) (sym t ∙ h))

  pub too_late_lem : b ≡ false → too_late ch p ≤ start_faced st
  too_late_lem h = omega (arith, nlt_of s (too_late ch p) (sym t ∙ h))

module _ {w : List ℕ} {z p : ℕ} {held : List ℕ} {n : ℕ} {c : Cursor} (k : Coming w z p held (record { n = n; cur = c })) (up : Rising (set_of w).regions) where
  pub arrived : All (λ (r : Region). z ≤ r.start) (filter (starts_from k.at) (set_of w).regions) → Placed w z p held (record { n = n; cur = c })
  arrived h =
      record {
        long = k.long;
        stack = k.stack ∙ come_all k.at z p (set_of w).regions up h;
        faces = subst (λ (l : List Region). Faces w c l) (come_same k.at z p (set_of w).regions up k.far h) k.faces;
      }

  pub coming_end : step_from w c ≡ None → Placed w z p held (record { n = n; cur = c })
  coming_end s = arrived (rw (faces_end w c _ k.faces s) tt)

  module _ (e : Entry) (on : Cursor) (s : step_from w c ≡ Some (e, on)) where
    abbrev pub rest : List Region
    rest = (faces_on w c _ e on k.faces s).rest

    pub is : filter (starts_from k.at) (set_of w).regions ≡ e.region ∷ rest
    is = (faces_on w c _ e on k.faces s).is

    pub first : First (set_of w).regions k.at e.region rest
    first = first_from (set_of w).regions k.at e.region rest up is

    pub coming_stop : z ≤ e.region.start → Placed w z p held (record { n = n; cur = c })
    coming_stop l = arrived (rw is (all_mono {Q = λ r. z ≤ r.start} (λ r m. omega arith) (e.region ∷ rest) first.least))

    -- the start that is faced is its
    before_bound : start_faced (step_from w c) < z → e.region.start < z
    before_bound l = omega (arith, faced_is (step_from w c) e on s)

    pub coming_room : Sound (set_of w) → start_faced (step_from w c) < z → z ≤ suc p → n < most_around
    coming_room g u m = omega (arith, front_few k.at z p (set_of w) g e.region rest first (before_bound u) m, ap length k.stack, stacked_long held n)

    pub coming_on : (held' : List ℕ) (m : ℕ) → start_faced (step_from w c) < z → length held' ≡ length held → stacked held' m ≡ stacked held n ++ filter (ends_behind p) (e.region ∷ [])
        → Coming w z p held' (record { n = m; cur = on })
    coming_on held' m u g h =
        let l = before_bound u in
        record {
          long = g ∙ k.long;
          at = suc e.region.start;
          far = l;
          stack = h ∙ ap (λ us. us ++ filter (ends_behind p) (e.region ∷ [])) k.stack ∙ come_one k.at z p (set_of w).regions e.region rest first l;
          faces = subst (λ (l : List Region). Faces w on l) first.others (faces_on w c _ e on k.faces s).faces;
        }

  -- the start that is faced is not before the bound: there is none, or an entry's
  pub coming_there : z ≤ start_faced (step_from w c) → Placed w z p held (record { n = n; cur = c })
  coming_there l = go (step_from w c) refl
    where
      go : (s : Option (Entry × Cursor)) → step_from w c ≡ s → Placed w z p held (record { n = n; cur = c })
      go None s = coming_end s
      go (Some (e, on)) s = coming_stop e on s (omega (arith, faced_is (step_from w c) e on s))
