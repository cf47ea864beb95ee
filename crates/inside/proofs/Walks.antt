-- The walk along the leaves: a turn, and each way out; and which regions it lists.
-- Assumes nothing.
use Prim.Native.Nat.{ℕ, suc, ◌+◌, ◌<◌, ◌≤◌, max}
use mathlib.Core.Path.{◌≡◌, refl, sym, ap, ◌∙◌}
use mathlib.Core.Bool.{Bool, true, false, ◌&&◌}
use mathlib.Core.List.{List, [], ◌∷◌, ◌++◌}
use lib.Dec.{T, leb, ltb}
use lib.ListN.{length, length-append}
use native.Mathlib.Omega.{arith}
use Rattle.words.specs.Lists.{filter, some}
use Rattle.std.specs.declared.option.Option.TheVariants.{None, Some}
use Rattle.words.proofs.Tests.{by_test, lt_yes, lt_no, and_false, and_comm, and_assoc}
use Rattle.words.proofs.Listed.{all_mono, all_every, filter_all, filter_none, filter_same, filter_filter, pairs_kept}
use Rattle.words.proofs.Says.{says_same, says_iff, and_says}
use Rattle.regions.specs.Positions.{inside, is_below}
use Rattle.regions.specs.Sets.{Set, starts_behind, starts_from}
use Rattle.regions.specs.Calls.{room, written, count_written, more_remain, region_words, descendants, children}
use Rattle.regions.specs.declared.Region.{Region}
use Rattle.regions.proofs.Fits.{count_is, more_is}
use Rattle.regions.proofs.Means.{inside_says, behind_says, behind_from}
use Rattle.regions.specs.Sound.{Rising}
use Rattle.image.specs.Read.{set_of}
use Rattle.image.specs.Valid.{valid}
use Rattle.image.proofs.Sound.{set_rises}
use Rattle.answers.specs.Items.{written_from}
use Rattle.answers.proofs.Items.{from_none, from_long, from_full, from_first, from_append}
use Rattle.leaves.specs.declared.Entry.{Entry}
use Rattle.leaves.specs.declared.Cursor.{Cursor}
use Rattle.leaves.specs.Cursors.{step_from}
use Rattle.leaves.specs.Faces.{Faces}
use Rattle.leaves.proofs.Faces.{faces_on, faces_end}
use Rattle.inside.specs.declared.Wanted.{Wanted}
use Rattle.inside.specs.declared.Wanted.TheVariants.{All as Every, Below, UpTo}
use Rattle.inside.specs.Lists.{up_to, wants, asked, Listed}

-- ONE REGION, wanted or not
pub wants_all : (v : Wanted) (r : Region) → v ≡ Every → true ≡ wants v r
unfolding wants
wants_all v r e = rw e

pub wants_below : (v : Wanted) (r : Region) (l : ℕ) → v ≡ Below l → is_below l r ≡ wants v r
unfolding wants
wants_below v r l e = rw e

pub wants_up_to : (v : Wanted) (r : Region) (l : ℕ) → v ≡ UpTo l → leb r.level l ≡ wants v r
unfolding wants up_to
wants_up_to v r l e = rw e

-- it is passed by, or counted and written
abbrev pub Took : Wanted → Region → List ℕ → ℕ → List ℕ → ℕ → Type 0
Took v r out count out' n = (out' ≡ written_from region_words 4 count out (filter (wants v) (r ∷ []))) × (n ≡ count + length (filter (wants v) (r ∷ [])))

pub took_not : (v : Wanted) (r : Region) (out : List ℕ) (count : ℕ) → wants v r ≡ false → Took v r out count out count
unfolding filter
took_not v r out count h = rw h (sym (from_none region_words 4 count out), omega arith)

pub took_one : (v : Wanted) (r : Region) (out : List ℕ) (count : ℕ) (out' : List ℕ) → wants v r ≡ true → out' ≡ written_from region_words 4 count out (r ∷ [])
    → Took v r out count out' (count + 1)
unfolding filter
took_one v r out count out' h e = rw h (e, refl)

-- of a region that starts before the end, and of those behind the end
asked_front : (v : Wanted) (end : ℕ) (r : Region) (rs : List Region) → r.start < end → filter (asked v end) (r ∷ rs) ≡ filter (wants v) (r ∷ []) ++ filter (asked v end) rs
unfolding filter asked
asked_front v end r rs l = by_test (wants v r) (λ h. rw (h, lt_yes r.start end l)) (λ h. rw h)

asked_none : (v : Wanted) (end : ℕ) (r : Region) (rs : List Region) → Rising (r ∷ rs) → end ≤ r.start → filter (asked v end) (r ∷ rs) ≡ []
unfolding asked
asked_none v end r rs h l =
    filter_none (asked v end) (r ∷ rs)
    (all_mono {Q = λ x. asked v end x ≡ false} (λ x k. rw (lt_no x.start end k) (and_false (wants v x))) (r ∷ rs) (l, all_mono {Q = λ x. end ≤ x.start} (λ x k. omega arith) rs h.0))

-- THE WALK: what is asked for of the regions before the cursor is still to be counted and written
pub record Walking (w : List ℕ) (v : Wanted) (end : ℕ) (goal : List Region) (out₀ : List ℕ) (c : Cursor) (out : List ℕ) (count : ℕ) : Type 0 where
  pub rs : List Region
  pub faces : Faces w c rs
  pub rising : Rising rs
  pub long : length out ≡ length out₀
  pub words : written_from region_words 4 count out (filter (asked v end) rs) ≡ written region_words 4 out₀ goal
  pub total : count + length (filter (asked v end) rs) ≡ length goal

-- from behind x on
pub walk_start : (w : List ℕ) (x : ℕ) (v : Wanted) (end : ℕ) (c : Cursor) (out : List ℕ) → T (valid w) → Faces w c (filter (starts_from (suc x)) (set_of w).regions)
    → Walking w v end (filter (asked v end) (filter (starts_behind x) (set_of w).regions)) out c out 0
walk_start w x v end c out t f =
    let rs = filter (starts_behind x) (set_of w).regions in
    record {
      rs = rs;
      faces = rw (behind_from x (set_of w).regions) f;
      rising = pairs_kept (λ a b. a.start < b.start) (starts_behind x) (set_of w).regions (set_rises w t);
      long = refl;
      words = from_first region_words 4 out (filter (asked v end) rs);
      total = omega arith;
    }

module _ {w : List ℕ} {v : Wanted} {end : ℕ} {goal : List Region} {out₀ : List ℕ} {c : Cursor} {out : List ℕ} {count : ℕ} (k : Walking w v end goal out₀ c out count) where
  ends : filter (asked v end) k.rs ≡ [] → count ≤ room 4 out₀ → Listed goal out₀ out (record { count = count; more = false })
  ends e l =
      let t : count ≡ length goal = omega (arith, k.total, ap length e) in
      let n : count_written 4 out₀ goal ≡ length goal = omega (arith, count_is 4 out₀ goal) in
      record {
        words = sym (from_none region_words 4 count out) ∙ ap (written_from region_words 4 count out) (sym e) ∙ k.words;
        count = t ∙ sym n;
        more = sym (more_is 4 out₀ goal ∙ lt_no (count_written 4 out₀ goal) (length goal) (omega arith));
      }

  -- no region is left, or the first one starts at the end or behind it
  pub walk_end : step_from w c ≡ None → count ≤ room 4 out₀ → Listed goal out₀ out (record { count = count; more = false })
  unfolding filter
  walk_end s l = ends (ap (filter (asked v end)) (faces_end w c k.rs k.faces s)) l

  pub walk_stop : (e : Entry) (on : Cursor) → step_from w c ≡ Some (e, on) → end ≤ e.region.start → count ≤ room 4 out₀ → Listed goal out₀ out (record { count = count; more = false })
  walk_stop e on s h l =
      let o = faces_on w c k.rs e on k.faces s in
      ends (ap (filter (asked v end)) o.is ∙ asked_none v end e.region o.rest (rw o.is at k.rising) h) l

  -- more are counted than fit
  pub walk_more : room 4 out₀ < count → Listed goal out₀ out (record { count = room 4 out₀; more = true })
  walk_more l =
      let r : room 4 out ≡ room 4 out₀ = omega (arith, k.long) in
      let n : count_written 4 out₀ goal ≡ room 4 out₀ = omega (arith, count_is 4 out₀ goal, k.total) in
      record {
        words = sym (from_full region_words 4 count out (filter (asked v end) k.rs) (omega arith)) ∙ k.words;
        count = sym n;
        more = sym (more_is 4 out₀ goal ∙ lt_yes (count_written 4 out₀ goal) (length goal) (omega (arith, k.total)));
      }

  -- A TURN
  pub walk_on : (e : Entry) (on : Cursor) (out' : List ℕ) (n : ℕ) → step_from w c ≡ Some (e, on) → e.region.start < end → Took v e.region out count out' n
      → Walking w v end goal out₀ on out' n
  walk_on e on out' n s h t =
      let o = faces_on w c k.rs e on k.faces s in
      let one = filter (wants v) (e.region ∷ []) in
      let more = filter (asked v end) o.rest in
      let split : filter (asked v end) k.rs ≡ one ++ more = ap (filter (asked v end)) o.is ∙ asked_front v end e.region o.rest h in
      record {
        rs = o.rest;
        faces = o.faces;
        rising = (rw o.is at k.rising).1;
        long = ap length t.0 ∙ from_long region_words 4 count out one ∙ k.long;
        words =
            rw (t.0, t.1) (sym (from_append region_words 4 (λ r. refl) count out one more) ∙ ap (written_from region_words 4 count out) (sym split) ∙ k.words);
        total = omega (arith, t.1, k.total, ap length split, length-append one more);
      }

-- WHAT IT LISTS, from behind the bounds' start on: those inside that are wanted; from behind `after` too, the descendants, the children
asked_inside : (v : Wanted) (s e : ℕ) (rs : List Region) → filter (asked v e) (filter (starts_behind s) rs) ≡ filter (wants v) (filter (inside s e) rs)
unfolding starts_behind asked inside
asked_inside v s e rs =
    filter_filter (starts_behind s) (asked v e) rs
    ∙ filter_same _ _ rs (all_every {P = λ r. (starts_behind s r && asked v e r) ≡ (inside s e r && wants v r)} same rs)
    ∙ sym (filter_filter (inside s e) (wants v) rs)
  where
    same : (r : Region) → (starts_behind s r && asked v e r) ≡ (inside s e r && wants v r)
    same r = ap (ltb s r.start &&◌) (and_comm (wants v r) (ltb r.start e)) ∙ sym (and_assoc (ltb s r.start) (ltb r.start e) (wants v r))

inside_behind : (s e after m : ℕ) (rs : List Region) → m ≡ max s after → filter (inside m e) rs ≡ filter (starts_behind after) (filter (inside s e) rs)
inside_behind s e after m rs h =
    filter_same _ _ rs (all_every {P = λ r. inside m e r ≡ (inside s e r && starts_behind after r)} same rs) ∙ sym (filter_filter (inside s e) (starts_behind after) rs)
  where
    same : (r : Region) → inside m e r ≡ (inside s e r && starts_behind after r)
    same r =
        says_same (inside_says m e r)
        (says_iff (and_says (inside_says s e r) (behind_says after r)) (λ f. (omega arith, omega arith)) (λ f. ((omega arith, omega arith), omega arith)))

pub lists_descendants : (s e after m : ℕ) (v : Wanted) (S : Set) → m ≡ max s after → v ≡ Every → filter (asked v e) (filter (starts_behind m) S.regions) ≡ descendants s e after S
unfolding wants
lists_descendants s e after m v S h k =
    asked_inside v m e S.regions ∙ ap (filter (wants v)) (inside_behind s e after m S.regions h)
    ∙ rw k (filter_all (wants Every) (descendants s e after S) (all_every (λ r. refl) (descendants s e after S)))

pub lists_children : (s e l after m : ℕ) (v : Wanted) (S : Set) → m ≡ max s after → v ≡ Below l → filter (asked v e) (filter (starts_behind m) S.regions) ≡ children s e l after S
unfolding wants
lists_children s e l after m v S h k = asked_inside v m e S.regions ∙ ap (filter (wants v)) (inside_behind s e after m S.regions h) ∙ rw k

-- WHERE NONE FITS, more remain as soon as one is asked for
pub some_wanted : (s e l : ℕ) (v : Wanted) (S : Set) (out : List ℕ) (t : Bool) → v ≡ UpTo l → room 4 out ≡ 0
    → t ≡ more_remain 4 out (filter (asked v e) (filter (starts_behind s) S.regions)) → t ≡ some (filter (up_to l) (filter (inside s e) S.regions))
unfolding wants more_remain
some_wanted s e l v S out t k none h = h ∙ rw none (ap some (asked_inside v s e S.regions ∙ rw k))
