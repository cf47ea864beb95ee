-- The ways out of the searches: IMAGE, then the call's own numbers, then what is found.
-- Assumes nothing.
use Prim.Native.Nat.{ℕ, ◌<◌, ◌≤◌}
use mathlib.Core.Path.{◌≡◌, refl, ap, ◌∙◌}
use mathlib.Core.Bool.{Bool, true, false, ◌&&◌}
use mathlib.Core.List.{List}
use lib.ListN.{length}
use Rattle.std.specs.Prelude.{Option, Some, None, Ok, Err}
use Rattle.words.specs.Lists.{first_no}
use Rattle.words.proofs.Tests.{eq_no, lt_yes, lt_no}
use Rattle.regions.specs.Numbers.{image_first}
use Rattle.regions.specs.Positions.{well_bound}
use Rattle.regions.specs.Limits.{region_width, pair_width}
use Rattle.regions.specs.Calls.{region_words, written, count_written, more_remain, foreign, point_no, bounds_no, ancestors, parent, pair_words, join_no, joined}
use Rattle.regions.specs.Refusals.{refusal_number}
use Rattle.regions.specs.declared.Refusal.{Refusal}
use Rattle.regions.specs.declared.Region.{Region}
use Rattle.regions.specs.Desk.{past}
use Rattle.regions.specs.declared.Choice.{Choice}
use Rattle.regions.specs.declared.Kind.{Kind}
use Rattle.regions.specs.declared.Mark.TheVariants.{Fresh}
use Rattle.regions.proofs.Joined.{past_fresh}
use Rattle.regions.proofs.Refused.{refused_some}
use Rattle.image.specs.Read.{set_of}
use Rattle.image.specs.Valid.{valid}
use Rattle.tally.specs.Tallies.{found_list}
use Rattle.join.specs.Joins.{Joined}
use Rattle.queries.specs.Joins.{JoinsSets}
use Rattle.queries.specs.Searches.{step_count, FindsAncestors, parent_found, is_refusal, FindsParent, Lists}

-- ANCESTOR and PARENT SEARCH, by a position
pub point_foreign : (a p : ℕ) → foreign a p ≡ true → 3 ≡ point_no a p
unfolding point_no first_no
point_foreign a p e = rw e

pub point_own : (a p : ℕ) → foreign a p ≡ false → 0 ≡ point_no a p
unfolding point_no first_no
point_own a p e = rw e

-- ANCESTORS
pub ancestors_refused : (w : List ℕ) (a p : ℕ) (ch : Choice) (out : List ℕ) (n : ℕ) → (n ≡ 0 → ⊥) → n ≡ image_first (valid w) (point_no a p) → FindsAncestors w a p ch out n 0 0 out
ancestors_refused w a p ch out n h e = record { number_is = e; refused = λ z. (refl, refl, refl); done = λ z. absurd (h z) }

pub ancestors_found : (w : List ℕ) (a p : ℕ) (ch : Choice) (out out' : List ℕ) (total made : ℕ) → 0 ≡ image_first (valid w) (point_no a p) → total ≡ length (ancestors ch p (set_of w))
    → made ≡ step_count w ch p → out' ≡ written region_words region_width out (ancestors ch p (set_of w)) → FindsAncestors w a p ch out 0 total made out'
ancestors_found w a p ch out out' total made e t s o = record { number_is = e; refused = λ z. absurd (z refl); done = λ z. (t, s, o) }

-- PARENT
pub parent_refused : (w : List ℕ) (a p l : ℕ) (r : Refusal) → refusal_number r ≡ image_first (valid w) (point_no a p) → FindsParent w a p l (Err r)
unfolding parent_found is_refusal
parent_refused w a p l r e = let h = refused_some r in record { number_is = e; refused = λ z. refl; done = λ z. absurd (h z); case_is = rw (eq_no (refusal_number r) 0 h) }

-- what the search found is the answer, a region or none
pub parent_answered : (w : List ℕ) (a p l : ℕ) (f : Option Region) → 0 ≡ image_first (valid w) (point_no a p) → found_list f ≡ parent p l (set_of w) → FindsParent w a p l (Ok f)
unfolding parent_found is_refusal found_list
parent_answered w a p l None n e = record { number_is = n; refused = λ z. absurd (z refl); done = λ z. e; case_is = refl }
parent_answered w a p l (Some r) n e = record { number_is = n; refused = λ z. absurd (z refl); done = λ z. e; case_is = refl }

-- DESCENDANTS AND CHILDREN
pub bounds_wrong : (a s e : ℕ) → well_bound s e ≡ false → 2 ≡ bounds_no a s e
unfolding bounds_no first_no
bounds_wrong a s e h = rw h

pub bounds_foreign : (a s e : ℕ) → well_bound s e ≡ true → foreign a s ≡ true → 3 ≡ bounds_no a s e
unfolding bounds_no first_no
bounds_foreign a s e h f = rw (h, f)

pub bounds_own : (a s e : ℕ) → well_bound s e ≡ true → foreign a s ≡ false → 0 ≡ bounds_no a s e
unfolding bounds_no first_no
bounds_own a s e h f = rw (h, f)

pub lists_refused : (w : List ℕ) (a s e : ℕ) (rs : List Region) (out : List ℕ) (n : ℕ) → (n ≡ 0 → ⊥) → n ≡ image_first (valid w) (bounds_no a s e) → Lists w a s e rs out n 0 false out
lists_refused w a s e rs out n h f = record { number_is = f; refused = λ z. (refl, refl, refl); done = λ z. absurd (h z) }

pub lists_found : (w : List ℕ) (a s e : ℕ) (rs : List Region) (out out' : List ℕ) (count : ℕ) (more : Bool) → 0 ≡ image_first (valid w) (bounds_no a s e)
    → count ≡ count_written region_width out rs → more ≡ more_remain region_width out rs → out' ≡ written region_words region_width out rs → Lists w a s e rs out 0 count more out'
lists_found w a s e rs out out' count more f c m o = record { number_is = f; refused = λ h. absurd (h refl); done = λ h. (c, m, o) }

-- THE JOIN
pub either_invalid : (u v : Bool) (n : ℕ) → u ≡ true → v ≡ false → 1 ≡ image_first (u && v) n
either_invalid u v n e f = rw (e, f)

pub outer_invalid : (u v : Bool) (n : ℕ) → u ≡ false → 1 ≡ image_first (u && v) n
outer_invalid u v n e = rw e

pub join_foreign : (u v : Bool) (a : ℕ) → u ≡ true → v ≡ true → 15 < a → 3 ≡ image_first (u && v) (join_no a)
unfolding join_no first_no
join_foreign u v a e f h = rw (e, f, lt_yes 15 a h)

pub join_own : (u v : Bool) (a : ℕ) → u ≡ true → v ≡ true → a ≤ 15 → 0 ≡ image_first (u && v) (join_no a)
unfolding join_no first_no
join_own u v a e f h = rw (e, f, lt_no 15 a h)

pub join_refused : (u v : List ℕ) (a : ℕ) (k : Kind) (out : List ℕ) (n : ℕ) → (n ≡ 0 → ⊥) → n ≡ image_first (valid u && valid v) (join_no a) → JoinsSets u v a k out n 0 out
join_refused u v a k out n h e = record { number_is = e; refused = λ z. (refl, refl); done = λ z. absurd (h z) }

-- past no mark lie all pairs, and all are told
pub join_found : (u v : List ℕ) (a : ℕ) (k : Kind) (out out' : List ℕ) (total : ℕ) → valid u ≡ true → valid v ≡ true → a ≤ 15
    → Joined (past Fresh (joined (set_of u) (set_of v) a k)) true out out' total → JoinsSets u v a k out 0 total out'
join_found u v a k out out' total e f h j =
    let all = past_fresh (joined (set_of u) (set_of v) a k) in
    record {
      number_is = join_own (valid u) (valid v) a e f h;
      refused = λ z. absurd (z refl);
      done = λ z. (j.total ∙ ap length all, j.words ∙ ap (written pair_words pair_width out) all);
    }
