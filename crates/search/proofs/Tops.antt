-- The searches on top: all ancestors from the first item on; of the level above the one that there is.
-- Assumes nothing.
use Prim.Native.Nat.{ℕ, ◌+◌, ◌≤◌}
use mathlib.Core.Path.{◌≡◌, refl, ap, ◌∙◌}
use Rattle.std.specs.Prelude.{None}
use mathlib.Core.List.{List, [], ◌∷◌}
use lib.Dec.{T, eqb}
use lib.ListN.{length}
use native.Mathlib.Omega.{arith}
use Rattle.words.specs.Lists.{filter}
use Rattle.words.proofs.Tests.{eq_no}
use Rattle.words.proofs.Listed.{all_every, filter_all, filter_none}
use Rattle.regions.specs.Positions.{is_above}
use Rattle.regions.specs.Limits.{region_width}
use Rattle.regions.specs.Calls.{region_words, ancestors, parent}
use Rattle.regions.specs.Sets.{Set}
use Rattle.regions.specs.declared.Region.{Region}
use Rattle.regions.specs.declared.Choice.TheVariants.{Strict}
use Rattle.image.specs.Read.{set_of}
use Rattle.image.specs.Valid.{valid}
use Rattle.image.proofs.Sound.{valid_parent_one}
use Rattle.answers.proofs.Items.{from_first}
use Rattle.tally.specs.declared.Task.TheVariants.{List as Listing, Above}
use Rattle.tally.specs.declared.Tally.{Tally}
use Rattle.tally.specs.Tasks.{accepts}
use Rattle.tally.specs.Tallies.{found_list, last_found, taken, Tallied, fresh_tally, AncestorsFound}

-- ANCESTOR SEARCH
taken_all : (xs : List Region) → taken Listing xs ≡ xs
unfolding accepts
taken_all xs = filter_all (accepts Listing) xs (all_every (λ a. refl) xs)

pub all_found : {out out' : List ℕ} {t : Tally} {xs : List Region} {n : ℕ} → Tallied Listing out fresh_tally xs n out' t → AncestorsFound xs n out out' t
all_found {out} {xs = xs} r =
    record {
      words = r.words ∙ rw (taken_all xs) (from_first region_words region_width out xs);
      total = r.total ∙ rw (taken_all xs) (omega arith);
      steps = r.steps ∙ omega arith;
      last = r.last ∙ ap (last_found None) (taken_all xs);
    }

-- PARENT SEARCH: of at most one the last is the only one
last_only : (xs : List Region) → length xs ≤ 1 → found_list (last_found None xs) ≡ xs
unfolding found_list last_found
last_only [] l = refl
last_only (x ∷ []) l = refl
last_only (x ∷ y ∷ xs) l = absurd (omega arith)

taken_above : (l : ℕ) (xs : List Region) → taken (Above l) xs ≡ filter (is_above l) xs
unfolding accepts
taken_above l xs = refl

pub parent_found_lem : (w : List ℕ) (p l : ℕ) {out out' : List ℕ} {t : Tally} {n : ℕ} → T (valid w) → Tallied (Above l) out fresh_tally (ancestors Strict p (set_of w)) n out' t
    → found_list t.last ≡ parent p l (set_of w)
parent_found_lem w p l v r =
    ap found_list (r.last ∙ ap (last_found None) (taken_above l (ancestors Strict p (set_of w)))) ∙ last_only (parent p l (set_of w)) (valid_parent_one w v p l)

-- level 0 has none: no level is one less
pub parent_none : (p l : ℕ) (S : Set) → l ≡ 0 → found_list None ≡ parent p l S
unfolding found_list is_above
parent_none p l S e = rw (e, filter_none (λ (r : Region). eqb (r.level + 1) 0) (ancestors Strict p S) (all_every (λ r. eq_no (r.level + 1) 0 (λ z. omega arith)) (ancestors Strict p S)))
