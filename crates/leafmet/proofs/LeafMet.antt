-- What an entry adds to what a search meets in a leaf.
-- Assumes nothing.
use Prim.Native.Nat.{ℕ, suc, ◌≤◌}
use mathlib.Core.Path.{◌≡◌, ap, ◌∙◌}
use mathlib.Core.Bool.{true, false}
use mathlib.Core.List.{List, [], ◌∷◌, ◌++◌, map}
use lib.Dec.{eqb}
use lib.ListN.{length}
use native.Mathlib.Omega.{arith}
use Rattle.words.specs.Lists.{filter}
use Rattle.words.proofs.Tests.{by_test, eq_yes, eq_no}
use Rattle.words.proofs.Listed.{filter_append, map_append}
use Rattle.regions.specs.Positions.{holds}
use Rattle.regions.specs.declared.Choice.{Choice}
use Rattle.xrtree.specs.Tree.{Entry, region_of}
use Rattle.xrtree.specs.Search.{holds_free}
use Rattle.image.specs.Read.{entry_at, entries_from}
use Rattle.leafmet.specs.LeafMet.{entries_met, own_from}

-- THE ENTRIES OF A LEAF: one entry, in a list, not holding p, or holding it
module _ (ch : Choice) (p : ℕ) (e : Entry) where
  pub entry_listed : (e.flag ≡ 0 → ⊥) → entries_met ch p (e ∷ []) ≡ []
  unfolding filter holds_free
  entry_listed h = rw (eq_no e.flag 0 h)

  pub entry_beside : holds ch p e.region ≡ false → entries_met ch p (e ∷ []) ≡ []
  unfolding filter holds_free
  entry_beside h = by_test (eqb e.flag 0) (λ f. rw (f, h)) (λ f. rw f)

  pub entry_met : e.flag ≡ 0 → holds ch p e.region ≡ true → entries_met ch p (e ∷ []) ≡ e.region ∷ []
  unfolding filter holds_free
  entry_met f h = rw (eq_yes e.flag 0 f, h)

  pub entry_few : length (entries_met ch p (e ∷ [])) ≤ 1
  unfolding filter
  entry_few = by_test (holds_free ch p e) (λ h. rw h (omega arith)) (λ h. rw h (omega arith))

module _ (ch : Choice) (p : ℕ) (ws : List ℕ) where
  pub own_none : (i m : ℕ) → m ≡ 0 → own_from ch p ws i m ≡ []
  unfolding entries_from filter
  own_none i m e = rw e

  pub own_more : (i m l : ℕ) → m ≡ suc l → own_from ch p ws i m ≡ entries_met ch p (entry_at ws i ∷ []) ++ own_from ch p ws (suc i) l
  unfolding entries_from
  own_more i m l e =
      rw e (ap (map region_of) (filter_append (holds_free ch p) (entry_at ws i ∷ []) (entries_from ws (suc i) l))
      ∙ map_append region_of (filter (holds_free ch p) (entry_at ws i ∷ [])) (filter (holds_free ch p) (entries_from ws (suc i) l)))
