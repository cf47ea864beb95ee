-- Each way in which the join's small functions come to their answers, as the definitions have it.
-- Assumes nothing.
use Prim.Native.Nat.{ℕ}
use mathlib.Core.Path.{◌≡◌, refl}
use mathlib.Core.List.{List}
use native.Mathlib.Omega.{arith}
use Rattle.std.specs.declared.option.Option.{Option}
use Rattle.std.specs.declared.option.Option.TheVariants.{None, Some}
use Rattle.words.specs.Lists.{filter}
use Rattle.words.proofs.Tests.{eq_no}
use Rattle.words.proofs.Listed.{all_mono, filter_same}
use Rattle.words.proofs.Says.{says_same, says_iff}
use Rattle.regions.specs.Positions.{account}
use Rattle.regions.specs.Sets.{of, starts_from}
use Rattle.regions.specs.declared.Region.{Region}
use Rattle.regions.proofs.Means.{from_says}
use Rattle.leaves.specs.declared.Entry.{Entry}
use Rattle.leaves.specs.declared.Cursor.{Cursor}
use Rattle.leaves.specs.Cursors.{start_faced}
use Rattle.skips.specs.Joins.{own_step, Clear}

-- the start that is faced is of another account: it is no step of this one
pub foreign_end : (a : ℕ) (s : Option (Entry × Cursor)) → (account (start_faced s) ≡ a → ⊥) → own_step a s ≡ None
unfolding own_step start_faced of
foreign_end a None n = refl
foreign_end a (Some (e, on)) n = rw (eq_no (account e.region.start) a n)

-- the regions from either end on are the same
pub clear_same : {rs : List Region} {p q : ℕ} → Clear rs p q → filter (starts_from p) rs ≡ filter (starts_from q) rs
clear_same {rs} {p} {q} k =
    filter_same (starts_from p) (starts_from q) rs
    (all_mono (λ r n. says_same (from_says p r) (says_iff (from_says q r) (λ h. omega (arith, k.far)) (λ h. n h))) rs k.none)
