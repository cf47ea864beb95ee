-- Demand 2 of a search, in plain words: which regions of the set are listed, that each is listed once, and in which order.
-- Assumes nothing.
use Rattle.std.specs.Prelude.{ℕ, ◌+◌, ◌<◌, ◌≤◌, ◌≡◌, ◌↔◌, List}
use Rattle.words.specs.Lists.{Pairs, In}
use Rattle.regions.specs.declared.Region.{Region}
use Rattle.regions.specs.declared.Choice.{Choice}
use Rattle.regions.specs.declared.Choice.TheVariants.{Strict, WithSelf}
use Rattle.regions.specs.Sets.{Set}

-- WHICH ARE MEANT: the ancestors of a position, strictly or with self, and those of the level above the given one; the descendants inside bounds past "after", and those of the level below
abbrev pub AncestorOf : Choice → ℕ → Region → Type 0
AncestorOf Strict p r = (r.start < p) × (p < r.end)
AncestorOf WithSelf p r = (r.start ≤ p) × (p < r.end)

abbrev pub ParentOf : ℕ → ℕ → Region → Type 0
ParentOf p level r = AncestorOf Strict p r × (r.level + 1 ≡ level)

abbrev pub DescendantIn : ℕ → ℕ → ℕ → Region → Type 0
DescendantIn start end after r = (start < r.start) × (r.start < end) × (after < r.start)

abbrev pub ChildIn : ℕ → ℕ → ℕ → ℕ → Region → Type 0
ChildIn start end level after r = DescendantIn start end after r × (r.level ≡ level + 1)

-- IN WHICH ORDER: the outer one first, so that starts rise and ends fall; or the one that starts first
abbrev pub OuterFirst : Region → Region → Type 0
OuterFirst x y = (x.start < y.start) × (y.end < x.end)

abbrev pub SoonerFirst : Region → Region → Type 0
SoonerFirst x y = x.start < y.start

-- EXACTLY those of the set that are meant, no two of them the same, in order
pub record Exactly (S : Set) (Meant : Region → Type 0) (First : Region → Region → Type 0) (rs : List Region) : Type 0 where
  pub those_meant : (r : Region) → In r rs ↔ (In r S.regions × Meant r)
  pub each_once : Pairs (λ x y. x ≡ y → ⊥) rs
  pub in_order : Pairs First rs

-- the one region of the set that is meant
pub record TheOne (S : Set) (Meant : Region → Type 0) (r : Region) : Type 0 where
  pub held : In r S.regions
  pub meant : Meant r
  pub no_other : (x : Region) → In x S.regions → Meant x → x ≡ r
