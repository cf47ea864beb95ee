-- What every set has that saves and deletes have made (document 01, "A valid image", rule 6, and the order in which a set is read), and the order of a join.
-- Assumes nothing.
use Rattle.std.specs.Prelude.{ℕ, ◌<◌, ◌≤◌, ◌≡◌, true, List, [], ◌∷◌, ◌++◌}
use Rattle.words.specs.Lists.{filter, All, Pairs, sum}
use Rattle.regions.specs.Limits.{most_regions}
use Rattle.regions.specs.Positions.{well_formed, nested, leveled}
use Rattle.regions.specs.Sets.{Set, of, held_by, share_of}
use Rattle.regions.specs.Calls.{Pair, pair_of, pairs_of, joined}
use Rattle.regions.specs.Desk.{later}
use Rattle.regions.specs.declared.Region.{Region}
use Rattle.regions.specs.declared.Kind.TheVariants.{Ancestor, Parent, AncestorOrSelf}

-- a region is well formed; starts ascend strictly; every two regions nest rightly; their levels say the same
abbrev pub Wf : Region → Type 0
Wf r = well_formed r ≡ true

abbrev pub Rising : List Region → Type 0
Rising rs = Pairs (λ x y. x.start < y.start) rs

abbrev pub Nesting : List Region → Type 0
Nesting rs = Pairs (λ x y. nested x y ≡ true) rs

abbrev pub Leveling : List Region → Type 0
Leveling rs = Pairs (λ x y. leveled x y ≡ true) rs

-- a set: all four, no account above its share, and shares that sum to at most 500
pub record Sound (S : Set) : Type 0 where
  pub formed : All Wf S.regions
  pub rising : Rising S.regions
  pub nesting : Nesting S.regions
  pub leveling : Leveling S.regions
  pub within : (a : ℕ) → held_by a S ≤ share_of a S
  pub shared : sum S.shares ≤ most_regions

-- NO TWO OF THE SAME LEVEL (change request C-16): so it is among the ancestors of any position
abbrev pub LevelsDiffer : List Region → Type 0
LevelsDiffer rs = Pairs (λ x y. x.level ≡ y.level → ⊥) rs

-- THE JOIN'S ORDER: q comes later than p; each pair later than all before it
abbrev pub Then : Pair → Pair → Type 0
Then p q = later p.a.start p.d.start q ≡ true

abbrev pub Ascending : List Pair → Type 0
Ascending ps = Pairs Then ps

-- ONE SET JOINED WITH ITSELF, BY ANCESTOR OR SELF (change request C-17): behind the pairs of each d with what contains it stands d's pair with itself
abbrev pub EachWithItself : Set → ℕ → Type 0
EachWithItself S a =
    let xs = filter (of a) S.regions in
    All (λ d. pairs_of AncestorOrSelf xs d ≡ pairs_of Ancestor xs d ++ pair_of d d ∷ []) xs

-- THE JOIN BY PARENT AND CHILD (change request C-16): from pair to pair d's start rises, so that no d stands in two
abbrev pub OneParentEach : Set → Set → ℕ → Type 0
OneParentEach X Y a = Pairs (λ p q. p.d.start < q.d.start) (joined X Y a Parent)
