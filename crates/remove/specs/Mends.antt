-- What the mending of fills asks of a page on the way, and what it leaves.
-- Assumes nothing.
use Rattle.std.specs.Prelude.{ℕ, zero, suc, ◌+◌, ◌≤◌, ◌≡◌, List, get_or}
use Rattle.regions.specs.declared.Region.{Region}
use Rattle.xrtree.specs.Tree.{Tree}
use Rattle.standing.specs.Stands.{Around, Stands}
use Rattle.path.specs.Path.{child_for}
use Rattle.steps.specs.Steps.{size}
use Rattle.room.specs.Ways.{Below}
use Rattle.mending.specs.Mends.{Room}

-- A PAGE below which all is rightly filled, but the leaf on x's way holds 3 to 8
pub record MendAsk (w : List ℕ) (q x h : ℕ) : Type 0 where
  pub rs : List Region
  pub lo : ℕ
  pub hi : ℕ
  pub o : Around
  pub t : Tree (suc h)
  pub stands : Stands w rs (suc h) lo hi t o
  pub place : t.place ≡ q
  pub below : Below 3 8 x h t
  pub some : 1 ≤ size (suc h) t
  pub room : Room rs h lo hi t o

-- A PATH from its word `at` on: each of the next n words is the child, on x's way, of the page before
abbrev pub Leads : List ℕ → ℕ → List ℕ → ℕ → ℕ → Type 0
Leads w x path at zero = Unit {0}
Leads w x path at (suc n) = (get_or path (at + 1) 0 ≡ child_for w x (get_or path at 0)) × Leads w x path (at + 1) n
