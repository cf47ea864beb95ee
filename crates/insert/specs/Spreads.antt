-- What the parts of a save ask and promise once the entry is in its leaf: a child of nine that is split, the pages below a page of the path, the root.
-- Assumes nothing.
use Rattle.std.specs.Prelude.{ℕ, zero, suc, ◌+◌, ◌≤◌, ◌<◌, ◌≡◌, List, T, length, get_or}
use Rattle.words.specs.Lists.{Pairs}
use Rattle.regions.specs.Limits.{most_regions}
use Rattle.regions.specs.declared.Region.{Region}
use Rattle.xrtree.specs.Tree.{Tree, page_places}
use Rattle.xrtree.specs.Rules.{filled}
use Rattle.xrtree.specs.Claims.{Over}
use Rattle.pages.specs.Layout.{shares_of}
use Rattle.holding.specs.Held.{place_of}
use Rattle.standing.specs.Stands.{Around, nothing_around, Stands}
use Rattle.steps.specs.Steps.{size, KidsFilled, ChildAt, page_here, Split}
use Rattle.path.specs.Path.{kid_for}
use Rattle.room.specs.Ways.{Below, RecordRoom, PageRoom, Becomes}
use Rattle.roots.specs.WholeTree.{Whole}

-- A CHILD IN ITS PAGE, which has room for one key more: where it holds nine, it is split at 4
pub record Settling (w : List ℕ) (h q i p low : ℕ) : Type 0 where
  pub child_at : ChildAt w h q i
  pub nested : Pairs Over child_at.rs
  pub room : length (page_here child_at).kids ≤ 8
  pub place : p ≡ place_of h child_at.child
  pub height : low ≡ h
  pub pages : PageRoom 1 (suc h) (page_here child_at) child_at.o
  pub records : RecordRoom child_at.rs child_at.lo child_at.hi child_at.o

pub record Settled (w w' : List ℕ) (h q i p low : ℕ) (s : Settling w h q i p low) : Type 0 where
  pub kept : (size h s.child_at.child ≡ 9 → ⊥) → w' ≡ w
  -- `Split` itself: so its `key_made`, rule 2, holds of every split of a save
  pub cut : size h s.child_at.child ≡ 9 → Split w w' h q i 4 s.child_at

-- the words of a path, from word `at` on, are the places of the pages on x's way down a tree
abbrev pub OnPath : List ℕ → ℕ → ℕ → (h : ℕ) → Tree h → Type 0
OnPath path at x zero t = get_or path at 0 ≡ t.place
OnPath path at x (suc h) t = (get_or path at 0 ≡ t.place) × OnPath path (suc at) x h (kid_for x t.kids t.last)

-- below a page that can take a key more: rightly filled but for the leaf at the end of x's way, which may hold nine
abbrev pub Loose : ℕ → (h : ℕ) → Tree h → Type 0
Loose x zero t = length t.entries ≤ 9
Loose x (suc h) t = (length t.kids ≤ 8) × Below 4 9 x h t

-- A PAGE OF THE PATH: what stands from it on down
pub record Spreading (w path : List ℕ) (leaf at x : ℕ) (rs : List Region) (h lo hi : ℕ) (o : Around) (t : Tree h) : Type 0 where
  pub stands : Stands w rs h lo hi t o
  pub nested : Pairs Over rs
  pub loose : Loose x h t
  pub pages : PageRoom h h t o
  pub records : RecordRoom rs lo hi o
  pub deep : at + h ≡ leaf
  pub flat : leaf ≤ 3
  pub way : OnPath path at x h t

-- all pages below it hold 4 to 8, and it holds no less than before, 9 at most
pub record Spreads (w w' : List ℕ) (rs : List Region) (h lo hi : ℕ) (o : Around) (t : Tree h) : Type 0 where
  pub after : Tree h
  pub becomes : Becomes w w' rs h lo hi o t after
  pub filled : KidsFilled h after
  pub least : size h t ≤ size h after
  pub most : size h after ≤ 9
  pub pages : length (page_places h after) ≤ length (page_places h t) + h

-- THE ROOT, all below it rightly filled
pub record Topping (w : List ℕ) (low : ℕ) : Type 0 where
  pub rs : List Region
  pub h : ℕ
  pub t : Tree h
  pub whole : Whole w rs h t
  pub nested : Pairs Over rs
  pub few : length rs ≤ most_regions
  pub filled : KidsFilled h t
  pub least : 0 < h → 1 ≤ size h t
  pub most : size h t ≤ 9
  pub pages : h ≤ 2 → PageRoom 2 h t nothing_around
  pub flat : h ≤ 3
  pub height : low ≡ h

pub record Topped (w w' : List ℕ) (rs : List Region) : Type 0 where
  pub h : ℕ
  pub t : Tree h
  pub whole : Whole w' rs h t
  pub right : T (filled h t)
  pub flat : h ≤ 3
  pub shares : shares_of w' ≡ shares_of w
