-- What the mending of fills asks: of a split and a merge of pages of any height, of two neighbours of which one holds three, of a page whose child on x's way may hold three, and of a page below which the leaf on x's way may.
-- Assumes nothing.
use Rattle.std.specs.Prelude.{ℕ, suc, ◌+◌, ◌≤◌, ◌<◌, ◌≡◌, List, [], ◌∷◌, ◌++◌}
use Rattle.words.specs.Lists.{Pairs}
use Rattle.regions.specs.declared.Region.{Region}
use Rattle.xrtree.specs.Tree.{Key, Inner, Tree}
use Rattle.xrtree.specs.Claims.{Over}
use Rattle.xrtree.specs.Holes.{Post, fill}
use Rattle.standing.specs.Stands.{Around, Stands}
use Rattle.steps.specs.Steps.{size, KidsFilled, moved, ChildAt, page_here, PairAt}
use Rattle.mending.specs.declared.Tier.{Tier}
use Rattle.mending.specs.declared.Tier.TheVariants.{Leaves, Inners}
use Rattle.room.specs.Ways.{Filled, Others, OnWay, RecordRoom, PageRoom, Mended}

-- the page of two neighbours
abbrev pub pair_page : {w : List ℕ} {h q j : ℕ} → PairAt w h q j → Inner (Tree h)
pair_page {q = q} s = fill q (s.pre ++ (s.left, s.key) ∷ []) s.post s.right

-- ROOM around a page: for one more page, for records, for one more key
pub record Room (rs : List Region) (h lo hi : ℕ) (t : Tree (suc h)) (o : Around) : Type 0 where
  pub nested : Pairs Over rs
  pub few : size (suc h) t ≤ 8
  pub pages : PageRoom 1 (suc h) t o
  pub records : RecordRoom rs lo hi o

-- a tier's number: how many keys come down between two pages that become one
abbrev pub keys_down : Tier → ℕ
keys_down Leaves = 0
keys_down Inners = 1

-- inner is the number of a tier: 0 for leaves, 1 for inner pages
pub record SplitAsk (w : List ℕ) (q i c inner : ℕ) : Type 0 where
  pub h : ℕ
  pub level : moved h ≡ inner
  pub child_at : ChildAt w h q i
  pub room : Room child_at.rs h child_at.lo child_at.hi (page_here child_at) child_at.o
  pub low : 1 ≤ c + inner
  pub high : c < size h child_at.child

pub record MergeAsk (w : List ℕ) (q j inner : ℕ) : Type 0 where
  pub h : ℕ
  pub level : moved h ≡ inner
  pub pair : PairAt w h q j
  pub fit : size h pair.left + inner + size h pair.right ≤ 9

-- TWO NEIGHBOURS, the other children rightly filled: one holds three, the other is rightly filled
pub record Couple (w : List ℕ) (q j inner : ℕ) : Type 0 where
  pub h : ℕ
  pub level : moved h ≡ inner
  pub pair : PairAt w h q j
  pub room : Room pair.rs h pair.lo pair.hi (pair_page pair) pair.o
  pub others : Others (Filled h) pair.pre pair.post

pub record ThinLeft (w : List ℕ) (q j inner : ℕ) : Type 0 where
  pub couple : Couple w q j inner
  pub three : size couple.h couple.pair.left ≡ 3
  pub kids : KidsFilled couple.h couple.pair.left
  pub near : Filled couple.h couple.pair.right

pub record ThinRight (w : List ℕ) (q j inner : ℕ) : Type 0 where
  pub couple : Couple w q j inner
  pub three : size couple.h couple.pair.right ≡ 3
  pub kids : KidsFilled couple.h couple.pair.right
  pub near : Filled couple.h couple.pair.left

abbrev pub PairMended : {w : List ℕ} {q j inner : ℕ} → List ℕ → Couple w q j inner → Type 0
PairMended {w} w' s = Mended w w' s.pair.rs s.h s.pair.lo s.pair.hi s.pair.o (pair_page s.pair)

-- A PAGE whose child on x's way holds 3 to 8, and every other one 4 to 8
pub record Thin (w : List ℕ) (q x inner : ℕ) : Type 0 where
  pub h : ℕ
  pub level : moved h ≡ inner
  pub rs : List Region
  pub lo : ℕ
  pub hi : ℕ
  pub o : Around
  pub pre : List (Tree h × Key)
  pub post : Post (Tree h)
  pub child : Tree h
  pub stands : Stands w rs (suc h) lo hi (fill q pre post child) o
  pub on_way : OnWay x pre post
  pub others : Others (Filled h) pre post
  pub kids : KidsFilled h child
  pub least : 3 ≤ size h child
  pub most : size h child ≤ 8
  pub some : 1 ≤ size (suc h) (fill q pre post child)
  pub room : Room rs h lo hi (fill q pre post child) o
