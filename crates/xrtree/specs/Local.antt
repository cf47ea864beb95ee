-- The rules of a part of a tree, each said between the bounds of its page: what the steps of a save and a delete keep. A stab list is a box, the regions whose start and end lie between bounds.
-- Assumes nothing.
use Rattle.std.specs.Prelude.{ℕ, suc, ◌≤◌, ◌<◌, ◌≡◌, Bool, ◌&&◌, List, leb, ltb}
use Rattle.words.specs.Lists.{filter, All}
use Rattle.regions.specs.declared.Region.{Region}
use Rattle.xrtree.specs.Tree.{Entry, Key, Tree, regions}
use Rattle.xrtree.specs.Claims.{Page, Claim, flag_of, In, Proper, pair_is}

-- the regions with a ≤ start < b and c ≤ end < d
unfoldable pub boxb : ℕ → ℕ → ℕ → ℕ → Region → Bool
boxb a b c d r = leb a r.start && (ltb r.start b && (leb c r.end && ltb r.end d))

unfoldable pub box : ℕ → ℕ → ℕ → ℕ → List Region → List Region
box a b c d rs = filter (boxb a b c d) rs

-- the list at key k, between the bounds lo and hi
abbrev pub home : ℕ → ℕ → ℕ → List Region → List Region
home lo k hi rs = box lo (suc k) k hi rs

abbrev pub InBox : ℕ → ℕ → ℕ → ℕ → Region → Type 0
InBox a b c d r = (a ≤ r.start) × (r.start < b) × (c ≤ r.end) × (r.end < d)

-- lists and flags, said of each key and each entry between the bounds of its page
abbrev pub ListIs : List Region → ℕ → ℕ → Key → Type 0
ListIs rs lo hi k = k.list ≡ home lo k.key hi rs

abbrev pub NoLeaf : ℕ → ℕ → List Entry → Type 0
NoLeaf lo hi t = Unit {0}

abbrev pub NoKey : ℕ → ℕ → Key → Type 0
NoKey lo hi k = Unit {0}

abbrev pub LocalKids : {A : Type 0} → List Region → (ℕ → ℕ → A → Type 0) → ℕ → ℕ → List (A × Key) → A → Type 0
LocalKids rs P lo hi cs last = Page (ListIs rs) P lo hi cs last

abbrev pub Local : (h : ℕ) → List Region → ℕ → ℕ → Tree h → Type 0
Local h rs lo hi t = Claim (ListIs rs) NoLeaf h lo hi t

abbrev pub FlagKids : {A : Type 0} → (ℕ → ℕ → A → Type 0) → ℕ → ℕ → List (A × Key) → A → Type 0
FlagKids P lo hi cs last = Page NoKey P lo hi cs last

abbrev pub FlagsAre : ℕ → ℕ → List Entry → Type 0
FlagsAre lo hi t = All (λ (e : Entry). e.flag ≡ flag_of (leb lo e.region.start && ltb e.region.end hi)) t

abbrev pub LocalFlags : (h : ℕ) → ℕ → ℕ → Tree h → Type 0
LocalFlags h lo hi t = Claim NoKey FlagsAre h lo hi t

-- ts has all regions of rs that start in lo .. hi - 1: a box of such starts may be read there
pub record Here (rs : List Region) (lo hi : ℕ) (ts : List Region) : Type 0 where
  pub same : (a b c d : ℕ) → lo ≤ a → b ≤ hi → box a b c d rs ≡ box a b c d ts

-- the stored pair is that of the list's first region
abbrev pub FirstIs : ℕ → ℕ → Key → Type 0
FirstIs lo hi k = pair_is k k.list

-- THE LOCAL FORM of a part of a tree whose regions are among rs
pub record Part (rs : List Region) (h : ℕ) (lo hi : ℕ) (t : Tree h) : Type 0 where
  pub order : In h lo hi t
  pub lists : Local h rs lo hi t
  pub flags : LocalFlags h lo hi t
  pub firsts : Claim FirstIs NoLeaf h lo hi t

-- of a whole tree: the rules once more, in this form
pub record Sound (top : ℕ) (rs : List Region) (h : ℕ) (t : Tree h) : Type 0 where
  pub part : Part rs h 0 top t
  pub held : regions h t ≡ rs
  pub set : Proper top rs
