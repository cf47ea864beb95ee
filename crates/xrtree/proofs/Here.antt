-- Where the regions of a box lie: under one child, but for one that starts at the key.
-- Assumes nothing.
use Prim.Native.Nat.{ℕ, zero, suc, ◌≤◌, ◌<◌}
use mathlib.Core.Path.{◌≡◌, refl, sym, ap, ◌∙◌}
use mathlib.Core.Logic.{◌↔◌}
use mathlib.Core.List.{List, [], ◌∷◌, ◌++◌, map, append-nil}
use lib.ListN.{take}
use native.Mathlib.Omega.{arith}
use Rattle.words.specs.Lists.{filter, All, Pairs}
use Rattle.words.proofs.Tests.{off_t}
use Rattle.words.proofs.Listed.{all_mono, all_append, pairs_left, pairs_right_lem, filter_append, filter_none}
use Rattle.regions.specs.declared.Region.{Region}
use Rattle.xrtree.specs.Tree.{Entry, Key, Tree, weave, listed, region_of, regions}
use Rattle.xrtree.specs.Claims.{regions_in, Within, InKids, In, Over}
use Rattle.xrtree.specs.Local.{boxb, box, InBox, LocalKids, Local, Here}
use Rattle.xrtree.proofs.Box.{of_box}

pub box_append : (a b c d : ℕ) (xs ys : List Region) → box a b c d (xs ++ ys) ≡ box a b c d xs ++ box a b c d ys
unfolding box
box_append a b c d xs ys = filter_append (boxb a b c d) xs ys

pub box_none : (a b c d : ℕ) (xs : List Region) → All (λ r. InBox a b c d r → ⊥) xs → box a b c d xs ≡ []
unfolding box
box_none a b c d xs h = filter_none (boxb a b c d) xs (all_mono (λ r f. off_t (boxb a b c d r) (λ t. f (of_box a b c d r t))) xs h)

-- the starts of a part lie between its bounds
abbrev pub Starts : ℕ → ℕ → List Region → Type 0
Starts lo hi rs = All (λ (r : Region). (lo ≤ suc r.start) × (r.start < hi)) rs

leaf_starts : (lo hi : ℕ) (t : List Entry) → Within lo hi t → Starts lo hi (map region_of t)
leaf_starts lo hi [] i = tt
leaf_starts lo hi (e ∷ es) i = (i.0, leaf_starts lo hi es i.1)

kids_starts : (h : ℕ) → ((lo hi : ℕ) (c : Tree h) → In h lo hi c → Starts lo hi (regions h c))
    → (cs : List (Tree h × Key)) (last : Tree h) (lo hi : ℕ) → InKids (In h) lo hi cs last → Starts lo hi (regions_in h cs last)
unfolding weave
kids_starts h ih [] last lo hi i = ih lo hi last i
kids_starts h ih (c ∷ cs) last lo hi i =
    let k = c.1.key in
    all_append (λ (r : Region). (lo ≤ suc r.start) × (r.start < hi)) (regions h c.0) (regions_in h cs last)
    (all_mono (λ r w. (w.0, omega arith)) (regions h c.0) (ih lo k c.0 i.1))
    (all_mono (λ r w. (omega arith, w.1)) (regions_in h cs last) (kids_starts h ih cs last (suc k) hi i.2))

pub starts_in_lem : (h : ℕ) (lo hi : ℕ) (t : Tree h) → In h lo hi t → Starts lo hi (regions h t)
unfolding listed
starts_in_lem zero lo hi t i = leaf_starts lo hi t.entries i
starts_in_lem (suc h) lo hi t i = kids_starts h (λ lo hi c j. starts_in_lem h lo hi c j) t.kids t.last lo hi i

pub starts_weave : (h : ℕ) (cs : List (Tree h × Key)) (last : Tree h) (lo hi : ℕ) → InKids (In h) lo hi cs last → Starts lo hi (regions_in h cs last)
starts_weave h cs last lo hi i = kids_starts h (λ lo hi c j. starts_in_lem h lo hi c j) cs last lo hi i

pub here_all : (rs : List Region) (lo hi : ℕ) → Here rs lo hi rs
here_all rs lo hi = record { same = λ a b c d l u. refl }

-- down to the child left of k, and on to what is right of it
pub here_left : {rs : List Region} {lo hi : ℕ} (k : ℕ) (xs ys : List Region) → Here rs lo hi (xs ++ ys) → k ≤ hi → All (λ (r : Region). k ≤ r.start) ys → Here rs lo k xs
here_left k xs ys q w s =
    record {
      same = λ a b c d l u.
          q.same a b c d l (omega arith) ∙ box_append a b c d xs ys
          ∙ ap (λ (z : List Region). box a b c d xs ++ z) (box_none a b c d ys (all_mono (λ r m i. omega arith) ys s)) ∙ append-nil (box a b c d xs);
    }

pub here_right : {rs : List Region} {lo hi : ℕ} (k : ℕ) (xs ys : List Region) → Here rs lo hi (xs ++ ys) → lo ≤ k → All (λ (r : Region). r.start < k) xs → Here rs (suc k) hi ys
here_right k xs ys q w s =
    record {
      same = λ a b c d l u.
          q.same a b c d (omega arith) u ∙ box_append a b c d xs ys
          ∙ ap (λ (z : List Region). z ++ box a b c d ys) (box_none a b c d xs (all_mono (λ r m i. omega arith) xs s));
    }

-- of starts that ascend from k on, only the first can be k
first_only : (k : ℕ) (xs ys : List Region) → All (λ (r : Region). k ≤ r.start) xs → Pairs Over xs → All (λ (r : Region). k < r.start) ys
    → (a c d : ℕ) → box a (suc k) c d (xs ++ ys) ≡ box a (suc k) c d (take 1 xs)
unfolding box filter
first_only k [] ys s o w a c d = box_none a (suc k) c d ys (all_mono (λ r m i. omega arith) ys w)
first_only k (x ∷ xs) ys s o w a c d =
    box_append a (suc k) c d (x ∷ []) (xs ++ ys)
    ∙ ap (λ (z : List Region). box a (suc k) c d (x ∷ []) ++ z)
    (box_none a (suc k) c d (xs ++ ys) (all_append (λ (r : Region). InBox a (suc k) c d r → ⊥) xs ys (all_mono (λ r m i. beyond x r s.0 m.0 i) xs o.0) (all_mono (λ r m i. omega arith) ys w)))
    ∙ append-nil (box a (suc k) c d (x ∷ []))
  where
    beyond : (x r : Region) → k ≤ x.start → x.start < r.start → InBox a (suc k) c d r → ⊥
    beyond x r p q i = omega arith

-- the child after a key
module _ {A : Type 0} where
  unfoldable pub next_of : List (A × Key) → A → A
  next_of [] last = last
  next_of (c ∷ cs) last = c.0

next_only : (h k hi : ℕ) (cs : List (Tree h × Key)) (last : Tree h) → InKids (In h) (suc k) hi cs last → Pairs Over (regions_in h cs last)
    → (a c d : ℕ) → box a (suc k) c d (regions_in h cs last) ≡ box a (suc k) c d (take 1 (regions h (next_of cs last)))
unfolding weave next_of
next_only h k hi [] last i o a c d =
    ap (box a (suc k) c d) (sym (append-nil (regions h last)))
    ∙ first_only k (regions h last) [] (all_mono (λ r m. omega arith) (regions h last) (starts_in_lem h (suc k) hi last i)) o tt a c d
next_only h k hi (e ∷ cs) last i o a c d =
    first_only k (regions h e.0) (regions_in h cs last)
    (all_mono (λ r m. omega arith) (regions h e.0) (starts_in_lem h (suc k) e.1.key e.0 i.1))
    (pairs_left Over (regions h e.0) (regions_in h cs last) o)
    (all_mono (λ r m. later e.1.key r i.0.0 m.0) (regions_in h cs last) (starts_weave h cs last (suc e.1.key) hi i.2))
    a c d
  where
    later : (j : ℕ) (r : Region) → suc k ≤ j → suc j ≤ suc r.start → k < r.start
    later j r p q = omega arith

-- THE LIST AT A KEY lies under the child on its left, but for what may start at the key: the first entry on its right
pub list_near : {rs : List Region} (h : ℕ) (lo hi : ℕ) (c : Tree h × Key) (cs : List (Tree h × Key)) (last : Tree h)
    → Here rs lo hi (regions_in h (c ∷ cs) last) → InKids (In h) lo hi (c ∷ cs) last → Pairs Over (regions_in h (c ∷ cs) last)
    → box lo (suc c.1.key) c.1.key hi rs
    ≡ box lo (suc c.1.key) c.1.key hi (regions h c.0 ++ take 1 (regions h (next_of cs last)))
unfolding weave
list_near h lo hi c cs last q i o =
    let k = c.1.key in
    q.same lo (suc k) k hi (omega arith) i.0.1 ∙ box_append lo (suc k) k hi (regions h c.0) (regions_in h cs last)
    ∙ ap (λ (z : List Region). box lo (suc k) k hi (regions h c.0) ++ z)
    (next_only h k hi cs last i.2 (pairs_right_lem Over (regions h c.0) (regions_in h cs last) o) lo k hi)
    ∙ sym (box_append lo (suc k) k hi (regions h c.0) (take 1 (regions h (next_of cs last))))

-- down, in terms of the page
module _ {rs : List Region} (h : ℕ) (lo hi : ℕ) (c : Tree h × Key) (cs : List (Tree h × Key)) (last : Tree h) where
  pub here_child : Here rs lo hi (regions_in h (c ∷ cs) last) → InKids (In h) lo hi (c ∷ cs) last → Here rs lo c.1.key (regions h c.0)
  unfolding weave
  here_child q i =
      here_left c.1.key (regions h c.0) (regions_in h cs last) q (omega arith)
      (all_mono (λ r m. omega arith) (regions_in h cs last) (starts_weave h cs last (suc c.1.key) hi i.2))

  pub here_next : Here rs lo hi (regions_in h (c ∷ cs) last) → InKids (In h) lo hi (c ∷ cs) last → Here rs (suc c.1.key) hi (regions_in h cs last)
  unfolding weave
  here_next q i =
      here_right c.1.key (regions h c.0) (regions_in h cs last) q i.0.0
      (all_mono (λ r m. m.1) (regions h c.0) (starts_in_lem h lo c.1.key c.0 i.1))

-- the whole tree: LOCAL ⟺ NEAR (each list is decided by its child and one entry)
abbrev pub NearKids : (h : ℕ) → (ℕ → ℕ → Tree h → Type 0) → ℕ → ℕ → List (Tree h × Key) → Tree h → Type 0
NearKids h P lo hi [] last = P lo hi last
NearKids h P lo hi (c ∷ cs) last =
    (c.1.list ≡ box lo (suc c.1.key) c.1.key hi (regions h c.0 ++ take 1 (regions h (next_of cs last))))
    × P lo c.1.key c.0 × NearKids h P (suc c.1.key) hi cs last

abbrev pub Near : (h : ℕ) → ℕ → ℕ → Tree h → Type 0
Near zero lo hi t = Unit {0}
Near (suc h) lo hi t = NearKids h (Near h) lo hi t.kids t.last

module _ (rs : List Region) where
  near_kids : (h : ℕ)
      → ((lo hi : ℕ) (c : Tree h) → In h lo hi c → Here rs lo hi (regions h c) → Pairs Over (regions h c) → Local h rs lo hi c ↔ Near h lo hi c)
      → (cs : List (Tree h × Key)) (last : Tree h) (lo hi : ℕ) → InKids (In h) lo hi cs last → Here rs lo hi (regions_in h cs last)
      → Pairs Over (regions_in h cs last) → LocalKids rs (Local h rs) lo hi cs last ↔ NearKids h (Near h) lo hi cs last
  unfolding weave
  near_kids h ih [] last lo hi i q o = ih lo hi last i q o
  near_kids h ih (c ∷ cs) last lo hi i q o =
      let b = list_near h lo hi c cs last q i o in
      let w = ih lo c.1.key c.0 i.1 (here_child h lo hi c cs last q i) (pairs_left Over (regions h c.0) (regions_in h cs last) o) in
      let v = near_kids h ih cs last (suc c.1.key) hi i.2 (here_next h lo hi c cs last q i) (pairs_right_lem Over (regions h c.0) (regions_in h cs last) o) in
      ((λ a. (a.0 ∙ b, w.0 a.1, v.0 a.2)), (λ a. (a.0 ∙ sym b, w.1 a.1, v.1 a.2)))

  pub local_near : (h : ℕ) (lo hi : ℕ) (t : Tree h) → In h lo hi t → Here rs lo hi (regions h t) → Pairs Over (regions h t) → Local h rs lo hi t ↔ Near h lo hi t
  unfolding listed
  local_near zero lo hi t i q o = ((λ a. a), (λ a. a))
  local_near (suc h) lo hi t i q o = near_kids h (λ lo hi c j g p. local_near h lo hi c j g p) t.kids t.last lo hi i q o
