-- A region comes into the set, or leaves it: only its owner's list changes. The owner is found on the way down: in a page the first key that is not below the start; if it is at most the end, it owns.
-- Assumes nothing.
use Prim.Native.Nat.{ℕ, zero, suc, ◌≤◌, ◌<◌}
use mathlib.Core.Path.{◌≡◌, refl, sym, ap, ◌∙◌}
use mathlib.Core.Bool.{Bool, true, false}
use mathlib.Core.List.{List, [], ◌∷◌, ◌++◌}
use lib.Dec.{leb, ltb}
use native.Mathlib.Omega.{arith}
use Rattle.words.specs.Lists.{filter, take_while, drop_while, All}
use Rattle.words.proofs.Tests.{of_T, off_t, by_test, lt_of, nlt_of, le_of, nle_of, lt_yes, lt_no}
use Rattle.words.proofs.Listed.{filter_append, all_filter}
use Rattle.regions.specs.declared.Region.{Region}
use Rattle.xrtree.specs.Tree.{Entry, Key, Tree}
use Rattle.xrtree.specs.Claims.{Page, Claim, InKids, In}
use Rattle.xrtree.specs.Local.{boxb, box, InBox, LocalKids, Local}
use Rattle.xrtree.proofs.Box.{of_box, to_box}
use Rattle.xrtree.specs.Moves.{key_with, out, own, own_kids, put}

module _ {A : Type 0} (Q : A → Bool) where
  take_two : (xs ys : List A) → All (λ x. Q x ≡ true) xs → All (λ y. Q y ≡ false) ys → take_while Q (xs ++ ys) ≡ xs
  unfolding take_while
  take_two [] [] a b = refl
  take_two [] (y ∷ ys) a b = rw b.0
  take_two (x ∷ xs) ys a b = rw a.0 (ap (x ∷◌) (take_two xs ys a.1 b))

  drop_two : (xs ys : List A) → All (λ x. Q x ≡ true) xs → All (λ y. Q y ≡ false) ys → drop_while Q (xs ++ ys) ≡ ys
  unfolding drop_while
  drop_two [] [] a b = refl
  drop_two [] (y ∷ ys) a b = rw b.0
  drop_two (x ∷ xs) ys a b = rw a.0 (drop_two xs ys a.1 b)

module _ (us vs : List Region) (r : Region) (low : All (λ (x : Region). x.start < r.start) us) (high : All (λ (x : Region). r.start < x.start) vs) (a b c d : ℕ) where
  low_box : All (λ (x : Region). ltb x.start r.start ≡ true) (box a b c d us)
  unfolding box
  low_box = all_filter (boxb a b c d) (λ x m h. lt_yes x.start r.start m) us low

  high_box : All (λ (x : Region). ltb x.start r.start ≡ false) (box a b c d vs)
  unfolding box
  high_box = all_filter (boxb a b c d) (λ x m h. lt_no x.start r.start (omega arith)) vs high

  -- a region outside the box changes nothing
  pub box_out : (InBox a b c d r → ⊥) → box a b c d (us ++ r ∷ vs) ≡ box a b c d (us ++ vs)
  unfolding box filter
  box_out n =
      let e : boxb a b c d r ≡ false = off_t (boxb a b c d r) (λ h. n (of_box a b c d r h)) in
      filter_append (boxb a b c d) us (r ∷ vs) ∙ rw e (sym (filter_append (boxb a b c d) us vs))

  box_in : InBox a b c d r → box a b c d (us ++ r ∷ vs) ≡ box a b c d us ++ r ∷ box a b c d vs
  unfolding box filter
  box_in i =
      let e : boxb a b c d r ≡ true = of_T (boxb a b c d r) (to_box a b c d r i) in
      filter_append (boxb a b c d) us (r ∷ vs) ∙ rw e

  -- a region in the box is put in, or taken out, in order of start
  pub box_put : InBox a b c d r → put r (box a b c d (us ++ vs)) ≡ box a b c d (us ++ r ∷ vs)
  unfolding put
  box_put i =
      let e : box a b c d (us ++ vs) ≡ box a b c d us ++ box a b c d vs = cut in
      rw (
        e,
        take_two (λ (x : Region). ltb x.start r.start) (box a b c d us) (box a b c d vs) low_box high_box,
        drop_two (λ (x : Region). ltb x.start r.start) (box a b c d us) (box a b c d vs) low_box high_box,
      ) (sym (box_in i))
    where
      cut : box a b c d (us ++ vs) ≡ box a b c d us ++ box a b c d vs
      cut = unfold box in filter_append (boxb a b c d) us vs

  pub box_take_out : InBox a b c d r → out r.start (box a b c d (us ++ r ∷ vs)) ≡ box a b c d (us ++ vs)
  unfolding out
  box_take_out i =
      let f : All (λ (x : Region). ltb x.start r.start ≡ false) (r ∷ box a b c d vs) = (lt_no r.start r.start (omega arith), high_box) in
      rw (
        box_in i,
        take_two (λ (x : Region). ltb x.start r.start) (box a b c d us) (r ∷ box a b c d vs) low_box f,
        drop_two (λ (x : Region). ltb x.start r.start) (box a b c d us) (r ∷ box a b c d vs) low_box f,
      ) (sym cut)
    where
      cut : box a b c d (us ++ vs) ≡ box a b c d us ++ box a b c d vs
      cut = unfold box in filter_append (boxb a b c d) us vs

-- what the change of the set from rs to rs' does to a box that holds r, and to one that does not
module _ (rs rs' : List Region) (r : Region) (g : List Region → List Region) (w : Key → List ℕ) (long : r.start < r.end)
    (off : (a b c d : ℕ) → (InBox a b c d r → ⊥) → box a b c d rs ≡ box a b c d rs')
    (on : (a b c d : ℕ) → InBox a b c d r → g (box a b c d rs) ≡ box a b c d rs') where
  off_kids : (h : ℕ) → ((lo hi : ℕ) (c : Tree h) → (lo ≤ r.start → r.end < hi → ⊥) → In h lo hi c → Local h rs lo hi c → Local h rs' lo hi c)
      → (lo hi : ℕ) (cs : List (Tree h × Key)) (last : Tree h) → (lo ≤ r.start → r.end < hi → ⊥) → InKids (In h) lo hi cs last
      → LocalKids rs (Local h rs) lo hi cs last → LocalKids rs' (Local h rs') lo hi cs last
  off_kids h ih lo hi [] last n i l = ih lo hi last n i l
  off_kids h ih lo hi (c ∷ cs) last n i l =
      let k = c.1.key in (
        l.0 ∙ off lo (suc k) k hi (λ i. n i.0 i.3),
        ih lo k c.0 (λ a b. n a (omega (arith, i.0.1))) i.1 l.1,
        off_kids h ih (suc k) hi cs last (λ a b. n (omega (arith, i.0.0)) b) i.2 l.2,
      )

  off_tree : (h : ℕ) (lo hi : ℕ) (t : Tree h) → (lo ≤ r.start → r.end < hi → ⊥) → In h lo hi t → Local h rs lo hi t → Local h rs' lo hi t
  off_tree zero lo hi t n i l = tt
  off_tree (suc h) lo hi t n i l = off_kids h (λ lo hi c n i l. off_tree h lo hi c n i l) lo hi t.kids t.last n i l

  on_kids : (h : ℕ) → ((lo hi : ℕ) (c : Tree h) → lo ≤ r.start → r.end < hi → In h lo hi c → Local h rs lo hi c → Local h rs' lo hi (own g w r h c))
      → (lo hi : ℕ) (cs : List (Tree h × Key)) (last : Tree h) → lo ≤ r.start → r.end < hi → InKids (In h) lo hi cs last
      → LocalKids rs (Local h rs) lo hi cs last → LocalKids rs' (Local h rs') lo hi (own_kids (own g w r h) g w r cs last).0 (own_kids (own g w r h) g w r cs last).1
  unfolding own_kids
  on_kids h ih lo hi [] last a b i l = ih lo hi last a b i l
  on_kids h ih lo hi (c ∷ cs) last a b i l =
      let k = c.1.key in
      by_test (ltb k r.start)
      (λ t.
      let u = lt_of k r.start t in
      rw t (l.0 ∙ off lo (suc k) k hi (λ j. omega (arith, j.1)), off_tree h lo k c.0 (λ x y. omega arith) i.1 l.1, on_kids h ih (suc k) hi cs last u b i.2 l.2))
      (λ t.
      let u = nlt_of k r.start t in
      rw t (by_test (leb k r.end)
      (λ s.
      let v = le_of k r.end s in
      rw s (
        ap g l.0 ∙ on lo (suc k) k hi (a, omega arith, v, b),
        off_tree h lo k c.0 (λ x y. omega arith) i.1 l.1,
        off_kids h (off_tree h) (suc k) hi cs last (λ x y. omega arith) i.2 l.2,
      ))
      (λ s.
      let v = nle_of k r.end s in
      rw s (
        l.0 ∙ off lo (suc k) k hi (λ j. omega (arith, j.2)),
        ih lo k c.0 a v i.1 l.1,
        off_kids h (off_tree h) (suc k) hi cs last (λ x y. omega arith) i.2 l.2,
      ))))

  pub own_lists_lem : (h : ℕ) (lo hi : ℕ) (t : Tree h) → lo ≤ r.start → r.end < hi → In h lo hi t → Local h rs lo hi t → Local h rs' lo hi (own g w r h t)
  unfolding own
  own_lists_lem zero lo hi t a b i l = tt
  own_lists_lem (suc h) lo hi t a b i l = on_kids h (λ lo hi c a b i l. own_lists_lem h lo hi c a b i l) lo hi t.kids t.last a b i l

-- SAVE: the lists for the set with r, from those without
pub saved_lists : (us vs : List Region) (r : Region) (w : Key → List ℕ) → r.start < r.end → All (λ (x : Region). x.start < r.start) us → All (λ (x : Region). r.start < x.start) vs
    → (h lo hi : ℕ) (t : Tree h) → lo ≤ r.start → r.end < hi → In h lo hi t → Local h (us ++ vs) lo hi t → Local h (us ++ r ∷ vs) lo hi (own (put r) w r h t)
saved_lists us vs r w l low high h lo hi t =
    own_lists_lem (us ++ vs) (us ++ r ∷ vs) r (put r) w l (λ a b c d n. sym (box_out us vs r low high a b c d n)) (λ a b c d i. box_put us vs r low high a b c d i) h lo hi t

-- DELETE
pub deleted_lists : (us vs : List Region) (r : Region) (w : Key → List ℕ) → r.start < r.end → All (λ (x : Region). x.start < r.start) us → All (λ (x : Region). r.start < x.start) vs
    → (h lo hi : ℕ) (t : Tree h) → lo ≤ r.start → r.end < hi → In h lo hi t → Local h (us ++ r ∷ vs) lo hi t → Local h (us ++ vs) lo hi (own (out r.start) w r h t)
deleted_lists us vs r w l low high h lo hi t =
    own_lists_lem (us ++ r ∷ vs) (us ++ vs) r (out r.start) w l (λ a b c d n. box_out us vs r low high a b c d n) (λ a b c d i. box_take_out us vs r low high a b c d i) h lo hi t

-- every other claim on the tree: kept, where it is kept by a key that only gets another list
module _ (Q : ℕ → ℕ → Key → Type 0) (L : ℕ → ℕ → List Entry → Type 0) (g : List Region → List Region) (w : Key → List ℕ) (r : Region)
    (same : (lo hi : ℕ) (k : Key) → Q lo hi k → Q lo hi (key_with k.key (w k) (g k.list))) where
  own_page : (h : ℕ) → ((lo hi : ℕ) (c : Tree h) → Claim Q L h lo hi c → Claim Q L h lo hi (own g w r h c)) → (lo hi : ℕ) (cs : List (Tree h × Key)) (last : Tree h)
      → Page Q (Claim Q L h) lo hi cs last → Page Q (Claim Q L h) lo hi (own_kids (own g w r h) g w r cs last).0 (own_kids (own g w r h) g w r cs last).1
  unfolding own_kids
  own_page h ih lo hi [] last p = ih lo hi last p
  own_page h ih lo hi (c ∷ cs) last p =
      by_test (ltb c.1.key r.start) (λ t. rw t (p.0, p.1, own_page h ih (suc c.1.key) hi cs last p.2))
      (λ t. rw t (by_test (leb c.1.key r.end) (λ s. rw s (same lo hi c.1 p.0, p.1, p.2)) (λ s. rw s (p.0, ih lo c.1.key c.0 p.1, p.2))))

  pub own_claim : (h : ℕ) (lo hi : ℕ) (t : Tree h) → Claim Q L h lo hi t → Claim Q L h lo hi (own g w r h t)
  unfolding own
  own_claim zero lo hi t p = p
  own_claim (suc h) lo hi t p = own_page h (λ lo hi c q. own_claim h lo hi c q) lo hi t.kids t.last p
