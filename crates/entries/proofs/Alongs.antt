-- A save or delete changes a tree along one way only: the leaf at its end, and a key's list on it.
-- Assumes nothing.
use Prim.Native.Nat.{ℕ, zero, suc, ◌≤◌}
use mathlib.Core.Path.{◌≡◌, refl, sym, ap, ◌∙◌}
use mathlib.Core.Bool.{true, false}
use mathlib.Core.List.{List, [], ◌∷◌, ◌++◌}
use lib.Dec.{ltb, leb}
use native.Mathlib.Omega.{arith}
use Rattle.words.specs.Lists.{All}
use Rattle.words.proofs.Tests.{by_test, lt_yes, lt_no, le_yes}
use Rattle.regions.specs.declared.Region.{Region}
use Rattle.xrtree.specs.Tree.{Key, Leaf, Inner, Tree}
use Rattle.xrtree.specs.Claims.{page_at}
use Rattle.xrtree.specs.Moves.{key_with, own_kids, own}
use Rattle.xrtree.specs.Holes.{Post, fill_kids, fill_last, fill}
use Rattle.xrtree.specs.Holes.Post.{at_key, at_end}
use Rattle.path.specs.Path.{kid_for}
use Rattle.entries.specs.Ways.{Greater, leaf_on, at_leaf}
use Rattle.entries.specs.Changed.{SameKids, SamePost, Along}
use Rattle.entries.proofs.Leafs.{kid_way}

module _ {A : Type 0} where
  kids_refl : (cs : List (A × Key)) → SameKids cs cs
  kids_refl [] = tt
  kids_refl (c ∷ cs) = (refl, refl, kids_refl cs)

  post_refl : (p : Post A) → SamePost p p
  post_refl (at_key k cs last) = (refl, refl, refl)
  post_refl at_end = tt

  kids_then : (a b c : List (A × Key)) → SameKids a b → SameKids b c → SameKids a c
  kids_then [] [] [] p q = tt
  kids_then [] [] (z ∷ c) p q = absurd q
  kids_then [] (y ∷ b) c p q = absurd p
  kids_then (x ∷ a) [] c p q = absurd p
  kids_then (x ∷ a) (y ∷ b) [] p q = absurd q
  kids_then (x ∷ a) (y ∷ b) (z ∷ c) p q = (q.0 ∙ p.0, q.1 ∙ p.1, kids_then a b c p.2 q.2)

  post_then : (a b c : Post A) → SamePost a b → SamePost b c → SamePost a c
  post_then (at_key k cs z) (at_key k' cs' z') (at_key k'' cs'' z'') p q = (q.0 ∙ p.0, q.1 ∙ p.1, q.2 ∙ p.2)
  post_then (at_key k cs z) (at_key k' cs' z') at_end p q = absurd q
  post_then (at_key k cs z) at_end c p q = absurd p
  post_then at_end (at_key k' cs' z') c p q = absurd p
  post_then at_end at_end (at_key k'' cs'' z'') p q = absurd q
  post_then at_end at_end at_end p q = tt

  pub low_same : (x : ℕ) (a b : List (A × Key)) → SameKids a b → All (λ c. c.1.key ≤ x) a → All (λ c. c.1.key ≤ x) b
  low_same x [] [] p l = tt
  low_same x [] (d ∷ b) p l = absurd p
  low_same x (c ∷ a) [] p l = absurd p
  low_same x (c ∷ a) (d ∷ b) p l = (omega (arith, p.1, l.0), low_same x a b p.2 l.1)

  pub high_same : (x : ℕ) (a b : Post A) → SamePost a b → Greater x a → Greater x b
  high_same x (at_key k cs z) (at_key k' cs' z') p g = omega (arith, p.0)
  high_same x (at_key k cs z) at_end p g = absurd p
  high_same x at_end (at_key k' cs' z') p g = absurd p
  high_same x at_end at_end p g = tt

-- THE LEAF
pub at_along : (R : Leaf → Leaf → Type 0) (f : Leaf → Leaf) (x h : ℕ) (t : Tree h) → R (leaf_on x h t) (f (leaf_on x h t)) → Along R x h t (at_leaf f x h t)
unfolding leaf_on at_leaf
at_along R f x zero t r = r
at_along R f x (suc h) t r =
    let k = kid_way x t.kids t.last in
    record {
      pre = k.pre;
      post = k.post;
      child = kid_for x t.kids t.last;
      pre' = k.pre;
      post' = k.post;
      child' = at_leaf f x h (kid_for x t.kids t.last);
      was = λ i. record { place = t.place; kids = k.kids i; last = k.end i };
      is = ap (λ p. page_at t.place p.0 p.1) (k.becomes (at_leaf f x h));
      before = kids_refl k.pre;
      after = post_refl k.post;
      low = k.low;
      high = k.high;
      below = at_along R f x h (kid_for x t.kids t.last) r;
    }

-- THE OWNER is on the way of its start: a key of a page there, or one further down
module _ {A : Type 0} (f : A → A) (g : List Region → List Region) (w : Key → List ℕ) (r : Region) (long : r.start ≤ r.end) (P : A → Type 0) where
  record Filled (pre : List (A × Key)) (post : Post A) (child : A) : Type 0 where
    pre' : List (A × Key)
    post' : Post A
    child' : A
    is : own_kids f g w r (fill_kids pre post child) (fill_last post child) ≡ (fill_kids pre' post' child', fill_last post' child')
    before : SameKids pre pre'
    after : SamePost post post'
    below : P child'

  own_next : (c : A × Key) (pre : List (A × Key)) (post : Post A) (child : A) → ltb c.1.key r.start ≡ true → Filled pre post child → Filled (c ∷ pre) post child
  unfolding own_kids
  own_next c pre (at_key k cs z) child t o = go o.post' o.is o.after
    where
      go : (q : Post A) → own_kids f g w r (pre ++ (child, k) ∷ cs) z ≡ (fill_kids o.pre' q o.child', fill_last q o.child') → SamePost (at_key k cs z) q → Filled (c ∷ pre) (at_key k cs z) child
      go (at_key k' cs' z') e s = record { pre' = c ∷ o.pre'; post' = at_key k' cs' z'; child' = o.child'; is = rw t (ap (λ p. (c ∷ p.0, p.1)) e); before = (refl, refl, o.before); after = s; below = o.below }
      go at_end e s = absurd s
  own_next c pre at_end child t o = go o.post' o.is o.after
    where
      go : (q : Post A) → own_kids f g w r pre child ≡ (fill_kids o.pre' q o.child', fill_last q o.child') → SamePost {A = A} at_end q → Filled (c ∷ pre) at_end child
      go (at_key k' cs' z') e s = absurd s
      go at_end e s = record { pre' = c ∷ o.pre'; post' = at_end; child' = o.child'; is = rw t (ap (λ p. (c ∷ p.0, p.1)) e); before = (refl, refl, o.before); after = s; below = o.below }

  own_here : (c : A × Key) (pre : List (A × Key)) (post : Post A) (child : A) → ltb c.1.key r.start ≡ false → leb c.1.key r.end ≡ true → P child → Filled (c ∷ pre) post child
  unfolding own_kids
  own_here c pre (at_key k cs z) child t y p =
      record {
        pre' = (c.0, key_with c.1.key (w c.1) (g c.1.list)) ∷ pre;
        post' = at_key k cs z;
        child' = child;
        is = rw (t, y);
        before = (refl, refl, kids_refl pre);
        after = (refl, refl, refl);
        below = p;
      }
  own_here c pre at_end child t y p =
      record {
        pre' = (c.0, key_with c.1.key (w c.1) (g c.1.list)) ∷ pre;
        post' = at_end;
        child' = child;
        is = rw (t, y);
        before = (refl, refl, kids_refl pre);
        after = tt;
        below = p;
      }

  own_fill : (pre : List (A × Key)) (post : Post A) (child : A) → All (λ c. c.1.key ≤ r.start) pre → Greater r.start post → P child → P (f child) → Filled pre post child
  unfolding own_kids
  own_fill [] (at_key k cs z) child l u p q =
      by_test (leb k.key r.end)
      (λ y. record {
        pre' = [];
        post' = at_key (key_with k.key (w k) (g k.list)) cs z;
        child' = child;
        is = rw (lt_no k.key r.start (omega arith), y);
        before = tt;
        after = (refl, refl, refl);
        below = p;
      })
      (λ y. record { pre' = []; post' = at_key k cs z; child' = f child; is = rw (lt_no k.key r.start (omega arith), y); before = tt; after = (refl, refl, refl); below = q })
  own_fill [] at_end child l u p q = record { pre' = []; post' = at_end; child' = f child; is = refl; before = tt; after = tt; below = q }
  own_fill (c ∷ pre) post child l u p q =
      by_test (ltb c.1.key r.start)
      (λ t. own_next c pre post child t (own_fill pre post child l.1 u p q))
      (λ t. own_here c pre post child t (le_yes c.1.key r.end (omega (arith, l.0))) p)

pub own_along : (R : Leaf → Leaf → Type 0) (g : List Region → List Region) (w : Key → List ℕ) (r : Region) → r.start ≤ r.end → (h : ℕ) (t t' : Tree h) → Along R r.start h t t'
    → Along R r.start h t (own g w r h t')
unfolding own
own_along R g w r long zero t t' a = a
own_along R g w r long (suc h) t t' a =
    let o = own_fill (own g w r h) g w r long (Along R r.start h a.child) a.pre' a.post' a.child' (low_same r.start a.pre a.pre' a.before a.low)
    (high_same r.start a.post a.post' a.after a.high) a.below (own_along R g w r long h a.child a.child' a.below) in
    record {
      pre = a.pre;
      post = a.post;
      child = a.child;
      pre' = o.pre';
      post' = o.post';
      child' = o.child';
      was = a.was;
      is = ap (λ (u : Inner (Tree h)). page_at u.place (own_kids (own g w r h) g w r u.kids u.last).0 (own_kids (own g w r h) g w r u.kids u.last).1) a.is
          ∙ ap (λ p. page_at t.place p.0 p.1) o.is;
      before = kids_then a.pre a.pre' o.pre' a.before o.before;
      after = post_then a.post a.post' o.post' a.after o.after;
      low = a.low;
      high = a.high;
      below = o.below;
    }

-- THE PAGES on the way
unfoldable pub way_places : ℕ → (h : ℕ) → Tree h → List ℕ
way_places x zero t = t.place ∷ []
way_places x (suc h) t = t.place ∷ way_places x h (kid_for x t.kids t.last)

pub kid_fill : {A : Type 0} (x : ℕ) (pre : List (A × Key)) (post : Post A) (child : A) → All (λ c. c.1.key ≤ x) pre → Greater x post → kid_for x (fill_kids pre post child) (fill_last post child) ≡ child
unfolding kid_for
kid_fill x [] (at_key k cs z) child l u = rw (lt_yes x k.key u)
kid_fill x [] at_end child l u = refl
kid_fill x (c ∷ pre) (at_key k cs z) child l u = rw (lt_no x c.1.key l.0) (kid_fill x pre (at_key k cs z) child l.1 u)
kid_fill x (c ∷ pre) at_end child l u = rw (lt_no x c.1.key l.0) (kid_fill x pre at_end child l.1 u)

pub along_path : (R : Leaf → Leaf → Type 0) → ((l l' : Leaf) → R l l' → l'.place ≡ l.place) → (x h : ℕ) (t t' : Tree h) → Along R x h t t' → way_places x h t' ≡ way_places x h t
along_path R e x zero t t' a = unfold way_places in ap (λ p. p ∷ []) (e t t' a)
along_path R e x (suc h) t t' a =
    ap (way_places x (suc h)) a.is
    ∙ filled a.pre' a.post' a.child' (low_same x a.pre a.pre' a.before a.low) (high_same x a.post a.post' a.after a.high)
    ∙ ap (t.place ∷◌) (along_path R e x h a.child a.child' a.below)
    ∙ sym (ap (way_places x (suc h)) a.was ∙ filled a.pre a.post a.child a.low a.high)
  where
    filled : (pre : List (Tree h × Key)) (post : Post (Tree h)) (child : Tree h) → All (λ c. c.1.key ≤ x) pre → Greater x post
        → way_places x (suc h) (fill t.place pre post child) ≡ t.place ∷ way_places x h child
    filled pre post child l u = unfold way_places in ap (λ c. t.place ∷ way_places x h c) (kid_fill x pre post child l u)
