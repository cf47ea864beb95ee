-- The way of a start down to its leaf: the tree around the leaf, and what a change of the leaf keeps.
-- Assumes nothing.
use Prim.Native.Nat.{ℕ, zero, suc, ◌≤◌, ◌<◌}
use mathlib.Core.Path.{◌≡◌, refl, ap, ◌∙◌}
use mathlib.Core.Bool.{false}
use mathlib.Core.List.{List, [], ◌∷◌}
use lib.Dec.{ltb}
use native.Mathlib.Omega.{arith}
use Rattle.words.specs.Lists.{All}
use Rattle.words.proofs.Tests.{by_test, lt_of, nlt_of}
use Rattle.xrtree.specs.Tree.{Entry, Key, Leaf, Tree}
use Rattle.xrtree.specs.Claims.{page_at, Page, Claim}
use Rattle.xrtree.specs.Holes.{Post, fill_kids, fill_last, fill}
use Rattle.xrtree.specs.Holes.Post.{at_key, at_end}
use Rattle.image.specs.Read.{read_tree}
use Rattle.pages.specs.Layout.{page_of}
use Rattle.path.specs.Path.{child_for, down_to, kid_for}
use Rattle.path.proofs.Ranks.{kid_rank}
use Rattle.entries.specs.Ways.{Below, within, Greater, On, leaf_on, kids_at, at_leaf}
use Rattle.entries.specs.Ways.Below.{here, down}

-- A PAGE: the child on x's way
pub record KidWay (x : ℕ) {A : Type 0} (cs : List (A × Key)) (last : A) : Type 0 where
  pub pre : List (A × Key)
  pub post : Post A
  pub kids : cs ≡ fill_kids pre post (kid_for x cs last)
  pub end : last ≡ fill_last post (kid_for x cs last)
  pub becomes : (f : A → A) → kids_at f x cs last ≡ (fill_kids pre post (f (kid_for x cs last)), fill_last post (f (kid_for x cs last)))
  pub low : All (λ k. k.1.key ≤ x) pre
  pub high : Greater x post

pub kid_way : (x : ℕ) {A : Type 0} (cs : List (A × Key)) (last : A) → KidWay x cs last
unfolding kid_for kids_at
kid_way x {A} [] last = record { pre = []; post = at_end; kids = refl; end = refl; becomes = λ f. refl; low = tt; high = tt }
kid_way x {A} (c ∷ cs) last =
    by_test (ltb x c.1.key)
    (λ t. record { pre = []; post = at_key c.1 cs last; kids = rw t; end = refl; becomes = λ f. rw t; low = tt; high = lt_of x c.1.key t })
    (λ t. later (kid_way x cs last) t)
  where
    later : KidWay x cs last → ltb x c.1.key ≡ false → KidWay x (c ∷ cs) last
    later k t = go k.post k.kids k.end k.becomes k.high
      where
        go : (post : Post A) → cs ≡ fill_kids k.pre post (kid_for x cs last) → last ≡ fill_last post (kid_for x cs last)
            → ((f : A → A) → kids_at f x cs last ≡ (fill_kids k.pre post (f (kid_for x cs last)), fill_last post (f (kid_for x cs last)))) → Greater x post → KidWay x (c ∷ cs) last
        go (at_key j ds z) e d b g =
            record { pre = c ∷ k.pre; post = at_key j ds z; kids = rw t (ap (c ∷◌) e); end = d; becomes = λ f. rw t (ap (λ p. (c ∷ p.0, p.1)) (b f)); low = (nlt_of x c.1.key t, k.low); high = g }
        go at_end e d b g =
            record { pre = c ∷ k.pre; post = at_end; kids = ap (c ∷◌) e; end = rw t d; becomes = λ f. rw t (ap (λ p. (c ∷ p.0, p.1)) (b f)); low = (nlt_of x c.1.key t, k.low); high = tt }

-- A TREE
pub record Way (x h : ℕ) (t : Tree h) : Type 0 where
  pub around : Below 0 h
  pub on : On x around
  pub was : t ≡ within around (leaf_on x h t)
  pub becomes : (f : Leaf → Leaf) → at_leaf f x h t ≡ within around (f (leaf_on x h t))

pub way_of : (x h : ℕ) (t : Tree h) → Way x h t
unfolding leaf_on at_leaf within
way_of x zero t = record { around = here; on = tt; was = refl; becomes = λ f. refl }
way_of x (suc h) t =
    let k = kid_way x t.kids t.last in
    let d = way_of x h (kid_for x t.kids t.last) in
    record {
      around = down t.place k.pre k.post d.around;
      on = (k.low, k.high, d.on);
      was = (λ i. record { place = t.place; kids = k.kids i; last = k.end i }) ∙ ap (λ u. fill t.place k.pre k.post u) d.was;
      becomes = λ f. ap (λ p. page_at t.place p.0 p.1) (k.becomes (at_leaf f x h)) ∙ ap (λ u. fill t.place k.pre k.post u) (d.becomes f);
    }

-- in the words: the page at the end of the path
pub leaf_read : (w : List ℕ) (x h p : ℕ) → leaf_on x h (read_tree h w p) ≡ read_tree 0 w (down_to h w x p)
unfolding leaf_on read_tree down_to
leaf_read w x zero p = refl
leaf_read w x (suc h) p = ap (leaf_on x h) (kid_rank (read_tree h w) w (page_of w p) x) ∙ leaf_read w x h (child_for w x p)

-- CLAIMS: what a change of the leaf keeps there, it keeps of the tree
module _ (Q : ℕ → ℕ → Key → Type 0) (L : ℕ → ℕ → List Entry → Type 0) (f : Leaf → Leaf) (x : ℕ)
    (keep : (lo hi : ℕ) (l : Leaf) → lo ≤ suc x → x < hi → L lo hi l.entries → L lo hi (f l).entries) where
  at_page : (h : ℕ) → ((lo hi : ℕ) (c : Tree h) → lo ≤ suc x → x < hi → Claim Q L h lo hi c → Claim Q L h lo hi (at_leaf f x h c))
      → (lo hi : ℕ) (cs : List (Tree h × Key)) (last : Tree h) → lo ≤ suc x → x < hi
      → Page Q (Claim Q L h) lo hi cs last → Page Q (Claim Q L h) lo hi (kids_at (at_leaf f x h) x cs last).0 (kids_at (at_leaf f x h) x cs last).1
  unfolding kids_at
  at_page h ih lo hi [] last a b p = ih lo hi last a b p
  at_page h ih lo hi (c ∷ cs) last a b p =
      by_test (ltb x c.1.key)
      (λ t. rw t (p.0, ih lo c.1.key c.0 a (lt_of x c.1.key t) p.1, p.2))
      (λ t. let u = nlt_of x c.1.key t in rw t (p.0, p.1, at_page h ih (suc c.1.key) hi cs last (omega arith) b p.2))

  pub at_claim : (h lo hi : ℕ) (t : Tree h) → lo ≤ suc x → x < hi → Claim Q L h lo hi t → Claim Q L h lo hi (at_leaf f x h t)
  unfolding at_leaf
  at_claim zero lo hi t a b p = keep lo hi t a b p
  at_claim (suc h) lo hi t a b p = at_page h (λ lo hi c a b p. at_claim h lo hi c a b p) lo hi t.kids t.last a b p
