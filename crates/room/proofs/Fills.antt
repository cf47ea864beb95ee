-- Fills as facts, children around a hole, and the way of a position.
-- Assumes nothing.
use Prim.Native.Nat.{ℕ, zero, suc, ◌+◌, ◌≤◌}
use mathlib.Core.Path.{◌≡◌, refl, ap, ◌∙◌}
use mathlib.Core.Bool.{Bool}
use mathlib.Core.List.{List, [], ◌∷◌, ◌++◌, append_assoc}
use lib.Dec.{T, leb, leb→le, le→leb}
use lib.ListN.{length, length-append}
use native.Mathlib.Omega.{arith}
use native.Mathlib.Decide.{dec_lt}
use Rattle.words.proofs.Tests.{and_left, and_right, and_both}
use Rattle.xrtree.specs.Tree.{Key, Inner, Tree, all_kids}
use Rattle.xrtree.specs.Rules.{within, filled_below, filled}
use Rattle.xrtree.specs.Claims.{page_at}
use Rattle.xrtree.specs.Holes.{Post, fill_kids, fill_last, fill}
use Rattle.xrtree.specs.Holes.Post.{at_key, at_end}
use Rattle.holding.specs.Held.{EveryKid}
use Rattle.steps.specs.Steps.{size, KidsFilled, rekeyed}
use Rattle.room.specs.Ways.{Filled, Behind, Others, OnWay, keys_behind, KidsBut}

-- a test of every child says its statement of every child
module _ {A : Type 0} (f : A → Bool) where
  pub kids_every : (cs : List (A × Key)) (last : A) → T (all_kids f cs last) → EveryKid (λ c. T (f c)) cs last
  unfolding all_kids
  kids_every [] last t = t
  kids_every (c ∷ cs) last t = (and_left (f c.0) _ t, kids_every cs last (and_right (f c.0) _ t))

  pub every_kids : (cs : List (A × Key)) (last : A) → EveryKid (λ c. T (f c)) cs last → T (all_kids f cs last)
  unfolding all_kids
  every_kids [] last e = e
  every_kids (c ∷ cs) last e = and_both (f c.0) _ e.0 (every_kids cs last e.1)

pub of_within : (least most n : ℕ) → T (within least most n) → (least ≤ n) × (n ≤ most)
of_within least most n t = (leb→le least n (and_left (leb least n) _ t), leb→le n most (and_right (leb least n) _ t))

pub to_within : (least most n : ℕ) → least ≤ n → n ≤ most → T (within least most n)
to_within least most n a b = and_both (leb least n) _ (le→leb least n a) (le→leb n most b)

-- RIGHTLY FILLED: 4 to 8 here, and so below
pub of_filled : (h : ℕ) (t : Tree h) → Filled h t → (4 ≤ size h t) × (size h t ≤ 8) × KidsFilled h t
unfolding filled_below
of_filled zero t f = let w = of_within 4 8 (length t.entries) f in (w.0, w.1, tt)
of_filled (suc h) t f =
    let w = of_within 4 8 (length t.kids) (and_left (within 4 8 (length t.kids)) _ f) in
    (w.0, w.1, and_right (within 4 8 (length t.kids)) _ f)

pub to_filled : (h : ℕ) (t : Tree h) → 4 ≤ size h t → size h t ≤ 8 → KidsFilled h t → Filled h t
unfolding filled_below
to_filled zero t a b k = to_within 4 8 (length t.entries) a b
to_filled (suc h) t a b k = and_both (within 4 8 (length t.kids)) _ (to_within 4 8 (length t.kids) a b) k

-- of a root: 0 to 8 entries, or 1 to 8 keys
pub of_root : (h : ℕ) (t : Tree (suc h)) → T (filled (suc h) t) → (1 ≤ size (suc h) t) × (size (suc h) t ≤ 8) × KidsFilled (suc h) t
unfolding filled
of_root h t f =
    let w = of_within 1 8 (length t.kids) (and_left (within 1 8 (length t.kids)) _ f) in
    (w.0, w.1, and_right (within 1 8 (length t.kids)) _ f)

pub to_root : (h : ℕ) (t : Tree (suc h)) → 1 ≤ size (suc h) t → size (suc h) t ≤ 8 → KidsFilled (suc h) t → T (filled (suc h) t)
unfolding filled
to_root h t a b k = and_both (within 1 8 (length t.kids)) _ (to_within 1 8 (length t.kids) a b) k

pub of_root_leaf : (t : Tree 0) → T (filled 0 t) → size 0 t ≤ 8
unfolding filled
of_root_leaf t f = (of_within 0 8 (length t.entries) f).1

pub to_root_leaf : (t : Tree 0) → size 0 t ≤ 8 → T (filled 0 t)
unfolding filled
to_root_leaf t b = to_within 0 8 (length t.entries) (omega arith) b

-- what is rightly filled below a root is so as a root
pub as_root : (h : ℕ) (t : Tree h) → Filled h t → T (filled h t)
as_root zero t f = to_root_leaf t (of_filled 0 t f).1
as_root (suc h) t f = let w = of_filled (suc h) t f in to_root h t (omega arith) w.1 w.2

-- CHILDREN AROUND A HOLE
module _ {A : Type 0} where
  pub fill_every : (P : A → Type 0) (pre : List (A × Key)) (post : Post A) (t : A) → Others P pre post → P t → EveryKid P (fill_kids pre post t) (fill_last post t)
  fill_every P [] (at_key k cs last) t o p = (p, o.1)
  fill_every P [] at_end t o p = p
  fill_every P (c ∷ pre) (at_key k cs last) t o p = (o.0.0, fill_every P pre (at_key k cs last) t (o.0.1, o.1) p)
  fill_every P (c ∷ pre) at_end t o p = (o.0.0, fill_every P pre at_end t (o.0.1, o.1) p)

  pub every_fill : (P : A → Type 0) (pre : List (A × Key)) (post : Post A) (t : A) → EveryKid P (fill_kids pre post t) (fill_last post t) → Others P pre post × P t
  every_fill P [] (at_key k cs last) t e = ((tt, e.1), e.0)
  every_fill P [] at_end t e = ((tt, tt), e)
  every_fill P (c ∷ pre) (at_key k cs last) t e = let r = every_fill P pre (at_key k cs last) t e.1 in (((e.0, r.0.0), r.0.1), r.1)
  every_fill P (c ∷ pre) at_end t e = let r = every_fill P pre at_end t e.1 in (((e.0, r.0.0), r.0.1), r.1)

  pub behind_rekeyed : (P : A → Type 0) (post : Post A) (k : Key) → Behind P post → Behind P (rekeyed post k)
  behind_rekeyed P (at_key j cs last) k b = b
  behind_rekeyed P at_end k b = b

  pub size_fill : (pre : List (A × Key)) (post : Post A) (t : A) → length (fill_kids pre post t) ≡ length pre + keys_behind post
  size_fill pre (at_key k cs last) t = length-append pre ((t, k) ∷ cs)
  size_fill pre at_end t = omega arith

  pub size_rekeyed : (post : Post A) (k : Key) → keys_behind (rekeyed post k) ≡ keys_behind post
  size_rekeyed (at_key j cs last) k = refl
  size_rekeyed at_end k = refl

  -- the hole moved to the neighbour
  pub refocus : (q : ℕ) (pre : List (A × Key)) (l : A) (k : Key) (post : Post A) (r : A)
      → fill q (pre ++ (l, k) ∷ []) post r ≡ fill q pre (at_key k (fill_kids [] post r) (fill_last post r)) l
  refocus q pre l k (at_key j cs last) r = ap (λ z. page_at q z last) (append_assoc pre ((l, k) ∷ []) ((r, j) ∷ cs))
  refocus q pre l k at_end r = refl

-- THE WAY: the child that x belongs to, as a hole
pub record WayIn {A : Type 0} (x q : ℕ) (cs : List (A × Key)) (last : A) : Type 0 where
  pub pre : List (A × Key)
  pub post : Post A
  pub child : A
  pub page_is : page_at q cs last ≡ fill q pre post child
  pub on_way : OnWay x pre post

module _ {A : Type 0} where
  pub way_in : (x q : ℕ) (cs : List (A × Key)) (last : A) → WayIn x q cs last
  way_in x q [] last = record { pre = []; post = at_end; child = last; page_is = refl; on_way = (tt, tt) }
  way_in x q (c ∷ cs) last =
      elim (dec_lt x c.1.key) [
        | yes l ↦ record { pre = []; post = at_key c.1 cs last; child = c.0; page_is = refl; on_way = (tt, l) }
        | no l ↦
            let r = way_in x q cs last in
            record {
              pre = c ∷ r.pre;
              post = r.post;
              child = r.child;
              page_is = ap (λ (p : Inner A). page_at q (c ∷ p.kids) p.last) r.page_is ∙ longer c r.pre r.post r.child;
              on_way = ((omega arith, r.on_way.0), r.on_way.1);
            }
      ]
    where
      longer : (c : A × Key) (pre : List (A × Key)) (post : Post A) (t : A) → page_at q (c ∷ fill_kids pre post t) (fill_last post t) ≡ fill q (c ∷ pre) post t
      longer c pre (at_key k cs last) t = refl
      longer c pre at_end t = refl

  module _ (P Q : A → Type 0) (x : ℕ) where
    pub but_hole : (pre : List (A × Key)) (post : Post A) (t : A) → OnWay x pre post → KidsBut P Q x (fill_kids pre post t) (fill_last post t) → Others P pre post × Q t
    but_hole [] (at_key k cs last) t w b = let r = b.0 w.1 in ((tt, r.1), r.0)
    but_hole [] at_end t w b = ((tt, tt), b)
    but_hole (c ∷ pre) (at_key k cs last) t w b =
        let r = b.1 w.0.0 in
        let n = but_hole pre (at_key k cs last) t (w.0.1, w.1) r.1 in
        (((r.0, n.0.0), n.0.1), n.1)
    but_hole (c ∷ pre) at_end t w b =
        let r = b.1 w.0.0 in
        let n = but_hole pre at_end t (w.0.1, w.1) r.1 in
        (((r.0, n.0.0), n.0.1), n.1)

    pub hole_but : (pre : List (A × Key)) (post : Post A) (t : A) → OnWay x pre post → Others P pre post → Q t → KidsBut P Q x (fill_kids pre post t) (fill_last post t)
    hole_but [] (at_key k cs last) t w o n = ((λ l. (n, o.1)), (λ g. absurd (let l = w.1 in omega arith)))
    hole_but [] at_end t w o n = n
    hole_but (c ∷ pre) (at_key k cs last) t w o n =
        ((λ l. absurd (let g = w.0.0 in omega arith)), (λ g. (o.0.0, hole_but pre (at_key k cs last) t (w.0.1, w.1) (o.0.1, o.1) n)))
    hole_but (c ∷ pre) at_end t w o n =
        ((λ l. absurd (let g = w.0.0 in omega arith)), (λ g. (o.0.0, hole_but pre at_end t (w.0.1, w.1) (o.0.1, o.1) n)))
