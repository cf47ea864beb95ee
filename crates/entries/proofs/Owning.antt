-- The owner of a region: the tree around its page, and what the words of a path say of it.
-- Assumes nothing.
use Rattle.std.specs.Prelude.{Option}
use Prim.Native.Nat.{ℕ, zero, suc, ◌+◌, ◌≤◌}
use mathlib.Core.Path.{◌≡◌, refl, sym, ap, ◌∙◌, subst}
use mathlib.Core.Bool.{true, cond}
use mathlib.Core.List.{List, [], ◌∷◌, ◌++◌}
use lib.Dec.{ltb, leb}
use lib.ListN.{length, get_or}
use native.Mathlib.Omega.{arith}
use Rattle.words.proofs.Tests.{by_test, lt_of, nlt_of, nle_of, lt_yes, lt_no}
use Rattle.regions.specs.declared.Region.{Region}
use Rattle.pages.specs.Layout.{page_of, fill_of, key_word, child_in}
use Rattle.xrtree.specs.Tree.{Key, Inner, Tree}
use Rattle.xrtree.specs.Claims.{page_at}
use Rattle.xrtree.specs.Moves.{key_with, own_kids, own}
use Rattle.xrtree.specs.Holes.{Post, fill_kids, fill_last, fill}
use Rattle.xrtree.specs.Holes.Post.{at_key, at_end}
use Rattle.image.specs.Read.{kids_from, read_tree}
use Rattle.path.specs.Path.{rank_from, rank_in, child_for}
use Rattle.owners.specs.Owners.{nobody, spot_at, below_from, below_in, owns_at, owner_along}
use Rattle.owners.specs.declared.Spot.{Spot}
use Rattle.entries.specs.Ways.{Below, within}
use Rattle.entries.specs.Ways.Below.{here, down}
use Rattle.entries.specs.Owners.{spot_kids, spot_of, inside_from}

-- THE WORDS of a path say the tree's owner
module _ {A : Type 0} (child : ℕ → A) (w ws : List ℕ) (f : A → Option Spot) (s e q : ℕ) (l : s ≤ e) where
  kids_spot : (i m : ℕ) → spot_kids f s e q i (kids_from child w ws i m) (child (child_in ws (i + m)))
      ≡ cond (owns_at ws e (i + m) (below_from ws s i m)) (spot_at q (below_from ws s i m)) (f (child (child_in ws (rank_from ws s i m))))
  unfolding spot_kids kids_from below_from rank_from
  kids_spot i zero = let z : i + 0 ≡ i = omega arith in rw (z, lt_no i i (omega arith))
  kids_spot i (suc m) =
      let z : i + suc m ≡ suc i + m = omega arith in
      let k = get_or ws (key_word i) 0 in
      by_test (ltb k s)
      (λ t. let u = lt_of k s t in rw (t, lt_no s k (omega arith), z) (kids_spot (suc i) m))
      (λ t.
      let u = nlt_of k s t in
      rw (t, lt_yes i (i + suc m) (omega arith))
      (by_test (leb k e) (λ y. rw y) (λ y. let v = nle_of k e y in rw (y, lt_yes s k (omega arith)))))

pub owner_read : (w : List ℕ) (s e : ℕ) → s ≤ e → (h p : ℕ) → owner_along w s e (inside_from h w s p) ≡ spot_of s e h (read_tree h w p)
unfolding owner_along inside_from spot_of read_tree below_in rank_in
owner_read w s e l zero p = refl
owner_read w s e l (suc h) p =
    let n = fill_of (page_of w p) in
    let z : 0 + n ≡ n = omega arith in
    ap (λ x. cond (owns_at (page_of w p) e n (below_from (page_of w p) s 0 n)) (spot_at p (below_from (page_of w p) s 0 n)) x) (owner_read w s e l h (child_for w s p))
    ∙ sym (rw z at (kids_spot (read_tree h w) w (page_of w p) (spot_of s e h) s e p l 0 n))

-- A PAGE: a key of it owns, or the way goes on into a child
module _ (r : Region) {A : Type 0} where
  record Turns (cs : List (A × Key)) (last : A) (child : A) : Type 0 where
    pre : List (A × Key)
    post : Post A
    kids : cs ≡ fill_kids pre post child
    end : last ≡ fill_last post child
    becomes : (f : A → A) (g : List Region → List Region) (w : Key → List ℕ) → own_kids f g w r cs last ≡ (fill_kids pre post (f child), fill_last post (f child))

  record Mine (cs : List (A × Key)) (last : A) (i : ℕ) : Type 0 where
    pre : List (A × Key)
    kid : A
    key : Key
    post : List (A × Key)
    kids : cs ≡ pre ++ (kid, key) ∷ post
    index : length pre ≡ i
    becomes : (f : A → A) (g : List Region → List Region) (w : Key → List ℕ) → own_kids f g w r cs last ≡ (pre ++ (kid, key_with key.key (w key) (g key.list)) ∷ post, last)

  data Found (cs : List (A × Key)) (last : A) (f : A → Option Spot) (q i : ℕ) (x : Option Spot) : Type 0 where
    turns : (child : A) → x ≡ f child → Turns cs last child → Found cs last f q i x
    mine : (j : ℕ) → x ≡ spot_at q (i + j) → Mine cs last j → Found cs last f q i x

  turn_next : (c : A × Key) (cs : List (A × Key)) (last child : A) → ltb c.1.key r.start ≡ true → Turns cs last child → Turns (c ∷ cs) last child
  unfolding own_kids
  turn_next c cs last child t k = go k.post k.kids k.end k.becomes
    where
      go : (post : Post A) → cs ≡ fill_kids k.pre post child → last ≡ fill_last post child
          → ((f : A → A) (g : List Region → List Region) (w : Key → List ℕ) → own_kids f g w r cs last ≡ (fill_kids k.pre post (f child), fill_last post (f child))) → Turns (c ∷ cs) last child
      go (at_key j ds z) e d b = record { pre = c ∷ k.pre; post = at_key j ds z; kids = ap (c ∷◌) e; end = d; becomes = λ f g w. rw t (ap (λ p. (c ∷ p.0, p.1)) (b f g w)) }
      go at_end e d b = record { pre = c ∷ k.pre; post = at_end; kids = ap (c ∷◌) e; end = d; becomes = λ f g w. rw t (ap (λ p. (c ∷ p.0, p.1)) (b f g w)) }

  mine_next : (c : A × Key) (cs : List (A × Key)) (last : A) (j : ℕ) → ltb c.1.key r.start ≡ true → Mine cs last j → Mine (c ∷ cs) last (suc j)
  unfolding own_kids
  mine_next c cs last j t k =
      record {
        pre = c ∷ k.pre;
        kid = k.kid;
        key = k.key;
        post = k.post;
        kids = ap (c ∷◌) k.kids;
        index = ap suc k.index;
        becomes = λ f g w. rw t (ap (λ p. (c ∷ p.0, p.1)) (k.becomes f g w));
      }

  found_next : (c : A × Key) (cs : List (A × Key)) (last : A) (f : A → Option Spot) (q i : ℕ) (x : Option Spot) → ltb c.1.key r.start ≡ true → Found cs last f q (suc i) x → Found (c ∷ cs) last f q i x
  found_next c cs last f q i x t (turns child e k) = turns child e (turn_next c cs last child t k)
  found_next c cs last f q i x t (mine j e k) = let z : suc i + j ≡ i + suc j = omega arith in mine (suc j) (e ∙ ap (spot_at q) z) (mine_next c cs last j t k)

  found_in : (f : A → Option Spot) (q i : ℕ) (cs : List (A × Key)) (last : A) → Found cs last f q i (spot_kids f r.start r.end q i cs last)
  unfolding spot_kids own_kids
  found_in f q i [] last = turns last refl (record { pre = []; post = at_end; kids = refl; end = refl; becomes = λ f g w. refl })
  found_in f q i (c ∷ cs) last =
      by_test (ltb c.1.key r.start)
      (λ t. rw t (found_next c cs last f q i (spot_kids f r.start r.end q (suc i) cs last) t (found_in f q (suc i) cs last)))
      (λ t.
      rw t (by_test (leb c.1.key r.end)
      (λ y. let z : i + 0 ≡ i = omega arith in
      mine 0 (rw (y, z)) (record { pre = []; kid = c.0; key = c.1; post = cs; kids = refl; index = refl; becomes = λ f g w. rw (t, y) }))
      (λ y. turns c.0 (rw y) (record { pre = []; post = at_key c.1 cs last; kids = refl; end = refl; becomes = λ f g w. rw (t, y) }))))

-- A TREE: nobody owns the region and nothing changes, or a key of a page does and its list alone changes
pub record Owner (r : Region) (h : ℕ) (t : Tree h) (q i : ℕ) : Type 0 where
  pub depth : ℕ
  pub around : Below (suc depth) h
  pub pre : List (Tree depth × Key)
  pub kid : Tree depth
  pub key : Key
  pub post : List (Tree depth × Key)
  pub last : Tree depth
  pub index : length pre ≡ i
  pub was : t ≡ within around (page_at q (pre ++ (kid, key) ∷ post) last)
  pub becomes : (g : List Region → List Region) (w : Key → List ℕ) → own g w r h t ≡ within around (page_at q (pre ++ (kid, key_with key.key (w key) (g key.list)) ∷ post) last)

pub data Owns (r : Region) (h : ℕ) (t : Tree h) (x : Option Spot) : Type 0 where
  none : x ≡ nobody → ((g : List Region → List Region) (w : Key → List ℕ) → own g w r h t ≡ t) → Owns r h t x
  some : (q i : ℕ) → x ≡ spot_at q i → Owner r h t q i → Owns r h t x

page_owns : (r : Region) (h : ℕ) (t : Inner (Tree h)) (child : Tree h) (x : Option Spot) → Turns r t.kids t.last child → Owns r h child x → Owns r (suc h) t x
unfolding own within
page_owns r h t child x k (none e f) =
    none e
    (λ g w. ap (λ p. page_at t.place p.0 p.1) (k.becomes (own g w r h) g w) ∙ ap (λ u. fill t.place k.pre k.post u) (f g w)
    ∙ sym (λ i. record { place = t.place; kids = k.kids i; last = k.end i }))
page_owns r h t child x k (some q i e o) =
    some q i e
    (record {
      depth = o.depth;
      around = down t.place k.pre k.post o.around;
      pre = o.pre;
      kid = o.kid;
      key = o.key;
      post = o.post;
      last = o.last;
      index = o.index;
      was = (λ i. record { place = t.place; kids = k.kids i; last = k.end i }) ∙ ap (λ u. fill t.place k.pre k.post u) o.was;
      becomes = λ g w. ap (λ p. page_at t.place p.0 p.1) (k.becomes (own g w r h) g w) ∙ ap (λ u. fill t.place k.pre k.post u) (o.becomes g w);
    })

found_owns : (r : Region) (h : ℕ) (t : Inner (Tree h)) (x : Option Spot) → ((c : Tree h) → Owns r h c (spot_of r.start r.end h c))
    → Found r t.kids t.last (spot_of r.start r.end h) t.place 0 x → Owns r (suc h) t x
unfolding own within
found_owns r h t x ih (turns child e k) = page_owns r h t child x k (subst (Owns r h child) (sym e) (ih child))
found_owns r h t x ih (mine j e k) =
    let z : 0 + j ≡ j = omega arith in
    some t.place j (e ∙ ap (spot_at t.place) z)
    (record {
      depth = h;
      around = here;
      pre = k.pre;
      kid = k.kid;
      key = k.key;
      post = k.post;
      last = t.last;
      index = k.index;
      was = λ i. record { place = t.place; kids = k.kids i; last = t.last };
      becomes = λ g w. ap (λ p. page_at t.place p.0 p.1) (k.becomes (own g w r h) g w);
    })

pub owner_of : (r : Region) (h : ℕ) (t : Tree h) → Owns r h t (spot_of r.start r.end h t)
unfolding spot_of own
owner_of r zero t = none refl (λ g w. refl)
owner_of r (suc h) t = found_owns r h t _ (λ c. owner_of r h c) (found_in r (spot_of r.start r.end h) t.place 0 t.kids t.last)
