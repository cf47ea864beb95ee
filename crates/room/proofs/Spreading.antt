-- A save's fills: what each turn of the spreading up the path leaves of a page, from what it finds.
-- Assumes nothing.
use Prim.Native.Nat.{ℕ, zero, suc, ◌≤◌}
use mathlib.Core.Path.{◌≡◌, sym, ap, subst}
use mathlib.Core.List.{List, [], ◌∷◌, ◌++◌}
use lib.Dec.{T}
use lib.ListN.{length, length-append}
use native.Mathlib.Omega.{arith}
use Rattle.words.specs.Lists.{All}
use Rattle.words.proofs.Listed.{all_append}
use Rattle.regions.specs.declared.Region.{Region}
use Rattle.xrtree.specs.Tree.{Key, Tree, page_places}
use Rattle.xrtree.specs.Rules.{filled_below, filled}
use Rattle.xrtree.specs.Holes.{lo_after, Post, fill_kids, fill_last, fill, hi_post}
use Rattle.xrtree.specs.Holes.Post.{at_end}
use Rattle.standing.specs.Stands.{Around, Stands}
use Rattle.steps.specs.Steps.{size, KidsFilled, moved, rekeyed, ChildAt, Split}
use Rattle.room.specs.Ways.{Filled, Behind, Others, keys_behind, PageRoom, Becomes, Spread, Grown}
use Rattle.room.proofs.Fills.{every_kids, to_filled, to_root, fill_every, behind_rekeyed, size_fill, size_rekeyed}
use Rattle.room.proofs.Becoming.{becomes_both, beside, becomes_page, pages_swap, pages_child, split_page, split_becomes}

-- a page whose children are right but one, and that one is right
pub kids_right : (h q : ℕ) (pre : List (Tree h × Key)) (post : Post (Tree h)) (c : Tree h) → Others (Filled h) pre post → Filled h c → KidsFilled (suc h) (fill q pre post c)
kids_right h q pre post c o f = every_kids (filled_below h) (fill_kids pre post c) (fill_last post c) (fill_every (Filled h) pre post c o f)

pub moved_most : (h : ℕ) → moved h ≤ 1
moved_most zero = omega arith
moved_most (suc h) = omega arith

-- the children of a page around a split child
pub others_split : {A : Type 0} (P : A → Type 0) (pre : List (A × Key)) (post : Post A) (l : A) (k k' : Key) → Others P pre post → P l → Others P (pre ++ (l, k) ∷ []) (rekeyed post k')
others_split P pre post l k k' o p = (all_append (λ c. P c.0) pre ((l, k) ∷ []) o.0 (p, tt), behind_rekeyed P post k' o.1)

-- a split makes one key more
pub size_split : {A : Type 0} (pre : List (A × Key)) (post : Post A) (c l r : A) (k k' : Key) → length (fill_kids (pre ++ (l, k) ∷ []) (rekeyed post k') r) ≡ suc (length (fill_kids pre post c))
size_split pre post c l r k k' =
    omega (arith, size_fill (pre ++ (l, k) ∷ []) (rekeyed post k') r, size_fill pre post c, size_rekeyed post k', length-append pre ((l, k) ∷ []))

-- A SPLIT OF NINE: two right children
pub split_right : {w w' : List ℕ} {h q i : ℕ} (s : ChildAt w h q i) (n : Split w w' h q i 4 s) → Others (Filled h) s.pre s.post → size h s.child ≡ 9 → KidsFilled h s.child
    → KidsFilled (suc h) (split_page s n)
split_right {h = h} {q} s n o e k =
    let b = n.kids_filled k in
    let m = moved_most h in
    let f : Filled h n.left = to_filled h n.left (omega (arith, n.size_left)) (omega (arith, n.size_left)) b.0 in
    let g : Filled h n.right = to_filled h n.right (omega (arith, n.size_right)) (omega (arith, n.size_right)) b.1 in
    kids_right h q (s.pre ++ (n.left, n.key) ∷ []) (rekeyed s.post n.key') n.right (others_split (Filled h) s.pre s.post n.left n.key n.key' o f) g

-- ONE TURN at a page, whose child on the way was spread below
module _ (w w' : List ℕ) (rs : List Region) (h lo hi q : ℕ) (pre : List (Tree h × Key)) (post : Post (Tree h)) (o : Around) (c : Tree h)
    (s : Stands w rs (suc h) lo hi (fill q pre post c) o) (others : Others (Filled h) pre post) (g : Grown w w' rs h (lo_after lo pre) (hi_post hi post) (beside h q pre post o) c) where
  pub grown_becomes : Becomes w w' rs (suc h) lo hi o (fill q pre post c) (fill q pre post g.after)
  grown_becomes = becomes_page w rs h lo hi q pre post o w' c g.after s g.becomes

  -- the child in its page, for the split
  abbrev pub grown_at : (i : ℕ) → length pre ≡ i → ChildAt w' h q i
  grown_at i e = record { rs = rs; lo = lo; hi = hi; o = o; pre = pre; post = post; child = g.after; stands = grown_becomes.stands; index = e }

  -- and there is a page for it
  pub grown_room : PageRoom (suc h) (suc h) (fill q pre post c) o → PageRoom 1 (suc h) (fill q pre post g.after) o
  grown_room r =
      omega (
        arith,
        pages_swap h q pre post c g.after,
        g.pages,
        length-append (page_places (suc h) (fill q pre post c)) o.pages,
        length-append (page_places (suc h) (fill q pre post g.after)) o.pages,
      )

  pub spread_kept : size h g.after ≤ 8 → Spread w w' rs h lo hi o (fill q pre post c)
  spread_kept l =
      record {
        after = fill q pre post g.after;
        becomes = grown_becomes;
        filled = kids_right h q pre post g.after others (to_filled h g.after g.least l g.filled);
        least = omega (arith, size_fill pre post c, size_fill pre post g.after);
        most = omega (arith, size_fill pre post c, size_fill pre post g.after);
        pages = omega (arith, pages_swap h q pre post c g.after, g.pages);
      }

  pub spread_split : (w'' : List ℕ) (i : ℕ) (e : length pre ≡ i) → Split w' w'' h q i 4 (grown_at i e) → size h g.after ≡ 9 → Spread w w'' rs h lo hi o (fill q pre post c)
  spread_split w'' i e n nine =
      record {
        after = split_page (grown_at i e) n;
        becomes = becomes_both grown_becomes (split_becomes (grown_at i e) n);
        filled = split_right (grown_at i e) n others nine g.filled;
        least = omega (arith, size_split pre post c n.left n.right n.key n.key');
        most = omega (arith, size_split pre post c n.left n.right n.key n.key');
        pages = omega (arith, n.one_page, pages_swap h q pre post c g.after, g.pages);
      }

-- room for the pages below
pub room_below : (h q : ℕ) (pre : List (Tree h × Key)) (post : Post (Tree h)) (c : Tree h) (o : Around) → PageRoom (suc h) (suc h) (fill q pre post c) o → PageRoom h h c (beside h q pre post o)
room_below h q pre post c o r = omega (arith, pages_child h q pre post c o)

-- THE ROOT: where it holds nine, a new root with no key comes above it, and its only child is split
pub grown_root : {w w' : List ℕ} {h q : ℕ} (s : ChildAt w h q 0) (n : Split w w' h q 0 4 s) → s.pre ≡ [] → s.post ≡ at_end → size h s.child ≡ 9 → KidsFilled h s.child
    → T (filled (suc h) (split_page s n))
grown_root {h = h} {q} s n a b e k =
    let o : Others (Filled h) s.pre s.post = (subst (λ l. All (λ c. Filled h c.0) l) (sym a) tt, subst (λ p. Behind (Filled h) p) (sym b) tt) in
    let z = size_split s.pre s.post s.child n.left n.right n.key n.key' in
    let y = size_fill s.pre s.post s.child in
    let u : length s.pre ≡ 0 = ap length a in
    let v : keys_behind s.post ≡ 0 = ap keys_behind b in
    to_root h (split_page s n) (omega arith) (omega arith) (split_right s n o e k)
