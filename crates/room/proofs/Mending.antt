-- A delete's fills: what each turn of the mending up the path leaves of a page, from what it finds. A child of 3 is merged with a neighbour, or gets from it what it lacks: the neighbour is split, then the near part merged.
-- Assumes nothing.
use Prim.Native.Nat.{ℕ, suc, ◌+◌, ◌≤◌, ◌<◌}
use mathlib.Core.Path.{◌≡◌, refl, sym, ap, subst}
use mathlib.Core.List.{List, [], ◌∷◌, ◌++◌, append_assoc}
use lib.Dec.{T}
use lib.ListN.{length, length-append}
use native.Mathlib.Omega.{arith}
use Rattle.words.proofs.Listed.{all_append, all_left, all_right}
use Rattle.regions.specs.declared.Region.{Region}
use Rattle.xrtree.specs.Tree.{Key, Tree, page_places}
use Rattle.xrtree.specs.Rules.{filled_below, filled}
use Rattle.xrtree.specs.Claims.{page_at}
use Rattle.xrtree.specs.Holes.{lo_after, Post, fill_kids, fill_last, fill, hi_post}
use Rattle.xrtree.specs.Holes.Post.{at_key, at_end}
use Rattle.holding.specs.Held.{EveryKid}
use Rattle.standing.specs.Stands.{Around, Stands}
use Rattle.steps.specs.Steps.{size, KidsFilled, moved, rekeyed, ChildAt, Split, PairAt, Merged}
use Rattle.room.specs.Ways.{Filled, Others, Way, PageRoom, Becomes, Mended, Thinned}
use Rattle.room.proofs.Fills.{kids_every, of_filled, to_filled, as_root, fill_every, behind_rekeyed, size_fill, size_rekeyed, refocus}
use Rattle.room.proofs.Becoming.{becomes_both, beside, becomes_page, pages_swap, pages_child, split_page, split_becomes, merged_page, merged_becomes}
use Rattle.room.proofs.Spreading.{kids_right, moved_most, size_split}

pub thinned_page : (w w' : List ℕ) (rs : List Region) (x h lo hi : ℕ) (o : Around) (t : Tree (suc h)) → Way 3 8 x (suc h) t → Mended w w' rs h lo hi o t → Thinned w w' rs (suc h) lo hi o t
thinned_page w w' rs x h lo hi o t y s =
    record { after = s.after; becomes = s.becomes; filled = s.filled; least = omega (arith, s.least, y.0); most = omega (arith, s.most, y.1); pages = s.pages }

-- A PAGE UNDER WAY: its child on the way was mended below, and a split may have made one key and one page more (b)
pub record Under (b : ℕ) (w w' : List ℕ) (rs : List Region) (h lo hi : ℕ) (o : Around) (t t₁ : Tree (suc h)) : Type 0 where
  pub becomes : Becomes w w' rs (suc h) lo hi o t t₁
  pub keys : size (suc h) t₁ ≡ b + size (suc h) t
  pub pages : length (page_places (suc h) t₁) ≤ b + length (page_places (suc h) t)

pub thinned_under : (w w' : List ℕ) (rs : List Region) (h lo hi q : ℕ) (pre : List (Tree h × Key)) (post : Post (Tree h)) (o : Around) (c : Tree h)
    → Stands w rs (suc h) lo hi (fill q pre post c) o → (g : Thinned w w' rs h (lo_after lo pre) (hi_post hi post) (beside h q pre post o) c)
    → Under 0 w w' rs h lo hi o (fill q pre post c) (fill q pre post g.after)
thinned_under w w' rs h lo hi q pre post o c s g =
    record {
      becomes = becomes_page w rs h lo hi q pre post o w' c g.after s g.becomes;
      keys = omega (arith, size_fill pre post g.after, size_fill pre post c);
      pages = omega (arith, pages_swap h q pre post c g.after, g.pages);
    }

-- the same page, with the hole elsewhere
pub under_at : {b : ℕ} {w w' : List ℕ} {rs : List Region} {h lo hi : ℕ} {o : Around} {t t₁ t₂ : Tree (suc h)} → t₁ ≡ t₂ → Under b w w' rs h lo hi o t t₁ → Under b w w' rs h lo hi o t t₂
under_at {b} {w} {w'} {rs} {h} {lo} {hi} {o} {t} e u = subst (λ z. Under b w w' rs h lo hi o t z) e u

-- room for the page that a split takes for a moment: below, and here
pub thin_below : (h q : ℕ) (pre : List (Tree h × Key)) (post : Post (Tree h)) (c : Tree h) (o : Around) → PageRoom 1 (suc h) (fill q pre post c) o → PageRoom 1 h c (beside h q pre post o)
thin_below h q pre post c o r = omega (arith, pages_child h q pre post c o)

pub thin_room : {w w' : List ℕ} {rs : List Region} {h lo hi : ℕ} {o : Around} {t t₁ : Tree (suc h)} → Under 0 w w' rs h lo hi o t t₁ → PageRoom 1 (suc h) t o → PageRoom 1 (suc h) t₁ o
thin_room {h = h} {o = o} {t} {t₁} u r = omega (arith, u.pages, length-append (page_places (suc h) t) o.pages, length-append (page_places (suc h) t₁) o.pages)

-- A CHILD of a page under way
module _ (b : ℕ) (w w' : List ℕ) (rs : List Region) (h lo hi q : ℕ) (pre : List (Tree h × Key)) (post : Post (Tree h)) (o : Around) (t : Tree (suc h)) (c : Tree h)
    (u : Under b w w' rs h lo hi o t (fill q pre post c)) where
  abbrev pub child_here : (i : ℕ) → length pre ≡ i → ChildAt w' h q i
  child_here i e = record { rs = rs; lo = lo; hi = hi; o = o; pre = pre; post = post; child = c; stands = u.becomes.stands; index = e }

  -- it holds four or more: nothing to do
  pub mend_kept : b ≡ 0 → Others (Filled h) pre post → KidsFilled h c → 4 ≤ size h c → size h c ≤ 8 → Mended w w' rs h lo hi o t
  mend_kept z others k a d =
      record {
        after = fill q pre post c;
        becomes = u.becomes;
        filled = kids_right h q pre post c others (to_filled h c a d k);
        least = omega (arith, u.keys);
        most = omega (arith, u.keys);
        pages = omega (arith, u.pages);
      }

  -- it is split
  pub split_under : (w'' : List ℕ) (i m : ℕ) (e : length pre ≡ i) (n : Split w' w'' h q i m (child_here i e)) → Under (suc b) w w'' rs h lo hi o t (split_page (child_here i e) n)
  split_under w'' i m e n =
      record {
        becomes = becomes_both u.becomes (split_becomes (child_here i e) n);
        keys = omega (arith, u.keys, size_split pre post c n.left n.right n.key n.key');
        pages = omega (arith, u.pages, n.one_page);
      }

-- TWO NEIGHBOURS of a page under way: l, the key k, r
module _ (b : ℕ) (w w' : List ℕ) (rs : List Region) (h lo hi q : ℕ) (pre : List (Tree h × Key)) (post : Post (Tree h)) (o : Around) (t : Tree (suc h)) (l : Tree h) (k : Key) (r : Tree h)
    (u : Under b w w' rs h lo hi o t (fill q (pre ++ (l, k) ∷ []) post r)) where
  abbrev pub pair_here : (j : ℕ) → length pre ≡ j → PairAt w' h q j
  pair_here j e = record { rs = rs; lo = lo; hi = hi; o = o; pre = pre; post = post; left = l; key = k; right = r; stands = u.becomes.stands; index = e }

  -- a merge makes one key less
  size_merge : (c : Tree h) (k' : Key) → suc (length (fill_kids pre (rekeyed post k') c)) ≡ length (fill_kids (pre ++ (l, k) ∷ []) post r)
  size_merge c k' =
      omega (arith, size_fill pre (rekeyed post k') c, size_fill (pre ++ (l, k) ∷ []) post r, size_rekeyed post k', length-append pre ((l, k) ∷ []))

  -- they fit together: merge
  pub mend_merge : (w'' : List ℕ) (j : ℕ) (e : length pre ≡ j) (n : Merged w' w'' h q j (pair_here j e)) → b ≤ 1 → Others (Filled h) pre post → KidsFilled h l → KidsFilled h r
      → 4 ≤ size h l + moved h + size h r → size h l + moved h + size h r ≤ 8 → Mended w w'' rs h lo hi o t
  mend_merge w'' j e n one others x y a z =
      record {
        after = merged_page (pair_here j e) n;
        becomes = becomes_both u.becomes (merged_becomes (pair_here j e) n);
        filled = kids_right h q pre (rekeyed post n.key') n.joined (others.0, behind_rekeyed (Filled h) post n.key' others.1)
            (to_filled h n.joined (omega (arith, n.size_joined)) (omega (arith, n.size_joined)) (n.kids_filled x y));
        least = omega (arith, u.keys, size_merge n.joined n.key');
        most = omega (arith, u.keys, size_merge n.joined n.key');
        pages = omega (arith, u.pages, n.one_page);
      }

-- what follows the left one of two, and what follows the near part of a right one that was split
abbrev pub following : {A : Type 0} → Key → Post A → A → Post A
following k post r = at_key k (fill_kids [] post r) (fill_last post r)

-- ONE LENDS, where they do not fit in 8 together
module _ (w w' w'' : List ℕ) (rs : List Region) (h lo hi q : ℕ) (pre : List (Tree h × Key)) (post : Post (Tree h)) (o : Around) (t : Tree (suc h)) (l : Tree h) (k : Key) (r : Tree h)
    (u : Under 0 w w' rs h lo hi o t (fill q (pre ++ (l, k) ∷ []) post r)) where
  -- THE RIGHT ONE: its near part is one entry of a leaf (m is 1), or one child and no key of an inner page (m is 0)
  abbrev pub thick_right : (i : ℕ) → length (pre ++ (l, k) ∷ []) ≡ i → ChildAt w' h q i
  thick_right i e = child_here 0 w w' rs h lo hi q (pre ++ (l, k) ∷ []) post o t r u i e

  module _ (i m : ℕ) (e : length (pre ++ (l, k) ∷ []) ≡ i) (n : Split w' w'' h q i m (thick_right i e)) where
    pub lent_right : Under 1 w w'' rs h lo hi o t (fill q (pre ++ (l, k) ∷ []) (following n.key (rekeyed post n.key') n.right) n.left)
    lent_right =
        under_at (refocus q (pre ++ (l, k) ∷ []) n.left n.key (rekeyed post n.key') n.right)
        (split_under 0 w w' rs h lo hi q (pre ++ (l, k) ∷ []) post o t r u w'' i m e n)

    abbrev pub pair_left : (j : ℕ) → length pre ≡ j → PairAt w'' h q j
    pair_left j f = pair_here 1 w w'' rs h lo hi q pre (following n.key (rekeyed post n.key') n.right) o t l k n.left lent_right j f

    pub mend_lend_right : (w''' : List ℕ) (j : ℕ) (f : length pre ≡ j) → Merged w'' w''' h q j (pair_left j f) → Others (Filled h) pre post → KidsFilled h l → size h l ≡ 3
        → Filled h r → 8 < 3 + moved h + size h r → m + moved h ≡ 1 → Mended w w''' rs h lo hi o t
    mend_lend_right w''' j f g others x three y thick near =
        let v = of_filled h r y in
        let d = n.kids_filled v.2 in
        let a : Filled h n.right = to_filled h n.right (omega (arith, n.size_right, moved_most h)) (omega (arith, n.size_right)) d.1 in
        mend_merge 1 w w'' rs h lo hi q pre (following n.key (rekeyed post n.key') n.right) o t l k n.left lent_right w''' j f g (omega arith)
        (others.0, fill_every (Filled h) [] (rekeyed post n.key') n.right (tt, behind_rekeyed (Filled h) post n.key' others.1) a)
        x d.0 (omega (arith, n.size_left)) (omega (arith, n.size_left))

  -- THE LEFT ONE likewise: it keeps all but one
  pub under_left : Under 0 w w' rs h lo hi o t (fill q pre (following k post r) l)
  under_left = under_at (refocus q pre l k post r) u

  abbrev pub thick_left : (i : ℕ) → length pre ≡ i → ChildAt w' h q i
  thick_left i e = child_here 0 w w' rs h lo hi q pre (following k post r) o t l under_left i e

  module _ (i m : ℕ) (e : length pre ≡ i) (n : Split w' w'' h q i m (thick_left i e)) where
    pub lent_left : Under 1 w w'' rs h lo hi o t (fill q ((pre ++ (n.left, n.key) ∷ []) ++ (n.right, n.key') ∷ []) post r)
    lent_left =
        under_at (sym (refocus q (pre ++ (n.left, n.key) ∷ []) n.right n.key' post r))
        (split_under 0 w w' rs h lo hi q pre (following k post r) o t l under_left w'' i m e n)

    abbrev pub pair_right : (j : ℕ) → length (pre ++ (n.left, n.key) ∷ []) ≡ j → PairAt w'' h q j
    pair_right j f = pair_here 1 w w'' rs h lo hi q (pre ++ (n.left, n.key) ∷ []) post o t n.right n.key' r lent_left j f

    pub mend_lend_left : (w''' : List ℕ) (j : ℕ) (f : length (pre ++ (n.left, n.key) ∷ []) ≡ j) → Merged w'' w''' h q j (pair_right j f) → Others (Filled h) pre post → KidsFilled h r → size h r ≡ 3
        → Filled h l → 8 < size h l + moved h + 3 → suc m ≡ size h l → Mended w w''' rs h lo hi o t
    mend_lend_left w''' j f g others x three y thick near =
        let v = of_filled h l y in
        let d = n.kids_filled v.2 in
        let a : Filled h n.left = to_filled h n.left (omega (arith, n.size_left, moved_most h)) (omega (arith, n.size_left)) d.0 in
        mend_merge 1 w w'' rs h lo hi q (pre ++ (n.left, n.key) ∷ []) post o t n.right n.key' r lent_left w''' j f g (omega arith)
        (all_append (λ c. Filled h c.0) pre ((n.left, n.key) ∷ []) others.0 (a, tt), others.1)
        d.1 x (omega (arith, n.size_right)) (omega (arith, n.size_right))

-- WHICH NEIGHBOUR: the right one where a key follows the child
module _ {A : Type 0} where
  abbrev pub next_kid : List (A × Key) → A → A
  next_kid [] last = last
  next_kid (c ∷ cs) last = c.0

  abbrev pub next_post : List (A × Key) → A → Post A
  next_post [] last = at_end
  next_post (c ∷ cs) last = at_key c.1 cs last

  pub right_page : (q : ℕ) (pre : List (A × Key)) (k : Key) (cs : List (A × Key)) (last c : A) → fill q pre (at_key k cs last) c ≡ fill q (pre ++ (c, k) ∷ []) (next_post cs last) (next_kid cs last)
  right_page q pre k [] last c = refl
  right_page q pre k (d ∷ cs) last c = ap (λ z. page_at q z last) (sym (append_assoc pre ((c, k) ∷ []) (d ∷ cs)))

  pub right_others : (P : A → Type 0) (pre : List (A × Key)) (k : Key) (cs : List (A × Key)) (last : A) → Others P pre (at_key k cs last) → Others P pre (next_post cs last) × P (next_kid cs last)
  right_others P pre k [] last o = ((o.0, tt), o.1)
  right_others P pre k (d ∷ cs) last o = ((o.0, o.1.1), o.1.0)

  -- else the left one, the last of those before it
  pub record LastOf (pre : List (A × Key)) : Type 0 where
    pub init : List (A × Key)
    pub left : A
    pub key : Key
    pub whole : pre ≡ init ++ (left, key) ∷ []

  pub last_of : (c : A × Key) (cs : List (A × Key)) → LastOf (c ∷ cs)
  last_of c [] = record { init = []; left = c.0; key = c.1; whole = refl }
  last_of c (d ∷ cs) = let r = last_of d cs in record { init = c ∷ r.init; left = r.left; key = r.key; whole = ap (c ∷◌) r.whole }

  pub last_one : (pre : List (A × Key)) → 1 ≤ length pre → LastOf pre
  last_one [] l = absurd (omega arith)
  last_one (c ∷ cs) l = last_of c cs

  pub left_others : (P : A → Type 0) (init : List (A × Key)) (l : A) (k : Key) (post : Post A) → Others P (init ++ (l, k) ∷ []) post → Others P init post × P l
  left_others P init l k post o = ((all_left (λ c. P c.0) init ((l, k) ∷ []) o.0, o.1), (all_right (λ c. P c.0) init ((l, k) ∷ []) o.0).0)

  -- how many keys follow tells which
  pub record KeyOf (post : Post A) : Type 0 where
    pub key : Key
    pub kids : List (A × Key)
    pub last : A
    pub whole : post ≡ at_key key kids last

pub shrunk_root : (h : ℕ) (t : Tree (suc h)) → KidsFilled (suc h) t → size (suc h) t ≡ 0 → (t ≡ page_at t.place [] t.last) × T (filled h t.last)
shrunk_root h t k e = (ap (λ z. page_at t.place z t.last) (none t.kids e), as_root h t.last (only t.kids e (kids_every (filled_below h) t.kids t.last k)))
  where
    none : (cs : List (Tree h × Key)) → length cs ≡ 0 → cs ≡ []
    none [] e = refl
    none (c ∷ cs) e = absurd (omega arith)

    only : (cs : List (Tree h × Key)) → length cs ≡ 0 → EveryKid (Filled h) cs t.last → Filled h t.last
    only [] e f = f
    only (c ∷ cs) e f = absurd (omega arith)
