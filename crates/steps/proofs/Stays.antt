-- What stays of a page while its children change: the children beside them; a page held by its own words.
-- Assumes nothing.
use Prim.Native.Nat.{ℕ, zero, suc, ◌+◌}
use mathlib.Core.Path.{◌≡◌, refl, sym, ap, subst}
use mathlib.Core.List.{List, [], ◌∷◌, ◌++◌}
use lib.ListN.{length, length-append}
use native.Mathlib.Omega.{arith}
use Rattle.words.specs.Lists.{All, count}
use Rattle.words.proofs.Listed.{all_left, all_right, all_every}
use Rattle.words.proofs.Counted.{count_append, count_cons}
use Rattle.xrtree.specs.Tree.{Key, Inner, Tree, weave, listed, list_pages, list_records, page_places, record_places}
use Rattle.xrtree.specs.Holes.{Post, fill}
use Rattle.xrtree.proofs.Holes.{before_kids, after_kids}
use Rattle.pages.specs.Layout.{page_of, fill_of}
use Rattle.image.specs.Decode.{keys_from}
use Rattle.holding.specs.Held.{EveryKid, place_of, LeafHeld, PageHeld, Held, key_records}
use Rattle.holding.proofs.Frames.{SamePage, SameRecord, keys_frame, held_frame}
use Rattle.steps.proofs.Listed.{page_listed, pair_listed, pages_keyless}

-- THE CHILDREN BESIDE are held as before
module _ (w w' : List ℕ) (h : ℕ) where
  pub kids_stay : (g : Key → List ℕ) (cs : List (Tree h × Key)) (last : Tree h) → All (SamePage w w') (weave (listed list_pages h) (λ (k : Key). []) cs last)
      → All (SameRecord w w') (weave (listed list_records h) g cs last) → EveryKid (Held w h) cs last → EveryKid (Held w' h) cs last
  unfolding weave
  kids_stay g [] last a b e = held_frame w w' h last a b e
  kids_stay g (c ∷ cs) last a b e =
      let rb = all_right (SameRecord w w') (listed list_records h c.0) _ b in (
        held_frame w w' h c.0 (all_left (SamePage w w') (listed list_pages h c.0) _ a) (all_left (SameRecord w w') (listed list_records h c.0) _ b) e.0,
        kids_stay g cs last (all_right (SamePage w w') (listed list_pages h c.0) _ a) (all_right (SameRecord w w') (g c.1) _ rb) e.1,
      )

-- A PAGE OF ANY HEIGHT by its own words ws, its keys' lists in w₂, its children in w
abbrev pub HeldAs : List ℕ → List ℕ → List ℕ → (h : ℕ) → Tree h → Type 0
HeldAs w w₂ ws zero t = LeafHeld ws t
HeldAs w w₂ ws (suc h) t = PageHeld w₂ ws h t × EveryKid (Held w h) t.kids t.last

-- what stands below its root page: pages, and the children's records; its own keys' records
abbrev pub pages_below : (h : ℕ) → Tree h → List ℕ
pages_below zero t = []
pages_below (suc h) t = weave (listed list_pages h) (λ (k : Key). []) t.kids t.last

abbrev pub records_below : (h : ℕ) → Tree h → List ℕ
records_below zero t = []
records_below (suc h) t = weave (listed list_records h) (λ (k : Key). []) t.kids t.last

abbrev pub own_records : (h : ℕ) → Tree h → List ℕ
own_records zero t = []
own_records (suc h) t = key_records t.kids

pub pages_root : (h : ℕ) (t : Tree h) → page_places h t ≡ place_of h t ∷ pages_below h t
unfolding listed
pages_root zero t = refl
pages_root (suc h) t = refl

-- the pages of a page, by counts and in number: with one child of it, and with two
module _ (h q : ℕ) (pre : List (Tree h × Key)) (post : Post (Tree h)) where
  pub page_counts : (x : ℕ) (t : Tree h) → count x (page_places (suc h) (fill q pre post t))
      ≡ count x (q ∷ []) + count x (before_kids list_pages h pre) + count x (place_of h t ∷ []) + count x (pages_below h t) + count x (after_kids list_pages h post)
  page_counts x t =
      let b = before_kids list_pages h pre in
      let d = after_kids list_pages h post in
      let c = page_places h t in
      let e : page_places (suc h) (fill q pre post t) ≡ q ∷ (b ++ (c ++ d)) = page_listed list_pages pages_keyless h q pre post t in
      omega (
        arith,
        ap (count x) e,
        count_cons x q (b ++ (c ++ d)),
        count_append x b (c ++ d),
        count_append x c d,
        ap (count x) (pages_root h t),
        count_cons x (place_of h t) (pages_below h t),
      )

  pub pair_counts : (x : ℕ) (l r : Tree h) (k : Key) → count x (page_places (suc h) (fill q (pre ++ (l, k) ∷ []) post r))
      ≡ count x (q ∷ []) + count x (before_kids list_pages h pre) + count x (place_of h l ∷ []) + count x (pages_below h l) + count x (place_of h r ∷ []) + count x (pages_below h r)
      + count x (after_kids list_pages h post)
  pair_counts x l r k =
      let b = before_kids list_pages h pre in
      let d = after_kids list_pages h post in
      let u = page_places h l in
      let v = page_places h r in
      let e : page_places (suc h) (fill q (pre ++ (l, k) ∷ []) post r) ≡ q ∷ (b ++ ((u ++ v) ++ d)) = pair_listed list_pages pages_keyless h q pre post l r k in
      omega (
        arith,
        ap (count x) e,
        count_cons x q (b ++ ((u ++ v) ++ d)),
        count_append x b ((u ++ v) ++ d),
        count_append x (u ++ v) d,
        count_append x u v,
        ap (count x) (pages_root h l),
        ap (count x) (pages_root h r),
        count_cons x (place_of h l) (pages_below h l),
        count_cons x (place_of h r) (pages_below h r),
      )

  pub page_number : (t : Tree h) → length (page_places (suc h) (fill q pre post t)) ≡ 2 + length (before_kids list_pages h pre) + length (pages_below h t) + length (after_kids list_pages h post)
  page_number t =
      let b = before_kids list_pages h pre in
      let d = after_kids list_pages h post in
      let c = page_places h t in
      let e : page_places (suc h) (fill q pre post t) ≡ q ∷ (b ++ (c ++ d)) = page_listed list_pages pages_keyless h q pre post t in
      omega (arith, ap length e, length-append b (c ++ d), length-append c d, ap length (pages_root h t))

  pub pair_number : (l r : Tree h) (k : Key) → length (page_places (suc h) (fill q (pre ++ (l, k) ∷ []) post r))
      ≡ 3 + length (before_kids list_pages h pre) + length (pages_below h l) + length (pages_below h r) + length (after_kids list_pages h post)
  pair_number l r k =
      let b = before_kids list_pages h pre in
      let d = after_kids list_pages h post in
      let u = page_places h l in
      let v = page_places h r in
      let e : page_places (suc h) (fill q (pre ++ (l, k) ∷ []) post r) ≡ q ∷ (b ++ ((u ++ v) ++ d)) = pair_listed list_pages pages_keyless h q pre post l r k in
      omega (arith, ap length e, length-append b ((u ++ v) ++ d), length-append (u ++ v) d, length-append u v, ap length (pages_root h l), ap length (pages_root h r))

weave_counts : {A : Type 0} (x : ℕ) (f : A → List ℕ) (cs : List (A × Key)) (last : A)
    → count x (weave f (λ (k : Key). k.places) cs last) ≡ count x (key_records cs) + count x (weave f (λ (k : Key). []) cs last)
unfolding weave count
weave_counts x f [] last = omega arith
weave_counts x f (c ∷ cs) last =
    omega (
      arith,
      count_append x (f c.0) (c.1.places ++ weave f (λ (k : Key). k.places) cs last),
      count_append x c.1.places (weave f (λ (k : Key). k.places) cs last),
      count_append x (f c.0) (weave f (λ (k : Key). []) cs last),
      count_append x c.1.places (key_records cs),
      weave_counts x f cs last,
    )

pub records_parts : (x h : ℕ) (t : Tree h) → count x (record_places h t) ≡ count x (own_records h t) + count x (records_below h t)
unfolding listed count
records_parts x zero t = refl
records_parts x (suc h) t = weave_counts x (listed list_records h) t.kids t.last

-- the words of a page, and its keys' lists, where no record changed
pub words_stay : (w w' ws : List ℕ) (h : ℕ) (t : Inner (Tree h)) → ((x : ℕ) → SameRecord w w' x) → PageHeld w ws h t → PageHeld w' ws h t
words_stay w w' ws h t f g =
    record {
      fill_is = g.fill_is;
      children_are = g.children_are;
      keys_held = keys_frame w w' (keys_from ws 0 (fill_of ws)) t.kids (all_every {P = SameRecord w w'} f (key_records t.kids)) g.keys_held;
    }

pub held_stored : (w w₂ w' ws : List ℕ) (h : ℕ) (t : Tree h) → page_of w' (place_of h t) ≡ ws → ((x : ℕ) → SameRecord w₂ w' x)
    → All (SamePage w w') (pages_below h t) → All (SameRecord w w') (records_below h t) → HeldAs w w₂ ws h t → Held w' h t
held_stored w w₂ w' ws zero t e f a b g = subst (λ z. LeafHeld z t) (sym e) g
held_stored w w₂ w' ws (suc h) t e f a b g =
    (subst (λ z. PageHeld w' z h t) (sym e) (words_stay w₂ w' ws h t f g.0), kids_stay w w' h (λ (k : Key). []) t.kids t.last a b g.1)
