-- A part of a tree in its place: what holds there, and that another part at the same place makes the whole tree held again.
-- Assumes nothing.
use Prim.Native.Nat.{ℕ, zero, suc}
use mathlib.Core.Path.{◌≡◌, refl, sym, ap, ◌∙◌}
use mathlib.Core.List.{List, [], ◌∷◌}
use lib.ListN.{length, length-append}
use Rattle.words.specs.Lists.{All}
use Rattle.words.proofs.Listed.{all_left, all_right, all_append}
use Rattle.xrtree.specs.Tree.{Key, Tree, weave, listed, list_pages, list_records}
use Rattle.xrtree.specs.Holes.{Post, fill_kids, fill_last, fill, up, Ctx, plug}
use Rattle.xrtree.proofs.Holes.{before, after, before_kids, after_kids}
use Rattle.xrtree.specs.Holes.Post.{at_key, at_end}
use Rattle.pages.specs.Layout.{fill_of}
use Rattle.image.specs.Decode.{keys_from}
use Rattle.pages.specs.declared.KeyWords.{KeyWords}
use Rattle.holding.specs.Held.{KeysHeld, kid_places, EveryKid, place_of, PageHeld, Held, key_records}
use Rattle.holding.proofs.Frames.{SamePage, SameRecord, own_records_lem, page_frame, held_frame}

-- the place of a whole tree around a hole is that of its top page, or the hole's own
pub place_plug : (d m : ℕ) (c : Ctx d m) (t t' : Tree m) → place_of m t' ≡ place_of m t → place_of (up d m) (plug d m c t') ≡ place_of (up d m) (plug d m c t)
place_plug zero m c t t' e = e
place_plug (suc d) m c t t' e = refl

-- A PAGE with another child at the same place
module _ {A : Type 0} where
  places_refill : (place : A → ℕ) (pre : List (A × Key)) (post : Post A) (u u' : A) → place u' ≡ place u
      → kid_places place (fill_kids pre post u) (fill_last post u) ≡ kid_places place (fill_kids pre post u') (fill_last post u')
  places_refill place [] (at_key k cs last) u u' e = ap (λ x. x ∷ kid_places place cs last) (sym e)
  places_refill place [] at_end u u' e = ap (λ x. x ∷ []) (sym e)
  places_refill place (c ∷ pre) (at_key k cs last) u u' e = ap (place c.0 ∷◌) (places_refill place pre (at_key k cs last) u u' e)
  places_refill place (c ∷ pre) at_end u u' e = ap (place c.0 ∷◌) (places_refill place pre at_end u u' e)

  keys_refill : (w : List ℕ) (xs : List KeyWords) (pre : List (A × Key)) (post : Post A) (u u' : A) → KeysHeld w xs (fill_kids pre post u) → KeysHeld w xs (fill_kids pre post u')
  keys_refill w [] [] (at_key k cs last) u u' g = g
  keys_refill w [] [] at_end u u' g = g
  keys_refill w [] (c ∷ pre) (at_key k cs last) u u' g = g
  keys_refill w [] (c ∷ pre) at_end u u' g = g
  keys_refill w (x ∷ xs) [] (at_key k cs last) u u' g = g
  keys_refill w (x ∷ xs) [] at_end u u' g = g
  keys_refill w (x ∷ xs) (c ∷ pre) (at_key k cs last) u u' g = (g.0, keys_refill w xs pre (at_key k cs last) u u' g.1)
  keys_refill w (x ∷ xs) (c ∷ pre) at_end u u' g = (g.0, keys_refill w xs pre at_end u u' g.1)

  long_refill : (pre : List (A × Key)) (post : Post A) (u u' : A) → length (fill_kids pre post u) ≡ length (fill_kids pre post u')
  long_refill pre (at_key k cs last) u u' = length-append pre ((u, k) ∷ cs) ∙ sym (length-append pre ((u', k) ∷ cs))
  long_refill pre at_end u u' = refl

  pub every_hole : (P : A → Type 0) (pre : List (A × Key)) (post : Post A) (u : A) → EveryKid P (fill_kids pre post u) (fill_last post u) → P u
  every_hole P [] (at_key k cs last) u g = g.0
  every_hole P [] at_end u g = g
  every_hole P (c ∷ pre) (at_key k cs last) u g = every_hole P pre (at_key k cs last) u g.1
  every_hole P (c ∷ pre) at_end u g = every_hole P pre at_end u g.1

pub page_refill : (w ws : List ℕ) (h q : ℕ) (pre : List (Tree h × Key)) (post : Post (Tree h)) (u u' : Tree h) → place_of h u' ≡ place_of h u
    → PageHeld w ws h (fill q pre post u) → PageHeld w ws h (fill q pre post u')
page_refill w ws h q pre post u u' e g =
    record {
      fill_is = g.fill_is ∙ long_refill pre post u u';
      children_are = g.children_are ∙ places_refill (place_of h) pre post u u' e;
      keys_held = keys_refill w (keys_from ws 0 (fill_of ws)) pre post u u' g.keys_held;
    }

-- the children beside the hole are held as before, and the hole holds something else
module _ (w w' : List ℕ) (h : ℕ) where
  rest_frame : (cs : List (Tree h × Key)) (last : Tree h) → All (SamePage w w') (weave (listed list_pages h) (λ (k : Key). []) cs last)
      → All (SameRecord w w') (weave (listed list_records h) (λ (k : Key). k.places) cs last) → EveryKid (Held w h) cs last → EveryKid (Held w' h) cs last
  unfolding weave
  rest_frame [] last a b g = held_frame w w' h last a b g
  rest_frame (c ∷ cs) last a b g =
      let rb = all_right (SameRecord w w') (listed list_records h c.0) _ b in (
        held_frame w w' h c.0 (all_left (SamePage w w') (listed list_pages h c.0) _ a) (all_left (SameRecord w w') (listed list_records h c.0) _ b) g.0,
        rest_frame cs last (all_right (SamePage w w') (listed list_pages h c.0) _ a) (all_right (SameRecord w w') c.1.places _ rb) g.1,
      )

  every_refill : (pre : List (Tree h × Key)) (post : Post (Tree h)) (u u' : Tree h)
      → All (SamePage w w') (before_kids list_pages h pre) → All (SamePage w w') (after_kids list_pages h post)
      → All (SameRecord w w') (before_kids list_records h pre) → All (SameRecord w w') (after_kids list_records h post)
      → EveryKid (Held w h) (fill_kids pre post u) (fill_last post u) → Held w' h u' → EveryKid (Held w' h) (fill_kids pre post u') (fill_last post u')
  every_refill [] (at_key k cs last) u u' a b x y g n = (n, rest_frame cs last b (all_right (SameRecord w w') k.places _ y) g.1)
  every_refill [] at_end u u' a b x y g n = n
  every_refill (c ∷ pre) (at_key k cs last) u u' a b x y g n =
      let rx = all_right (SameRecord w w') (listed list_records h c.0) _ x in (
        held_frame w w' h c.0 (all_left (SamePage w w') (listed list_pages h c.0) _ a) (all_left (SameRecord w w') (listed list_records h c.0) _ x) g.0,
        every_refill pre (at_key k cs last) u u' (all_right (SamePage w w') (listed list_pages h c.0) _ a) b (all_right (SameRecord w w') c.1.places _ rx) y g.1 n,
      )
  every_refill (c ∷ pre) at_end u u' a b x y g n =
      let rx = all_right (SameRecord w w') (listed list_records h c.0) _ x in (
        held_frame w w' h c.0 (all_left (SamePage w w') (listed list_pages h c.0) _ a) (all_left (SameRecord w w') (listed list_records h c.0) _ x) g.0,
        every_refill pre at_end u u' (all_right (SamePage w w') (listed list_pages h c.0) _ a) b (all_right (SameRecord w w') c.1.places _ rx) y g.1 n,
      )

  own_before : (pre : List (Tree h × Key)) (post : Post (Tree h)) (u : Tree h) → All (SameRecord w w') (before_kids list_records h pre) → All (SameRecord w w') (after_kids list_records h post)
      → All (SameRecord w w') (key_records (fill_kids pre post u))
  own_before [] (at_key k cs last) u x y =
      all_append (SameRecord w w') k.places (key_records cs) (all_left (SameRecord w w') k.places _ y)
      (own_records_lem (SameRecord w w') (listed list_records h) cs last (all_right (SameRecord w w') k.places _ y))
  own_before [] at_end u x y = tt
  own_before (c ∷ pre) (at_key k cs last) u x y =
      let rx = all_right (SameRecord w w') (listed list_records h c.0) _ x in
      all_append (SameRecord w w') c.1.places _ (all_left (SameRecord w w') c.1.places _ rx) (own_before pre (at_key k cs last) u (all_right (SameRecord w w') c.1.places _ rx) y)
  own_before (c ∷ pre) at_end u x y =
      let rx = all_right (SameRecord w w') (listed list_records h c.0) _ x in
      all_append (SameRecord w w') c.1.places _ (all_left (SameRecord w w') c.1.places _ rx) (own_before pre at_end u (all_right (SameRecord w w') c.1.places _ rx) y)

-- THE HOLE
pub record Hole (w w' : List ℕ) (d m : ℕ) (c : Ctx d m) (t : Tree m) : Type 0 where
  pub here : Held w m t
  pub refill : (t' : Tree m) → place_of m t' ≡ place_of m t → Held w' m t' → Held w' (up d m) (plug d m c t')

pub held_hole : (w w' : List ℕ) (d m : ℕ) (c : Ctx d m) (t : Tree m) → All (SamePage w w') (before list_pages d m c) → All (SamePage w w') (after list_pages d m c)
    → All (SameRecord w w') (before list_records d m c) → All (SameRecord w w') (after list_records d m c) → Held w (up d m) (plug d m c t) → Hole w w' d m c t
held_hole w w' zero m c t a b x y g = record { here = g; refill = λ t' e n. n }
held_hole w w' (suc d) m c t a b x y g =
    let u = plug d m c.3 t in
    let pa = all_left (SamePage w w') (before_kids list_pages (up d m) c.1) (before list_pages d m c.3) a.1 in
    let pb = all_right (SamePage w w') (after list_pages d m c.3) (after_kids list_pages (up d m) c.2) b in
    let px = all_left (SameRecord w w') (before_kids list_records (up d m) c.1) (before list_records d m c.3) x in
    let py = all_right (SameRecord w w') (after list_records d m c.3) (after_kids list_records (up d m) c.2) y in
    let r = held_hole w w' d m c.3 t
    (all_right (SamePage w w') (before_kids list_pages (up d m) c.1) (before list_pages d m c.3) a.1)
    (all_left (SamePage w w') (after list_pages d m c.3) (after_kids list_pages (up d m) c.2) b)
    (all_right (SameRecord w w') (before_kids list_records (up d m) c.1) (before list_records d m c.3) x)
    (all_left (SameRecord w w') (after list_records d m c.3) (after_kids list_records (up d m) c.2) y)
    (every_hole (Held w (up d m)) c.1 c.2 u g.1) in
    record {
      here = r.here;
      refill = λ t' e n. (
        page_frame w w' (up d m) (fill c.0 c.1 c.2 (plug d m c.3 t')) a.0
            (own_before w w' (up d m) c.1 c.2 (plug d m c.3 t') px py)
            (page_refill w _ (up d m) c.0 c.1 c.2 u (plug d m c.3 t') (place_plug d m c.3 t t' e) g.0),
        every_refill w w' (up d m) c.1 c.2 u (plug d m c.3 t') pa pb px py g.1 (r.refill t' e n),
      );
    }
