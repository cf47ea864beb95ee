-- A key comes into a page in front of another key, from which it takes what it stabs, or behind the last.
-- Assumes nothing.
use Prim.Native.Nat.{ℕ, suc, ◌+◌, ◌≤◌, ◌<◌}
use mathlib.Core.Path.{◌≡◌, refl, sym, ap, ap₂, ◌∙◌, subst}
use mathlib.Core.List.{List, [], ◌∷◌, ◌++◌}
use lib.ListN.{length, length-append, take, drop}
use native.Mathlib.Omega.{arith}
use Rattle.words.specs.Lists.{count}
use Rattle.words.proofs.Counted.{count_append}
use Rattle.regions.specs.declared.Region.{Region}
use Rattle.xrtree.specs.Tree.{Key, Tree}
use Rattle.xrtree.specs.Moves.{key_with}
use Rattle.xrtree.specs.Holes.{Post, fill_kids, fill}
use Rattle.xrtree.specs.Holes.Post.{at_key, at_end}
use Rattle.pages.specs.Layout.{mark_of, fill_of, next_of}
use Rattle.pages.specs.declared.KeyWords.{KeyWords}
use Rattle.image.specs.Decode.{key_words_at}
use Rattle.holding.specs.Held.{KeyHeld, KeysHeld, place_of, PageHeld, key_records}
use Rattle.newpages.specs.Pages.{put_in, put_for, keys_of, children_of, IsInner}
use Rattle.records.specs.Touched.{Touched, Uses, Ends}
use Rattle.records.specs.Kept.{Lifts, Apart}
use Rattle.records.specs.declared.Lifted.{Lifted}
use Rattle.records.proofs.Marks.{touched_none, uses_same, held_ends}
use Rattle.steps.specs.Steps.{rekeyed, next_places}
use Rattle.raising.specs.Sides.{topped, next_cut}
use Rattle.raising.specs.Moves.{EnterReady, Entered}
use Rattle.raising.proofs.Keys.{records_count, keys_at, keys_split, keys_more, keys_last, places_one_more, untouched}

-- the same as Entered, over plain lists
pub record Into (w w' page : List ℕ) (r h q : ℕ) (pre : List (Tree h × Key)) (post : Post (Tree h)) (child : Tree h) (k : ℕ) (places : List ℕ) (list : List Region) (t : List ℕ) : Type 0 where
  touched : Touched w w' (next_places post)
  uses : Uses w w' [] []
  mark_is : mark_of t ≡ mark_of page
  held : (left right : Tree h) → place_of h left ≡ place_of h child → place_of h right ≡ r → PageHeld w' t h (fill q (pre ++ (left, topped k post places list) ∷ []) (rekeyed post (next_cut k post)) right)

-- the key behind
module _ (w page : List ℕ) (h q : ℕ) (pre : List (Tree h × Key)) (child : Tree h) where
  pub next_held : (j : Key) (cs : List (Tree h × Key)) (last : Tree h) (i : ℕ) → length pre ≡ i → PageHeld w page h (fill q pre (at_key j cs last) child) → KeyHeld w (key_words_at page i) j
  next_held j cs last i e g =
      let z : 0 + length pre ≡ i = omega arith in
      subst (λ n. KeyHeld w (key_words_at page n) j) z (keys_at w page 0 (fill_of page) pre (child, j) cs g.keys_held)

  pub ends_at : (post : Post (Tree h)) (i : ℕ) → length pre ≡ i → i < fill_of page → PageHeld w page h (fill q pre post child) → Ends w (key_words_at page i).head
  ends_at (at_key j cs last) i e u g = held_ends w (key_words_at page i) j (next_held j cs last i e g)
  ends_at at_end i e u g = absurd (omega (arith, g.fill_is))

pub enter_ends : {w page : List ℕ} {i : ℕ} {new : KeyWords} {h : ℕ} → EnterReady w page i new h → (next : KeyWords) → next ≡ key_words_at page i → i < fill_of page → Ends w next.head
enter_ends {w} {page} {i} {new} {h} g next e u = subst (λ (k : KeyWords). Ends w k.head) (sym e) (ends_at w page h g.q g.pre g.child g.post i g.index u g.held)

-- IN FRONT OF a key
module _ (w w' page cut t : List ℕ) (i r h q : ℕ) (pre : List (Tree h × Key)) (child : Tree h) (new : KeyWords) (k : ℕ) (places : List ℕ) (list : List Region) (l : Lifted)
    (index : length pre ≡ i) (key_held : KeyHeld w new (key_with k places list))
    (lift : (a b : Key) → KeyHeld w (key_words_at page i) a → KeyHeld w new b → Apart a.places b.places → Lifts w w' a b new.key l)
    (c : IsInner cut (mark_of page) (fill_of page) (next_of page) (put_for i l.from (keys_of page)) (children_of page))
    (p : IsInner t (mark_of cut) (suc (fill_of cut)) (next_of cut) (put_in i l.to (keys_of cut)) (put_in (suc i) r (children_of cut))) where
  pub into_mid : (post : Post (Tree h)) → i < fill_of page → PageHeld w page h (fill q pre post child)
      → ((x : ℕ) → count x (key_records (fill_kids pre post child)) + count x places ≤ 1) → Into w w' page r h q pre post child k places list t
  into_mid at_end u g once = absurd (omega (arith, g.fill_is))
  into_mid (at_key j cs last) u g once =
      let f = subst (λ x. Lifts w w' j (key_with k places list) x l) key_held.key_is
      (lift j (key_with k places list) (next_held w page h q pre child j cs last i index g) key_held
      (λ x. omega (arith, once x, records_count x pre ((child, j) ∷ cs), count_append x j.places (key_records cs)))) in
      let s = keys_split w (keys_of page) pre ((child, j) ∷ cs) g.keys_held in
      record {
        touched = f.touched;
        uses = f.uses;
        mark_is = p.mark_is ∙ c.mark_is;
        held = λ left right el er.
            record {
              fill_is = p.fill_is ∙ ap suc (c.fill_is ∙ g.fill_is)
                  ∙ omega (arith, length-append pre ((child, j) ∷ cs), length-append (pre ++ (left, topped k (at_key j cs last) places list) ∷ []) ((right, next_cut k (at_key j cs last)) ∷ cs), length-append pre ((left, topped k (at_key j cs last) places list) ∷ []));
              children_are = p.children_are ∙ ap₂ (λ n (z : List ℕ). put_in (suc n) r z) (sym index) (c.children_are ∙ g.children_are)
                  ∙ places_one_more (place_of h) pre (at_key j cs last) child left right (topped k (at_key j cs last) places list) (next_cut k (at_key j cs last)) r el er;
              keys_held = subst (λ z. KeysHeld w' z ((pre ++ (left, topped k (at_key j cs last) places list) ∷ []) ++ (right, next_cut k (at_key j cs last)) ∷ cs))
                  (sym (p.keys_are ∙ ap (put_in i l.to) c.keys_are ∙ ap (λ n. put_in n l.to (put_for n l.from (keys_of page))) (sym index)))
                  (keys_more w w' (keys_of page) pre (child, j) cs left right (topped k (at_key j cs last) places list) (next_cut k (at_key j cs last)) l.to l.from g.keys_held
                  (untouched f.touched w (take (length pre) (keys_of page)) pre s.0 (λ x. omega (arith, once x, records_count x pre ((child, j) ∷ cs), count_append x j.places (key_records cs))))
                  (untouched f.touched w (drop 1 (drop (length pre) (keys_of page))) cs (keys_split w (drop (length pre) (keys_of page)) ((child, j) ∷ []) cs s.1).1 (λ x. omega (arith, once x, records_count x pre ((child, j) ∷ cs), count_append x j.places (key_records cs))))
                  f.to_held f.from_held);
            };
      }

-- BEHIND THE LAST key
module _ (w page t : List ℕ) (i r h q : ℕ) (pre : List (Tree h × Key)) (child : Tree h) (new : KeyWords) (k : ℕ) (places : List ℕ) (list : List Region)
    (index : length pre ≡ i) (key_held : KeyHeld w new (key_with k places list))
    (p : IsInner t (mark_of page) (suc (fill_of page)) (next_of page) (put_in i new (keys_of page)) (put_in (suc i) r (children_of page))) where
  pub into_last : (post : Post (Tree h)) → fill_of page ≤ i → PageHeld w page h (fill q pre post child) → Into w w page r h q pre post child k places list t
  into_last (at_key j cs last) u g = absurd (omega (arith, g.fill_is, length-append pre ((child, j) ∷ cs)))
  into_last at_end u g =
      record {
        touched = touched_none w [];
        uses = uses_same (λ x. refl);
        mark_is = p.mark_is;
        held = λ left right el er.
            record {
              fill_is = p.fill_is ∙ ap suc g.fill_is ∙ omega (arith, length-append pre ((left, key_with k places list) ∷ []));
              children_are = p.children_are ∙ ap₂ (λ n (z : List ℕ). put_in (suc n) r z) (sym index) g.children_are
                  ∙ places_one_more (place_of h) pre at_end child left right (key_with k places list) (key_with k [] []) r el er;
              keys_held = subst (λ z. KeysHeld w z (pre ++ (left, key_with k places list) ∷ [])) (sym (p.keys_are ∙ ap (λ n. put_in n new (keys_of page)) (sym index)))
                  (keys_last w (keys_of page) pre left (key_with k places list) new g.keys_held key_held);
            };
      }

-- for the code
pub entered_mid : (w w' page cut t : List ℕ) (i : ℕ) (new : KeyWords) (r h : ℕ) (l : Lifted) (g : EnterReady w page i new h) (next : KeyWords) → next ≡ key_words_at page i → i < fill_of page
    → ((a b : Key) → KeyHeld w next a → KeyHeld w new b → Apart a.places b.places → Lifts w w' a b new.key l)
    → IsInner cut (mark_of page) (fill_of page) (next_of page) (put_for i l.from (keys_of page)) (children_of page)
    → IsInner t (mark_of cut) (suc (fill_of cut)) (next_of cut) (put_in i l.to (keys_of cut)) (put_in (suc i) r (children_of cut)) → Entered w w' page i new r h g t
entered_mid w w' page cut t i new r h l g next e u f c p =
    let x = into_mid w w' page cut t i r h g.q g.pre g.child new g.k g.places g.list l g.index g.key_held
    (subst (λ n. (a b : Key) → KeyHeld w n a → KeyHeld w new b → Apart a.places b.places → Lifts w w' a b new.key l) e f) c p g.post u g.held g.once in
    record { touched = x.touched; uses = x.uses; mark_is = x.mark_is; held = x.held }

pub entered_last : (w page t : List ℕ) (i : ℕ) (new : KeyWords) (r h : ℕ) (g : EnterReady w page i new h) → fill_of page ≤ i
    → IsInner t (mark_of page) (suc (fill_of page)) (next_of page) (put_in i new (keys_of page)) (put_in (suc i) r (children_of page)) → Entered w w page i new r h g t
entered_last w page t i new r h g u p =
    let x = into_last w page t i r h g.q g.pre g.child new g.k g.places g.list g.index g.key_held p g.post u g.held in
    record { touched = x.touched; uses = x.uses; mark_is = x.mark_is; held = x.held }
