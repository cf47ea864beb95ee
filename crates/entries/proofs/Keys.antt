-- A page of which one key gets another list: its keys in the words, its children, what is listed of it.
-- Assumes nothing.
use Prim.Native.Nat.{ℕ, zero, suc, ◌+◌}
use mathlib.Core.Path.{◌≡◌, refl, sym, ap, ◌∙◌, subst}
use mathlib.Core.List.{List, [], ◌∷◌, ◌++◌}
use lib.ListN.{length, length-append}
use native.Mathlib.Omega.{arith}
use Rattle.words.specs.Lists.{All, count}
use Rattle.words.proofs.Listed.{all_left, all_right}
use Rattle.words.proofs.Counted.{count_append}
use Rattle.xrtree.specs.Tree.{Key, Tree, weave, page_places, record_places}
use Rattle.image.specs.Decode.{key_words_at, keys_from}
use Rattle.pages.specs.declared.KeyWords.{KeyWords}
use Rattle.newpages.specs.Pages.{put_for}
use Rattle.holding.specs.Held.{KeyHeld, KeysHeld, kid_places, EveryKid, Held, key_records}
use Rattle.holding.proofs.Frames.{SamePage, SameRecord, keys_frame, held_frame}

-- ONE KEY in the words
module _ {A : Type 0} (w : List ℕ) (kid : A) (key : Key) (post : List (A × Key)) where
  pub key_here : (ws : List ℕ) (pre : List (A × Key)) (j n : ℕ) → KeysHeld w (keys_from ws j n) (pre ++ (kid, key) ∷ post) → KeyHeld w (key_words_at ws (j + length pre)) key
  unfolding keys_from
  key_here ws [] j zero g = absurd g
  key_here ws [] j (suc n) g = let e : j + 0 ≡ j = omega arith in rw e g.0
  key_here ws (c ∷ pre) j zero g = absurd g
  key_here ws (c ∷ pre) j (suc n) g = let e : j + suc (length pre) ≡ suc j + length pre = omega arith in rw e (key_here ws pre (suc j) n g.1)

-- it is put for another; the others are held as before
module _ {A : Type 0} (w w' : List ℕ) (kid : A) (key key' : Key) (x : KeyWords) (held : KeyHeld w' x key') (post : List (A × Key)) (after : All (SameRecord w w') (key_records post)) where
  pub keys_put : (xs : List KeyWords) (pre : List (A × Key)) → All (SameRecord w w') (key_records pre)
      → KeysHeld w xs (pre ++ (kid, key) ∷ post) → KeysHeld w' (put_for (length pre) x xs) (pre ++ (kid, key') ∷ post)
  keys_put [] [] a g = absurd g
  keys_put (y ∷ ys) [] a g = (held, keys_frame w w' ys post after g.1)
  keys_put [] (c ∷ pre) a g = absurd g
  keys_put (y ∷ ys) (c ∷ pre) a g = (
    (keys_frame w w' (y ∷ []) (c ∷ []) (subst (All (SameRecord w w')) (nil c.1.places) (all_left (SameRecord w w') c.1.places (key_records pre) a)) (g.0, tt)).0,
    keys_put ys pre (all_right (SameRecord w w') c.1.places (key_records pre) a) g.1,
  )
    where
      nil : (l : List ℕ) → l ≡ l ++ []
      nil [] = refl
      nil (y ∷ ys) = ap (y ∷◌) (nil ys)

module _ {A : Type 0} (kid : A) (key key' : Key) (post : List (A × Key)) (last : A) where
  -- the children's places, a statement of every child, the number of keys
  pub places_key : (place : A → ℕ) (pre : List (A × Key)) → kid_places place (pre ++ (kid, key') ∷ post) last ≡ kid_places place (pre ++ (kid, key) ∷ post) last
  places_key place [] = refl
  places_key place (c ∷ pre) = ap (place c.0 ∷◌) (places_key place pre)

  pub every_key : (P : A → Type 0) (pre : List (A × Key)) → EveryKid P (pre ++ (kid, key) ∷ post) last → EveryKid P (pre ++ (kid, key') ∷ post) last
  every_key P [] g = g
  every_key P (c ∷ pre) g = (g.0, every_key P pre g.1)

  pub long_key : (pre : List (A × Key)) → length (pre ++ (kid, key') ∷ post) ≡ length (pre ++ (kid, key) ∷ post)
  long_key pre = length-append pre ((kid, key') ∷ post) ∙ sym (length-append pre ((kid, key) ∷ post))

  -- what is listed, where the key's own list is not looked at; and where it is, by counts
  pub weave_key : {B : Type 0} (f : A → List B) (g : Key → List B) → g key' ≡ g key → (pre : List (A × Key)) → weave f g (pre ++ (kid, key') ∷ post) last ≡ weave f g (pre ++ (kid, key) ∷ post) last
  unfolding weave
  weave_key f g e [] = ap (λ z. f kid ++ (z ++ weave f g post last)) e
  weave_key f g e (c ∷ pre) = ap (λ z. f c.0 ++ (g c.1 ++ z)) (weave_key f g e pre)

  pub count_key : (f : A → List ℕ) (q : ℕ) (pre : List (A × Key))
      → count q (weave f (λ (k : Key). k.places) (pre ++ (kid, key') ∷ post) last) + count q key.places ≡ count q (weave f (λ (k : Key). k.places) (pre ++ (kid, key) ∷ post) last) + count q key'.places
  unfolding weave
  count_key f q [] =
      let r = weave f (λ (k : Key). k.places) post last in
      omega (arith, count_append q (f kid) (key.places ++ r), count_append q key.places r, count_append q (f kid) (key'.places ++ r), count_append q key'.places r)
  count_key f q (c ∷ pre) =
      let r = weave f (λ (k : Key). k.places) (pre ++ (kid, key) ∷ post) last in
      let r' = weave f (λ (k : Key). k.places) (pre ++ (kid, key') ∷ post) last in
      omega (
        arith,
        count_key f q pre,
        count_append q (f c.0) (c.1.places ++ r),
        count_append q c.1.places r,
        count_append q (f c.0) (c.1.places ++ r'),
        count_append q c.1.places r',
      )

-- a page's records: its children's, and its keys' own
module _ {A : Type 0} (f : A → List ℕ) (q : ℕ) where
  pub count_weave : (cs : List (A × Key)) (last : A) → count q (weave f (λ (k : Key). k.places) cs last) ≡ count q (weave f (λ (k : Key). []) cs last) + count q (key_records cs)
  unfolding weave count
  count_weave [] last = omega arith
  count_weave (c ∷ cs) last =
      omega (
        arith,
        count_weave cs last,
        count_append q (f c.0) (c.1.places ++ weave f (λ (k : Key). k.places) cs last),
        count_append q c.1.places (weave f (λ (k : Key). k.places) cs last),
        count_append q (f c.0) (weave f (λ (k : Key). []) cs last),
        count_append q c.1.places (key_records cs),
      )

  pub count_keys : (pre : List (A × Key)) (kid : A) (key : Key) (post : List (A × Key)) → count q (key_records (pre ++ (kid, key) ∷ post)) ≡ count q (key_records pre) + count q key.places + count q (key_records post)
  unfolding count
  count_keys [] kid key post = omega (arith, count_append q key.places (key_records post))
  count_keys (c ∷ pre) kid key post =
      omega (arith, count_keys pre kid key post, count_append q c.1.places (key_records (pre ++ (kid, key) ∷ post)), count_append q c.1.places (key_records pre))

-- CHILDREN are held as before, where their pages and records are
pub every_frame : (w w' : List ℕ) (h : ℕ) (cs : List (Tree h × Key)) (last : Tree h) → All (SamePage w w') (weave (page_places h) (λ (k : Key). []) cs last)
    → All (SameRecord w w') (weave (record_places h) (λ (k : Key). []) cs last) → EveryKid (Held w h) cs last → EveryKid (Held w' h) cs last
unfolding weave
every_frame w w' h [] last a b g = held_frame w w' h last a b g
every_frame w w' h (c ∷ cs) last a b g = (
  held_frame w w' h c.0 (all_left (SamePage w w') (page_places h c.0) _ a) (all_left (SameRecord w w') (record_places h c.0) _ b) g.0,
  every_frame w w' h cs last (all_right (SamePage w w') (page_places h c.0) _ a) (all_right (SameRecord w w') (record_places h c.0) _ b) g.1,
)
