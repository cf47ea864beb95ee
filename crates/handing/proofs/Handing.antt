-- A key leaves a page: `hand_on`, at the last key and at one before another.
-- Assumes nothing.
use Prim.Native.Nat.{ℕ, suc, ◌+◌, ◌-◌, ◌≤◌, ◌<◌}
use mathlib.Core.Path.{◌≡◌, refl, sym, ap, ◌∙◌, subst}
use mathlib.Core.Logic.{◌≢◌}
use mathlib.Core.List.{List, [], ◌∷◌, ◌++◌, append-nil}
use lib.ListN.{length, take, drop, length-append}
use native.Mathlib.Omega.{arith}
use native.Mathlib.Numerals.{add-one}
use Rattle.words.specs.Lists.{count}
use Rattle.words.proofs.Counted.{count_append}
use Rattle.xrtree.specs.Tree.{Key, Tree}
use Rattle.xrtree.specs.Holes.{Post, fill_kids}
use Rattle.xrtree.specs.Holes.Post.{at_key, at_end}
use Rattle.pages.specs.Layout.{mark_of, fill_of, next_of}
use Rattle.pages.specs.declared.KeyWords.{KeyWords}
use Rattle.image.specs.Decode.{key_words_at}
use Rattle.holding.specs.Held.{KeyHeld, KeysHeld, key_records}
use Rattle.newpages.specs.Pages.{taken_out, put_for, keys_of, children_of, IsInner}
use Rattle.newpages.proofs.Read.{key_in_lem, keys_long}
use Rattle.records.specs.Touched.{Touched, Uses, Ends}
use Rattle.records.specs.Kept.{Lifts, Apart}
use Rattle.records.specs.declared.Lifted.{Lifted}
use Rattle.records.proofs.Marks.{touched_none, uses_same}
use Rattle.steps.specs.Steps.{rekeyed}
use Rattle.handing.specs.Moves.{next_took, rest_key, Leaving, HandedOn}
use Rattle.handing.proofs.Keys.{KeysAt, kids_more, key_whole, keys_at, keys_out, keys_put, keys_touched, records_append}
use Rattle.handing.proofs.Keys as keys

-- key i of a page's words
pub key_word_lem : {A : Type 0} (w ws : List ℕ) (fs : List (A × Key)) (k : Key) (bs : List (A × Key)) → length fs < fill_of ws → KeysAt w (keys_of ws) fs k bs (key_words_at ws 0) → KeyHeld w (key_words_at ws (length fs)) k
key_word_lem w ws fs k bs l r =
    let e : 0 + length fs ≡ length fs = omega arith in
    subst (λ x. KeyHeld w x k) (key_in_lem ws 0 (fill_of ws) (length fs) (key_words_at ws 0) l ∙ ap (key_words_at ws) e) r.here

module _ {w ws : List ℕ} {j : ℕ} (s : Leaving w ws j) where
  pub held_kids : KeysHeld w (keys_of ws) (s.pre ++ (s.left, s.key) ∷ fill_kids [] s.post s.right)
  held_kids = subst (KeysHeld w (keys_of ws)) (kids_more s.pre s.post s.left s.right s.key) s.held

  pub once_kids : (x : ℕ) → count x (key_records s.pre) + count x s.key.places + count x (key_records (fill_kids [] s.post s.right)) ≤ 1
  once_kids x =
      omega (
        arith,
        s.once x,
        ap (λ (c : List (Tree s.h × Key)). count x (key_records c)) (kids_more s.pre s.post s.left s.right s.key),
        records_append x s.pre ((s.left, s.key) ∷ fill_kids [] s.post s.right),
        count_append x s.key.places (key_records (fill_kids [] s.post s.right)),
      )

  pub leaving_long : fill_of ws ≡ suc (j + length (fill_kids [] s.post s.right))
  leaving_long =
      omega (arith, keys.keys_long w (keys_of ws) _ held_kids, keys_long ws 0 (fill_of ws), length-append s.pre ((s.left, s.key) ∷ fill_kids [] s.post s.right), s.index)

  pub at_key_lem : KeysAt w (keys_of ws) s.pre s.key (fill_kids [] s.post s.right) (key_words_at ws 0)
  at_key_lem = keys_at w (keys_of ws) s.pre (s.left, s.key) (fill_kids [] s.post s.right) (key_words_at ws 0) held_kids

  pub leaving_key : KeyHeld w (key_words_at ws j) s.key
  leaving_key =
      subst (λ i. KeyHeld w (key_words_at ws i) s.key) s.index
      (key_word_lem w ws s.pre s.key (fill_kids [] s.post s.right) (omega (arith, leaving_long, s.index)) at_key_lem)

  pub leaving_ends : (k : KeyWords) → k ≡ key_words_at ws j → Ends w k.head
  leaving_ends k e = rw e (record { places = s.key.places; chain = leaving_key.chain })

  -- THE LAST KEY
  pub handed_last : (k : KeyWords) (ws' : List ℕ) → length ws' ≡ 57 → k ≡ key_words_at ws j → j + 1 ≡ fill_of ws
      → IsInner ws' (mark_of ws) (fill_of ws - 1) (next_of ws) (taken_out j (keys_of ws)) (taken_out (suc j) (children_of ws))
      → HandedOn w w ws j s (record { rest = k; page = ws' })
  handed_last k ws' n e l i =
      record {
        touched = touched_none w s.key.places;
        uses = uses_same (λ q. refl);
        rest_held = rest s.post leaving_long;
        keys_held = λ t. out s.post leaving_long (keys_out w (keys_of ws) s.pre s.key (fill_kids [] s.post s.right) (key_words_at ws 0) at_key_lem) t;
        long = n;
        mark_is = i.mark_is;
        fill_is = i.fill_is;
        children_are = i.children_are;
      }
    where
      rest : (post : Post (Tree s.h)) → fill_of ws ≡ suc (j + length (fill_kids [] post s.right)) → KeyHeld w k (rest_key post s.key)
      rest (at_key a cs last) g = absurd (omega arith)
      rest at_end g = rw e (key_whole w (key_words_at ws j) s.key s.first leaving_key)

      out : (post : Post (Tree s.h)) → fill_of ws ≡ suc (j + length (fill_kids [] post s.right)) → KeysHeld w (taken_out (length s.pre) (keys_of ws)) (s.pre ++ fill_kids [] post s.right)
          → (t : Tree s.h) → KeysHeld w (keys_of ws') (fill_kids s.pre (rekeyed post (next_took post s.key)) t)
      out (at_key a cs last) g o t = absurd (omega arith)
      out at_end g o t =
          subst (λ ks. KeysHeld w ks s.pre) (ap (λ n. taken_out n (keys_of ws)) s.index ∙ sym i.keys_are) (subst (KeysHeld w (taken_out (length s.pre) (keys_of ws))) (append-nil s.pre) o)

-- A KEY BEFORE ANOTHER, which takes what it stabs
pub record Passed (w w' ws' : List ℕ) (h : ℕ) (pre : List (Tree h × Key)) (post : Post (Tree h)) (key : Key) (rest : KeyWords) : Type 0 where
  pub touched : Touched w w' key.places
  pub uses : Uses w w' [] []
  pub rest_held : KeyHeld w' rest (rest_key post key)
  pub keys_held : (t : Tree h) → KeysHeld w' (keys_of ws') (fill_kids pre (rekeyed post (next_took post key)) t)

pub passed : (w w' ws ws' : List ℕ) (j h : ℕ) (pre : List (Tree h × Key)) (left right : Tree h) (key a : Key) (cs : List (Tree h × Key)) (last : Tree h) (k next : KeyWords) (t : Lifted)
    → length pre ≡ j → suc j < fill_of ws → KeyHeld w k key → KeysHeld w (keys_of ws) ((pre ++ (left, key) ∷ []) ++ (right, a) ∷ cs)
    → KeysHeld w (taken_out (length pre) (keys_of ws)) (pre ++ (right, a) ∷ cs)
    → ((x : ℕ) → count x (key_records pre) + count x key.places + count x (key_records ((right, a) ∷ cs)) ≤ 1)
    → next ≡ key_words_at ws (suc j)
    → ((a b : Key) → KeyHeld w k a → KeyHeld w next b → Apart a.places b.places → Lifts w w' a b next.key t)
    → keys_of ws' ≡ put_for j t.to (taken_out j (keys_of ws))
    → Passed w w' ws' h pre (at_key a cs last) key t.from
passed w w' ws ws' j h pre left right key a cs last k next t idx u hk held out once e f i =
    let n : length (pre ++ (left, key) ∷ []) ≡ suc j = omega (arith, length-append pre ((left, key) ∷ [])) in
    let nx : KeyHeld w (key_words_at ws (suc j)) a =
    subst (λ i. KeyHeld w (key_words_at ws i) a) n
    (key_word_lem w ws (pre ++ (left, key) ∷ []) a cs (omega arith) (keys_at w (keys_of ws) (pre ++ (left, key) ∷ []) (right, a) cs (key_words_at ws 0) held)) in
    let hn : KeyHeld w next a = subst (λ x. KeyHeld w x a) (sym e) nx in
    let c : (x : ℕ) → count x (a.places ++ key_records cs) ≡ count x a.places + count x (key_records cs) = λ x. count_append x a.places (key_records cs) in
    let g = subst (λ x. Lifts w w' key a x t) hn.key_is (f key a hk hn (λ x. omega (arith, once x, c x))) in
    let r = keys_at w (taken_out (length pre) (keys_of ws)) pre (right, a) cs (key_words_at ws 0) out in
    record {
      touched = g.touched;
      uses = g.uses;
      rest_held = g.from_held;
      keys_held = λ y.
          subst (λ ks. KeysHeld w' ks (pre ++ (y, next_took (at_key a cs last) key) ∷ cs)) (ap (λ m. put_for m t.to (taken_out m (keys_of ws))) idx ∙ sym i)
          (keys_put w' (taken_out (length pre) (keys_of ws)) pre cs t.to (y, next_took (at_key a cs last) key)
          (keys_touched g.touched (take (length pre) (taken_out (length pre) (keys_of ws))) pre (λ x. omega (arith, once x)) r.before) g.to_held (keys_touched g.touched (drop (suc (length pre)) (taken_out (length pre) (keys_of ws))) cs (λ x. omega (arith, once x, c x)) r.behind));
    }

pub handed_mid : (w w' ws wo ws' : List ℕ) (j : ℕ) (s : Leaving w ws j) (k next : KeyWords) (t : Lifted) → length ws' ≡ 57 → k ≡ key_words_at ws j → next ≡ key_words_at ws (j + 1) → j + 1 ≢ fill_of ws
    → IsInner wo (mark_of ws) (fill_of ws - 1) (next_of ws) (taken_out j (keys_of ws)) (taken_out (suc j) (children_of ws))
    → ((a b : Key) → KeyHeld w k a → KeyHeld w next b → Apart a.places b.places → Lifts w w' a b next.key t)
    → IsInner ws' (mark_of wo) (fill_of wo) (next_of wo) (put_for j t.to (keys_of wo)) (children_of wo)
    → HandedOn w w' ws j s (record { rest = t.from; page = ws' })
handed_mid w w' ws wo ws' j s k next t m ek en l o f i =
    let p = go s.post (leaving_long s) s.held (keys_out w (keys_of ws) s.pre s.key (fill_kids [] s.post s.right) (key_words_at ws 0) (at_key_lem s)) (once_kids s) in
    record {
      touched = p.touched;
      uses = p.uses;
      rest_held = p.rest_held;
      keys_held = p.keys_held;
      long = m;
      mark_is = i.mark_is ∙ o.mark_is;
      fill_is = i.fill_is ∙ o.fill_is;
      children_are = i.children_are ∙ o.children_are;
    }
  where
    go : (post : Post (Tree s.h)) → fill_of ws ≡ suc (j + length (fill_kids [] post s.right)) → KeysHeld w (keys_of ws) (fill_kids (s.pre ++ (s.left, s.key) ∷ []) post s.right)
        → KeysHeld w (taken_out (length s.pre) (keys_of ws)) (s.pre ++ fill_kids [] post s.right)
        → ((x : ℕ) → count x (key_records s.pre) + count x s.key.places + count x (key_records (fill_kids [] post s.right)) ≤ 1)
        → Passed w w' ws' s.h s.pre post s.key t.from
    go (at_key a cs last) g held out once =
        passed w w' ws ws' j s.h s.pre s.left s.right s.key a cs last k next t s.index (omega arith) (rw ek (leaving_key s)) held out once (en ∙ ap (key_words_at ws) (add-one j)) f
        (i.keys_are ∙ ap (put_for j t.to) o.keys_are)
    go at_end g held out once = absurd (l (omega arith))
