-- A key's list is handed down to the keys of a page, first to last: what is done and what is left to do, by the turns of `sink`.
-- Assumes nothing.
use Prim.Native.Nat.{ℕ, suc, ◌+◌, ◌≤◌, ◌<◌}
use mathlib.Core.Path.{◌≡◌, refl, sym, ap, ◌∙◌, subst}
use mathlib.Core.List.{List, [], ◌∷◌, ◌++◌, append_assoc}
use lib.ListN.{length, take, drop, length-append, take-append-drop}
use native.Mathlib.Omega.{arith}
use Rattle.words.specs.Lists.{count, take_while, drop_while}
use Rattle.words.proofs.Counted.{count_append}
use Rattle.regions.specs.Positions.{stabs}
use Rattle.regions.specs.declared.Region.{Region}
use Rattle.xrtree.specs.Tree.{Key, Tree}
use Rattle.xrtree.specs.Moves.{key_with, moved_places, kept_places, sunk, left_over, over_places}
use Rattle.pages.specs.Layout.{mark_of, fill_of, next_of}
use Rattle.pages.specs.declared.KeyWords.{KeyWords}
use Rattle.image.specs.Decode.{key_words_at}
use Rattle.holding.specs.Held.{KeyHeld, KeysHeld, key_records}
use Rattle.newpages.specs.Pages.{put_for, keys_of, children_of, IsInner}
use Rattle.newpages.proofs.Read.{keys_long}
use Rattle.records.specs.Touched.{Touched, Uses, Ends}
use Rattle.records.specs.Kept.{Lifts, Apart}
use Rattle.records.specs.declared.Lifted.{Lifted}
use Rattle.records.proofs.Marks.{touched_none, touched_in, touched_then, uses_same, uses_then}
use Rattle.handing.specs.Moves.{Sinking, Sank}
use Rattle.handing.proofs.Keys.{keys_at, keys_put, keys_touched, records_append}
use Rattle.handing.proofs.Handing.{key_word_lem}
use Rattle.handing.proofs.Keys as keys

-- the places of a beginning and of the rest, by counts
pub count_cut : (x n : ℕ) (ps : List ℕ) → count x (take n ps) + count x (drop n ps) ≡ count x ps
count_cut x n ps = sym (count_append x (take n ps) (drop n ps)) ∙ ap (count x) (take-append-drop n ps)

-- WHAT WAS DONE: the first i keys have taken their part, the rest is to come
pub record Sunk (w₀ w page : List ℕ) (rest : KeyWords) (i h n : ℕ) (ls : List (Tree h × Key)) (l : List Region) (ps : List ℕ) : Type 0 where
  pub ready : List (Tree h × Key)
  pub todo : List (Tree h × Key)
  pub l' : List Region
  pub ps' : List ℕ
  pub index : length ready ≡ i
  pub keys_held : KeysHeld w (keys_of page) (ready ++ todo)
  pub rest_held : KeyHeld w rest (key_with n ps' l')
  pub sunk_is : sunk ls l ps ≡ ready ++ sunk todo l' ps'
  pub over_is : left_over ls l ≡ left_over todo l'
  pub places_are : over_places ls l ps ≡ over_places todo l' ps'
  pub once : (x : ℕ) → count x ps' + count x (key_records (ready ++ todo)) ≤ 1
  pub less : (x : ℕ) → count x ps' ≤ count x ps
  pub touched : Touched w₀ w ps
  pub uses : Uses w₀ w [] []

pub record SinkInv (w₀ ws : List ℕ) (k : KeyWords) (w page : List ℕ) (rest : KeyWords) (i : ℕ) : Type 0 where
  pub done : (s : Sinking w₀ ws k) → Sunk w₀ w page rest i s.h s.n s.ls s.l s.ps
  pub long : length w ≡ length w₀
  pub mark_is : mark_of page ≡ mark_of ws
  pub fill_is : fill_of page ≡ fill_of ws
  pub children_are : children_of page ≡ children_of ws

pub sink_start : (w ws : List ℕ) (k : KeyWords) → SinkInv w ws k w ws k 0
sink_start w ws k =
    record {
      done = λ s. record {
        ready = [];
        todo = s.ls;
        l' = s.l;
        ps' = s.ps;
        index = refl;
        keys_held = s.keys_held;
        rest_held = s.key_held;
        sunk_is = refl;
        over_is = refl;
        places_are = refl;
        once = s.once;
        less = λ x. omega arith;
        touched = touched_none w s.ps;
        uses = uses_same (λ q. refl);
      };
      long = refl;
      mark_is = refl;
      fill_is = refl;
      children_are = refl;
    }

module _ {w₀ ws : List ℕ} {k : KeyWords} {w page : List ℕ} {rest : KeyWords} {i : ℕ} (v : SinkInv w₀ ws k w page rest i) where
  pub sink_ends : Sinking w₀ ws k → Ends w rest.head
  sink_ends s = let d = v.done s in record { places = d.ps'; chain = d.rest_held.chain }

  pub sink_end : fill_of ws ≤ i → (s : Sinking w₀ ws k) → Sank w₀ w ws k s (record { rest = rest; page = page })
  unfolding sunk left_over over_places
  sink_end g s =
      let d = v.done s in
      let none : length d.todo ≡ 0 = omega (arith, keys.keys_long w (keys_of page) (d.ready ++ d.todo) d.keys_held, keys_long page 0 (fill_of page), length-append d.ready d.todo, d.index, v.fill_is) in
      go d d.todo none d.keys_held d.sunk_is d.over_is d.places_are
    where
      go : (d : Sunk w₀ w page rest i s.h s.n s.ls s.l s.ps) (todo : List (Tree s.h × Key)) → length todo ≡ 0 → KeysHeld w (keys_of page) (d.ready ++ todo)
          → sunk s.ls s.l s.ps ≡ d.ready ++ sunk todo d.l' d.ps' → left_over s.ls s.l ≡ left_over todo d.l'
          → over_places s.ls s.l s.ps ≡ over_places todo d.l' d.ps'
          → Sank w₀ w ws k s (record { rest = rest; page = page })
      go d [] z a b c e =
          record {
            touched = d.touched;
            uses = d.uses;
            rest_held = rw (c, e) d.rest_held;
            keys_held = subst (KeysHeld w (keys_of page)) (sym b) a;
            mark_is = v.mark_is;
            fill_is = v.fill_is;
            children_are = v.children_are;
          }
      go d (t ∷ ts) z a b c e = absurd (omega arith)

  -- A TURN: the next key takes what it stabs
  pub turned : (w' page' : List ℕ) (to : KeyWords) (t : Lifted) → to ≡ key_words_at page i → i < fill_of page
      → ((a b : Key) → KeyHeld w rest a → KeyHeld w to b → Apart a.places b.places → Lifts w w' a b to.key t)
      → keys_of page' ≡ put_for i t.to (keys_of page)
      → (h n : ℕ) (ls : List (Tree h × Key)) (l : List Region) (ps : List ℕ) (d : Sunk w₀ w page rest i h n ls l ps) (c : Tree h × Key) (todo : List (Tree h × Key))
      → KeysHeld w (keys_of page) (d.ready ++ c ∷ todo) → sunk ls l ps ≡ d.ready ++ sunk (c ∷ todo) d.l' d.ps'
      → left_over ls l ≡ left_over (c ∷ todo) d.l' → over_places ls l ps ≡ over_places (c ∷ todo) d.l' d.ps'
      → ((x : ℕ) → count x d.ps' + count x (key_records (d.ready ++ c ∷ todo)) ≤ 1)
      → Sunk w₀ w' page' t.from (suc i) h n ls l ps
  unfolding sunk left_over over_places
  turned w' page' to t e u f keyed h n ls l ps d c todo held is over places once =
      let hn : KeyHeld w to c.1 =
      rw e (subst (λ m. KeyHeld w (key_words_at page m) c.1) d.index (key_word_lem w page d.ready c.1 todo (omega (arith, d.index)) (keys_at w (keys_of page) d.ready c todo (key_words_at page 0) held))) in
      let parts : (x : ℕ) → count x (key_records (d.ready ++ c ∷ todo)) ≡ count x (key_records d.ready) + (count x c.1.places + count x (key_records todo)) =
      λ x. omega (arith, records_append x d.ready (c ∷ todo), count_append x c.1.places (key_records todo)) in
      let g = subst (λ m. Lifts w w' (key_with n d.ps' d.l') c.1 m t) hn.key_is
      (f (key_with n d.ps' d.l') c.1 d.rest_held hn (λ x. omega (arith, once x, parts x))) in
      let m = c.1.key in
      let new : Tree h × Key = (c.0, key_with m (moved_places m d.l' d.ps' ++ c.1.places) (take_while (stabs m) d.l' ++ c.1.list)) in
      let rest'' = kept_places m d.l' d.ps' in
      let cut : (x : ℕ) → count x (moved_places m d.l' d.ps') + count x rest'' ≡ count x d.ps' = λ x. count_cut x (length (take_while (stabs m) d.l')) d.ps' in
      let r = keys_at w (keys_of page) d.ready c todo (key_words_at page 0) held in
      record {
        ready = d.ready ++ new ∷ [];
        todo = todo;
        l' = drop_while (stabs m) d.l';
        ps' = rest'';
        index = omega (arith, length-append d.ready (new ∷ []), d.index);
        keys_held =
            subst (λ ks. KeysHeld w' ks ((d.ready ++ new ∷ []) ++ todo)) (ap (λ m. put_for m t.to (keys_of page)) d.index ∙ sym keyed)
            (subst (KeysHeld w' (put_for (length d.ready) t.to (keys_of page))) (sym (append_assoc d.ready (new ∷ []) todo))
            (keys_put w' (keys_of page) d.ready todo t.to new
            (keys_touched g.touched (take (length d.ready) (keys_of page)) d.ready (λ x. omega (arith, once x, parts x)) r.before) g.to_held (keys_touched g.touched (drop (suc (length d.ready)) (keys_of page)) todo (λ x. omega (arith, once x, parts x)) r.behind)));
        rest_held = g.from_held;
        sunk_is = is ∙ sym (append_assoc d.ready (new ∷ []) (sunk todo (drop_while (stabs m) d.l') rest''));
        over_is = over;
        places_are = places;
        once = λ x. omega (
          arith,
          once x,
          parts x,
          cut x,
          ap (λ (z : List (Tree h × Key)). count x (key_records z)) (append_assoc d.ready (new ∷ []) todo),
          records_append x d.ready (new ∷ todo),
          count_append x (moved_places m d.l' d.ps' ++ c.1.places) (key_records todo),
          count_append x (moved_places m d.l' d.ps') c.1.places,
        );
        less = λ x. omega (arith, cut x, d.less x);
        touched = touched_in (touched_then d.touched g.touched) ps (λ x a z. omega (arith, count_append x ps d.ps', d.less x));
        uses = uses_then d.uses g.uses;
      }

  pub sink_turn : (w' page' : List ℕ) (to : KeyWords) (t : Lifted) → length w' ≡ length w → to ≡ key_words_at page i → i < fill_of ws
      → ((a b : Key) → KeyHeld w rest a → KeyHeld w to b → Apart a.places b.places → Lifts w w' a b to.key t)
      → IsInner page' (mark_of page) (fill_of page) (next_of page) (put_for i t.to (keys_of page)) (children_of page)
      → SinkInv w₀ ws k w' page' t.from (suc i)
  sink_turn w' page' to t l e u f o =
      record {
        done = λ s. go s (v.done s) (v.done s).todo (v.done s).keys_held (v.done s).sunk_is (v.done s).over_is (v.done s).places_are (v.done s).once;
        long = l ∙ v.long;
        mark_is = o.mark_is ∙ v.mark_is;
        fill_is = o.fill_is ∙ v.fill_is;
        children_are = o.children_are ∙ v.children_are;
      }
    where
      go : (s : Sinking w₀ ws k) (d : Sunk w₀ w page rest i s.h s.n s.ls s.l s.ps) (todo : List (Tree s.h × Key)) → KeysHeld w (keys_of page) (d.ready ++ todo)
          → sunk s.ls s.l s.ps ≡ d.ready ++ sunk todo d.l' d.ps' → left_over s.ls s.l ≡ left_over todo d.l'
          → over_places s.ls s.l s.ps ≡ over_places todo d.l' d.ps' → ((x : ℕ) → count x d.ps' + count x (key_records (d.ready ++ todo)) ≤ 1)
          → Sunk w₀ w' page' t.from (suc i) s.h s.n s.ls s.l s.ps
      go s d [] held is over places once =
          absurd (omega (arith, keys.keys_long w (keys_of page) (d.ready ++ []) held, keys_long page 0 (fill_of page), length-append d.ready [], d.index, v.fill_is))
      go s d (c ∷ todo) held is over places once = turned w' page' to t e (omega (arith, v.fill_is)) f o.keys_are s.h s.n s.ls s.l s.ps d c todo held is over places once
