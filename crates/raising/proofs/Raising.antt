-- The middle key of a page takes, key by key from the last on its left to the first, what it stabs.
-- Assumes nothing.
use Prim.Native.Nat.{ℕ, zero, suc, ◌+◌, ◌-◌, ◌≤◌, ◌<◌}
use mathlib.Core.Path.{◌≡◌, refl, sym, ap, ◌∙◌, subst}
use mathlib.Core.List.{List, [], ◌∷◌, ◌++◌, append_assoc, append-nil}
use lib.ListN.{length, length-append, get_or, take, drop, take-append-drop}
use lib.Seq.{take-suc, length-take-le}
use native.Mathlib.Omega.{arith}
use Rattle.words.specs.Lists.{count}
use Rattle.words.proofs.Counted.{count_append}
use Rattle.words.proofs.Listed.{all_mono}
use Rattle.pages.specs.Layout.{mark_of, fill_of, next_of}
use Rattle.pages.specs.declared.KeyWords.{KeyWords}
use Rattle.xrtree.specs.Tree.{Key, Tree}
use Rattle.xrtree.specs.Moves.{key_with, trim, raised, raised_places}
use Rattle.image.specs.Decode.{key_words_at}
use Rattle.newpages.specs.Pages.{put_for, keys_of, children_of, IsInner}
use Rattle.newpages.proofs.Read.{keys_long}
use Rattle.holding.specs.Held.{KeyHeld, KeysHeld, key_records}
use Rattle.holding.proofs.Chains.{chain_range}
use Rattle.holding.proofs.Frames.{key_frame, keys_frame}
use Rattle.records.specs.Touched.{Touched, Uses, Ends}
use Rattle.records.specs.Kept.{Lifts, Apart}
use Rattle.records.specs.declared.Lifted.{Lifted}
use Rattle.records.proofs.Marks.{touched_none, touched_in, touched_then, touched_list, uses_same, uses_then, held_ends}
use Rattle.newkey.proofs.Flagging.{put_at_lem}
use Rattle.raising.specs.Moves.{RaiseReady, Raised}
use Rattle.raising.specs.declared.Risen.{Risen}
use Rattle.raising.proofs.Keys.{key_with_lem, records_count, keys_at, untouched, trim_counts}

-- what is done when the keys from j on are: us before them, vs behind
pub record Rising (w₀ page : List ℕ) (c h : ℕ) (g : RaiseReady w₀ page c h) (w : List ℕ) (key : KeyWords) (ws : List ℕ) (j : ℕ) : Type 0 where
  pub us : List (Tree h × Key)
  pub vs : List (Tree h × Key)
  pub cut : us ++ vs ≡ g.ls
  pub left : length us ≡ j
  pub keys : List KeyWords
  pub many : j + length keys ≡ c
  pub page_is : IsInner ws (mark_of page) (fill_of page) (next_of page) (take j (keys_of page) ++ (keys ++ drop c (keys_of page))) (children_of page)
  pub keys_held : KeysHeld w keys (trim g.k.key vs)
  pub key_held : KeyHeld w key (key_with g.k.key (raised_places g.k.key vs g.k.places) (raised g.k.key vs g.k.list))
  pub touched : Touched w₀ w (key_records vs)
  pub uses : Uses w₀ w [] []

pub key_c : {w page : List ℕ} {c h : ℕ} (g : RaiseReady w page c h) → KeyHeld w (key_words_at page c) g.k
key_c {w} {page} {c} g =
    let z : 0 + length g.ls ≡ c = omega (arith, g.index) in
    subst (λ n. KeyHeld w (key_words_at page n) g.k) z (keys_at w page 0 (fill_of page) g.ls (g.m, g.k) g.bs g.keys_held)

pub rise_start : {w page : List ℕ} {c h : ℕ} (g : RaiseReady w page c h) (key : KeyWords) → key ≡ key_words_at page c → Rising w page c h g w key page c
unfolding trim raised raised_places
rise_start {w} {page} {c} g key e =
    record {
      us = g.ls;
      vs = [];
      cut = append-nil g.ls;
      left = g.index;
      keys = [];
      many = omega arith;
      page_is = record { mark_is = refl; fill_is = refl; next_is = refl; keys_are = sym (take-append-drop c (keys_of page)); children_are = refl };
      keys_held = tt;
      key_held = subst (λ n. KeyHeld w n (key_with g.k.key g.k.places g.k.list)) (sym e) (subst (KeyHeld w (key_words_at page c)) (key_with_lem g.k g.pair) (key_c g));
      touched = touched_none w [];
      uses = uses_same (λ x. refl);
    }

-- the last of some
pub record Last {A : Type 0} (xs : List A) : Type 0 where
  front : List A
  last : A
  is : front ++ last ∷ [] ≡ xs

pub last_of : {A : Type 0} (x : A) (xs : List A) → Last (x ∷ xs)
last_of x [] = record { front = []; last = x; is = refl }
last_of x (y ∷ ys) = let r = last_of y ys in record { front = x ∷ r.front; last = r.last; is = ap (x ∷◌) r.is }

pub last_some : {A : Type 0} (xs : List A) → 1 ≤ length xs → Last xs
last_some [] h = absurd (omega arith)
last_some (x ∷ xs) h = last_of x xs

-- ONE KEY MORE: v, the last of those that are left, and its words
module _ {w₀ page : List ℕ} {c h : ℕ} {g : RaiseReady w₀ page c h} {w : List ℕ} {key : KeyWords} {ws : List ℕ} (i : ℕ) (s : Rising w₀ page c h g w key ws (suc i)) (room : c < fill_of page) where
  pub us' : Last s.us
  us' = last_some s.us (omega (arith, s.left))

  pub v : Tree h × Key
  v = us'.last

  pub front_long : length us'.front ≡ i
  front_long = omega (arith, length-append us'.front (us'.last ∷ []), ap length us'.is, s.left)

  pub all_keys : us'.front ++ v ∷ (s.vs ++ (g.m, g.k) ∷ g.bs) ≡ g.ls ++ (g.m, g.k) ∷ g.bs
  unfolding v
  all_keys =
      sym (append_assoc us'.front (us'.last ∷ []) (s.vs ++ (g.m, g.k) ∷ g.bs)) ∙ ap (λ (z : List (Tree h × Key)). z ++ (s.vs ++ (g.m, g.k) ∷ g.bs)) us'.is
      ∙ sym (append_assoc s.us s.vs ((g.m, g.k) ∷ g.bs)) ∙ ap (λ (z : List (Tree h × Key)). z ++ (g.m, g.k) ∷ g.bs) s.cut

  -- no place twice
  pub all_once : (x : ℕ) → count x v.1.places + count x (key_records s.vs) + count x g.k.places ≤ 1
  all_once x =
      omega (
        arith,
        g.once x,
        ap (λ z. count x (key_records z)) all_keys,
        records_count x us'.front (v ∷ (s.vs ++ (g.m, g.k) ∷ g.bs)),
        count_append x v.1.places (key_records (s.vs ++ (g.m, g.k) ∷ g.bs)),
        records_count x s.vs ((g.m, g.k) ∷ g.bs),
        count_append x g.k.places (key_records g.bs),
      )

  pub v_first : KeyHeld w₀ (key_words_at page i) v.1
  v_first =
      let z : 0 + length us'.front ≡ i = omega (arith, front_long) in
      subst (λ n. KeyHeld w₀ (key_words_at page n) v.1) z
      (keys_at w₀ page 0 (fill_of page) us'.front v (s.vs ++ (g.m, g.k) ∷ g.bs) (subst (KeysHeld w₀ (keys_of page)) (sym all_keys) g.keys_held))

  pub v_held : KeyHeld w (key_words_at page i) v.1
  v_held =
      key_frame w₀ w (key_words_at page i) v.1
      (touched_list s.touched v.1.places (all_mono (λ q r. r.0) v.1.places (chain_range v_first.chain)) (λ x. omega (arith, all_once x))) v_first

  pub rise_ends : Ends w (key_words_at page i).head
  rise_ends = held_ends w (key_words_at page i) v.1 v_held

  module _ {w' : List ℕ} {ws' : List ℕ} (l : Lifted)
      (f : (a b : Key) → KeyHeld w (key_words_at page i) a → KeyHeld w key b → Apart a.places b.places → Lifts w w' a b g.k.key l)
      (p : IsInner ws' (mark_of ws) (fill_of ws) (next_of ws) (put_for i l.from (keys_of ws)) (children_of ws)) where
    pub lifts : Lifts w w' v.1 (key_with g.k.key (raised_places g.k.key s.vs g.k.places) (raised g.k.key s.vs g.k.list)) g.k.key l
    lifts =
        f v.1 (key_with g.k.key (raised_places g.k.key s.vs g.k.places) (raised g.k.key s.vs g.k.list)) v_held s.key_held
        (λ x. omega (arith, all_once x, trim_counts x g.k.key s.vs g.k.places))

    pub keys_now : put_for i l.from (take (suc i) (keys_of page) ++ (s.keys ++ drop c (keys_of page))) ≡ take i (keys_of page) ++ ((l.from ∷ s.keys) ++ drop c (keys_of page))
    keys_now =
        let n = keys_long page 0 (fill_of page) in
        let d = key_words_at page i in
        ap (λ (z : List KeyWords). put_for i l.from (z ++ (s.keys ++ drop c (keys_of page)))) (take-suc (keys_of page) i d (omega (arith, s.many)))
        ∙ ap (put_for i l.from) (append_assoc (take i (keys_of page)) (get_or (keys_of page) i d ∷ []) (s.keys ++ drop c (keys_of page)))
        ∙ put_at_lem (take i (keys_of page)) (get_or (keys_of page) i d) l.from (s.keys ++ drop c (keys_of page)) i (length-take-le i (keys_of page) (omega (arith, s.many)))

    pub rise_step : Rising w₀ page c h g w' l.to ws' i
    unfolding v trim raised raised_places
    rise_step =
        record {
          us = us'.front;
          vs = us'.last ∷ s.vs;
          cut = sym (append_assoc us'.front (us'.last ∷ []) s.vs) ∙ ap (λ (z : List (Tree h × Key)). z ++ s.vs) us'.is ∙ s.cut;
          left = front_long;
          keys = l.from ∷ s.keys;
          many = omega (arith, s.many);
          page_is = record {
            mark_is = p.mark_is ∙ s.page_is.mark_is;
            fill_is = p.fill_is ∙ s.page_is.fill_is;
            next_is = p.next_is ∙ s.page_is.next_is;
            keys_are = p.keys_are ∙ ap (put_for i l.from) s.page_is.keys_are ∙ keys_now;
            children_are = p.children_are ∙ s.page_is.children_are;
          };
          keys_held = (
            lifts.from_held,
            keys_frame w w' s.keys (trim g.k.key s.vs) (untouched lifts.touched w s.keys (trim g.k.key s.vs) s.keys_held
                (λ x. omega (arith, all_once x, trim_counts x g.k.key s.vs g.k.places))) s.keys_held,
          );
          key_held = lifts.to_held;
          touched = touched_in (touched_then s.touched lifts.touched) (key_records (us'.last ∷ s.vs))
              (λ x a z. omega (arith, count_append x (key_records s.vs) us'.last.1.places, count_append x us'.last.1.places (key_records s.vs)));
          uses = uses_then s.uses lifts.uses;
        }

pub rise_done : {w₀ page : List ℕ} {c h : ℕ} {g : RaiseReady w₀ page c h} {w : List ℕ} {key : KeyWords} {ws : List ℕ} (j : ℕ) → j ≡ 0 → (t : Risen) → t.page ≡ ws → t.key ≡ key → Rising w₀ page c h g w key ws j → Raised w₀ w page c h g t
rise_done {w₀} {page} {c} {h} {g} {w} {key} {ws} zero z t ep ek s =
    let e : s.vs ≡ g.ls = none s.us s.left s.cut in
    record {
      keys = s.keys;
      many = omega (arith, s.many);
      page_is = subst (λ u. IsInner u (mark_of page) (fill_of page) (next_of page) (s.keys ++ drop c (keys_of page)) (children_of page)) (sym ep) s.page_is;
      keys_held = subst (λ vs. KeysHeld w s.keys (trim g.k.key vs)) e s.keys_held;
      key_held = subst (λ k. KeyHeld w k (key_with g.k.key (raised_places g.k.key g.ls g.k.places) (raised g.k.key g.ls g.k.list))) (sym ek)
          (subst (λ vs. KeyHeld w key (key_with g.k.key (raised_places g.k.key vs g.k.places) (raised g.k.key vs g.k.list))) e s.key_held);
      touched = subst (λ vs. Touched w₀ w (key_records vs)) e s.touched;
      uses = s.uses;
    }
  where
    none : (us : List (Tree h × Key)) {vs ls : List (Tree h × Key)} → length us ≡ 0 → us ++ vs ≡ ls → vs ≡ ls
    none [] n e = e
    none (u ∷ us) n e = absurd (omega arith)
rise_done (suc j) z t ep ek s = absurd (omega arith)

-- THE TURNS of the code's loop
pub x_is : {w page : List ℕ} {c h : ℕ} (g : RaiseReady w page c h) (key : KeyWords) → key ≡ key_words_at page c → key.key ≡ g.k.key
x_is g key e = ap (λ (k : KeyWords). k.key) e ∙ (key_c g).key_is

module _ {w₀ page : List ℕ} {c h : ℕ} {g : RaiseReady w₀ page c h} {w : List ℕ} {key : KeyWords} {ws : List ℕ} (j : ℕ) (low : 1 ≤ j) (s : Rising w₀ page c h g w key ws j) (room : c < fill_of page)
    (from : KeyWords) (is : from ≡ key_words_at page (j - 1)) where
  pub before_j : Rising w₀ page c h g w key ws (suc (j - 1))
  before_j = let e : j ≡ suc (j - 1) = omega arith in subst (Rising w₀ page c h g w key ws) e s

  pub turn_ends : Ends w from.head
  turn_ends = subst (λ (k : KeyWords). Ends w k.head) (sym is) (rise_ends (j - 1) before_j room)

  pub rise_again : {w' ws' : List ℕ} (x : ℕ) (l : Lifted) → x ≡ g.k.key → ((a b : Key) → KeyHeld w from a → KeyHeld w key b → Apart a.places b.places → Lifts w w' a b x l)
      → IsInner ws' (mark_of ws) (fill_of ws) (next_of ws) (put_for (j - 1) l.from (keys_of ws)) (children_of ws) → Rising w₀ page c h g w' l.to ws' (j - 1)
  rise_again {w'} {ws'} x l e f p =
      rise_step (j - 1) before_j room l
      (subst (λ n. (a b : Key) → KeyHeld w n a → KeyHeld w key b → Apart a.places b.places → Lifts w w' a b g.k.key l) is
      (subst (λ n. (a b : Key) → KeyHeld w from a → KeyHeld w key b → Apart a.places b.places → Lifts w w' a b n l) e f)) p
