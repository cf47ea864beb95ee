-- A list that goes on elsewhere behind one of its places; a key renewed; the two parts of a key's list.
-- Assumes nothing.
use Prim.Native.Nat.{ℕ, ◌≤◌}
use mathlib.Core.Path.{◌≡◌, refl, sym, ap, ◌∙◌, subst}
use mathlib.Core.Logic.{◌≢◌}
use mathlib.Core.Bool.{Bool, cond}
use mathlib.Core.List.{List, [], ◌∷◌, ◌++◌, map}
use lib.Dec.{eqb}
use lib.ListN.{length, take, drop, take-append-drop}
use native.Mathlib.Omega.{arith}
use Rattle.words.specs.Lists.{count, take_while, drop_while, last_or}
use Rattle.words.proofs.Tests.{by_test, eq_of, eq_yes, eq_no}
use Rattle.words.proofs.Listed.{all_left}
use Rattle.words.proofs.Counted.{count_append, count_none, count_other}
use Rattle.regions.specs.declared.Region.{Region}
use Rattle.xrtree.specs.Tree.{Key}
use Rattle.xrtree.specs.Moves.{key_with, first_start, first_end}
use Rattle.pages.specs.Layout.{record_of, record_next, record_used}
use Rattle.pages.specs.declared.KeyWords.{KeyWords}
use Rattle.image.specs.Read.{record_region}
use Rattle.holding.specs.Held.{Chain, KeyHeld}
use Rattle.holding.specs.Held.Chain.{done, link}
use Rattle.holding.proofs.Chains.{chain_range}
use Rattle.store.proofs.Frames.{set_next_next, set_next_region, set_next_used}
use Rattle.records.specs.Touched.{Touched}
use Rattle.records.specs.Ways.{passing, LastOf, linked_words, linked_head, first_or0, key_from}
use Rattle.records.proofs.Chains.{places_are, chain_fresh, first, last_off, last_range}
use Rattle.records.proofs.Marks.{none_in, touched_none, touched_next}

-- what `link` leaves
pub record Linked (w w' : List ℕ) (p n : ℕ) : Type 0 where
  pub touched : Touched w w' (p ∷ [])
  pub next : p ≢ 0 → record_next (record_of w' p) ≡ n
  pub region : (q : ℕ) → record_region w' q ≡ record_region w q
  pub used : (q : ℕ) → record_used w' q ≡ record_used w q

pub linked : (w : List ℕ) (p n : ℕ) → length w ≡ 12288 → p ≤ 500 → Linked w (linked_words w p n) p n
unfolding linked_words
linked w p n l h =
    by_test (eqb p 0)
    (λ t. rw t (record { touched = touched_none w (p ∷ []); next = λ z. absurd (z (eq_of p 0 t)); region = λ q. refl; used = λ q. refl }))
    (λ t. rw t (record { touched = touched_next w p n; next = λ z. set_next_next w p n l h; region = set_next_region w p n; used = set_next_used w p n }))

-- a record other than p stays
pub linked_same : {w w' : List ℕ} {p n : ℕ} → Linked w w' p n → (q : ℕ) → 1 ≤ q → q ≢ p → record_of w' q ≡ record_of w q
linked_same {p = p} k q l d = k.touched.records q l (count_other q p [] d ∙ none_in q)

-- a list in which p does not stand stays
pub linked_list : {w w' : List ℕ} {p n : ℕ} → Linked w w' p n → {h : ℕ} {qs : List ℕ} → count p qs ≡ 0 → Chain w h qs → Chain w' h qs
linked_list {p = p} k z done = done
linked_list {w' = w'} {p = p} k z (link {q = q} {ps = ps} l u c) =
    let d = count_none p q ps z in
    link {ps = ps} l u (subst (λ r. Chain w' (record_next r) ps) (sym (linked_same k q l d.0)) (linked_list k d.1 c))

-- THE SPLICE: the beginning xs of one list, then the list from n on
splice_on : {w w' : List ℕ} {p n : ℕ} → Linked w w' p n → (x : ℕ) (xs ys zs : List ℕ) → p ≡ last_or x xs → Chain w x (x ∷ (xs ++ ys)) → Chain w' n zs → Chain w' x (x ∷ (xs ++ zs))
unfolding last_or
splice_on {w' = w'} {p = p} k x [] ys zs e c d =
    let f = first c in
    let g = ap (λ z. record_next (record_of w' z)) (sym e) ∙ k.next (λ z. omega (arith, f.low)) in
    link {ps = zs} f.low f.high (subst (λ z. Chain w' z zs) (sym g) d)
splice_on {w} {w'} {p = p} k x (y ∷ xs) ys zs e c d =
    let f = first c in
    let s = (first f.on).is in
    let z = chain_fresh f.low f.high f.on in
    let o : last_or y xs ≢ x = last_off x y xs (omega (arith, count_append x (y ∷ xs) ys)) in
    let g = ap record_next (linked_same k x f.low (λ q. o (sym (q ∙ e)))) ∙ s in
    link {ps = y ∷ (xs ++ zs)} f.low f.high
    (subst (λ q. Chain w' q (y ∷ (xs ++ zs))) (sym g) (splice_on k y xs ys zs e (subst (λ q. Chain w q (y ∷ (xs ++ ys))) s f.on) d))

pub splice : {w w' : List ℕ} {p n : ℕ} → Linked w w' p n → (h : ℕ) (xs ys zs : List ℕ) → p ≡ last_or 0 xs → Chain w h (xs ++ ys) → Chain w' n zs → Chain w' (linked_head h p n) (xs ++ zs)
unfolding last_or linked_head
splice {p = p} k h [] ys zs e c d = rw (eq_yes p 0 e) d
splice {w} {w'} {p = p} k h (x ∷ xs) ys zs e c d =
    let a = last_range x xs (all_left (λ p. (1 ≤ p) × (p ≤ 500)) (x ∷ xs) ys (chain_range c)) in
    let f = first c in
    rw (eq_no p 0 (λ z. omega (arith, a.0)))
    (subst (λ z. Chain w' z (x ∷ (xs ++ zs))) (sym f.is) (splice_on k x xs ys zs e (subst (λ z. Chain w z (x ∷ (xs ++ ys))) f.is c) d))

-- A KEY RENEWED: its words with the stored pair of its list
pub renewed_held : {w : List ℕ} {h : ℕ} {ps : List ℕ} (n m : ℕ) (l : List Region) → n ≡ m → Chain w h ps → l ≡ map (record_region w) ps → KeyHeld w (key_from w n h) (key_with m ps l)
unfolding first_or0 first_start first_end
renewed_held n m l e done g = record { key_is = e; start_is = sym (ap first_start g); end_is = sym (ap first_end g); chain = done; list_is = g }
renewed_held {w} n m l e (link {q = q} {ps = ps} a b c) g =
    let z = eq_no q 0 (omega arith) in
    record {
      key_is = e;
      start_is = ap (λ t. cond t 0 (record_region w q).start) z ∙ sym (ap first_start g);
      end_is = ap (λ t. cond t 0 (record_region w q).end) z ∙ sym (ap first_end g);
      chain = link {ps = ps} a b c;
      list_is = g;
    }

-- THE TWO PARTS of a key's list by a test: their places, and their regions
module _ {A B : Type 0} (f : A → B) (P : B → Bool) where
  front_take : (xs : List A) → take (length (take_while P (map f xs))) xs ≡ take_while (λ x. P (f x)) xs
  unfolding take_while
  front_take [] = refl
  front_take (x ∷ xs) = by_test (P (f x)) (λ h. rw h (ap (x ∷◌) (front_take xs))) (λ h. rw h)

  front_map : (xs : List A) → map f (take (length (take_while P (map f xs))) xs) ≡ take_while P (map f xs)
  unfolding take_while
  front_map [] = refl
  front_map (x ∷ xs) = by_test (P (f x)) (λ h. rw h (ap (f x ∷◌) (front_map xs))) (λ h. rw h)

  back_map : (xs : List A) → map f (drop (length (take_while P (map f xs))) xs) ≡ drop_while P (map f xs)
  unfolding take_while drop_while
  back_map [] = refl
  back_map (x ∷ xs) = by_test (P (f x)) (λ h. rw h (back_map xs)) (λ h. rw h)

pub record Cut (P : Region → Bool) (w : List ℕ) (h p : ℕ) (xs ys : List ℕ) (l : List Region) : Type 0 where
  pub last : p ≡ last_or 0 xs
  pub chain : Chain w h (xs ++ ys)
  pub front : map (record_region w) xs ≡ take_while P l
  pub back : map (record_region w) ys ≡ drop_while P l

pub cut : {P : Region → Bool} {w : List ℕ} (k : KeyWords) (key : Key) (p : ℕ) → LastOf P w k.head p → KeyHeld w k key
    → Cut P w k.head p (take (length (take_while P key.list)) key.places) (drop (length (take_while P key.list)) key.places) key.list
cut {P} {w} k key p o h =
    let m : key.list ≡ map (record_region w) key.places = h.list_is in
    rw m
    (record {
      last = o.is ∙ ap (λ z. last_or 0 (take_while (passing P w) z)) (places_are h.chain) ∙ ap (last_or 0) (sym (front_take (record_region w) P key.places));
      chain = subst (Chain w k.head) (sym (take-append-drop (length (take_while P (map (record_region w) key.places))) key.places)) h.chain;
      front = front_map (record_region w) P key.places;
      back = back_map (record_region w) P key.places;
    })
