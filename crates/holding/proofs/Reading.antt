-- An image holds the tree that is read from it, where its lists end; and what it holds is what is read.
-- Assumes nothing.
use Prim.Native.Nat.{ℕ, zero, suc, ◌+◌, ◌≤◌, ◌<◌}
use mathlib.Core.Path.{◌≡◌, refl, sym, ap, ap₂, ◌∙◌, subst}
use mathlib.Core.List.{List, [], ◌∷◌, map, head-eq_of_cons-eq, tail-eq_of_cons-eq}
use lib.ListN.{length, get_or}
use native.Mathlib.Omega.{arith}
use Rattle.words.specs.Lists.{All}
use Rattle.xrtree.specs.Tree.{Key, Tree}
use Rattle.pages.specs.Layout.{page_of, fill_of, child_in, key_word}
use Rattle.image.specs.Read.{chain, record_region, key_at, kids_from, read_tree}
use Rattle.image.specs.Decode.{key_words_at, keys_from, children_from}
use Rattle.image.proofs.Listings.{kids_long}
use Rattle.holding.specs.Held.{KeyHeld, KeysHeld, kid_places, EveryKid, place_of, Held}
use Rattle.holding.proofs.Chains.{chain_read, read_chain}

-- a key whose list ends is held as it is read
abbrev pub Ends : Key → Type 0
Ends k = (length k.places < 501) × All (λ p. (1 ≤ p) × (p ≤ 500)) k.places

-- of every key of a tree
abbrev pub AllKeys : (Key → Type 0) → (h : ℕ) → Tree h → Type 0
AllKeys P zero t = Unit {0}
AllKeys P (suc h) t = All (λ c. P c.1) t.kids × EveryKid (AllKeys P h) t.kids t.last

key_read : (w ws : List ℕ) (i : ℕ) → Ends (key_at w ws i) → KeyHeld w (key_words_at ws i) (key_at w ws i)
key_read w ws i e = record { key_is = refl; start_is = refl; end_is = refl; chain = read_chain w 501 (get_or ws (key_word i + 3) 0) e.0 e.1; list_is = refl }

module _ {A : Type 0} (child : ℕ → A) (place : A → ℕ) (at : (q : ℕ) → place (child q) ≡ q) (w ws : List ℕ) where
  keys_read : (i m : ℕ) → All (λ c. Ends c.1) (kids_from child w ws i m) → KeysHeld w (keys_from ws i m) (kids_from child w ws i m)
  unfolding keys_from kids_from
  keys_read i zero a = tt
  keys_read i (suc m) a = (key_read w ws i a.0, keys_read (suc i) m a.1)

  places_read : (i m : ℕ) → children_from ws i (suc m) ≡ kid_places place (kids_from child w ws i m) (child (child_in ws (i + m)))
  unfolding children_from kids_from
  places_read i zero = let e : i + 0 ≡ i = omega arith in rw (e, at (child_in ws i))
  places_read i (suc m) =
      let e : i + suc m ≡ suc i + m = omega arith in
      rw (e, at (child_in ws i)) (ap (child_in ws i ∷◌) (places_read (suc i) m))

pub place_read : (h : ℕ) (w : List ℕ) (p : ℕ) → place_of h (read_tree h w p) ≡ p
unfolding read_tree
place_read zero w p = refl
place_read (suc h) w p = refl

-- WHAT IS READ IS HELD, where every list ends
kids_held : (h : ℕ) (w ws : List ℕ) → ((q : ℕ) → AllKeys Ends h (read_tree h w q) → Held w h (read_tree h w q))
    → (i m : ℕ) → EveryKid (AllKeys Ends h) (kids_from (read_tree h w) w ws i m) (read_tree h w (child_in ws (i + m)))
    → EveryKid (Held w h) (kids_from (read_tree h w) w ws i m) (read_tree h w (child_in ws (i + m)))
unfolding kids_from
kids_held h w ws f i zero a = f (child_in ws (i + 0)) a
kids_held h w ws f i (suc m) a =
    let e : i + suc m ≡ suc i + m = omega arith in
    (f (child_in ws i) a.0, rw e (kids_held h w ws f (suc i) m (rw e at a.1)))

pub read_held : (h : ℕ) (w : List ℕ) (p : ℕ) → AllKeys Ends h (read_tree h w p) → Held w h (read_tree h w p)
unfolding read_tree
read_held zero w p a = record { entries_are = refl; next_is = refl }
read_held (suc h) w p a =
    let ws = page_of w p in
    let n = fill_of (page_of w p) in (
      record {
        fill_is = sym (kids_long (read_tree h w) w ws 0 n);
        children_are = places n;
        keys_held = keys_read (read_tree h w) (place_of h) (place_read h w) w ws 0 n a.0;
      },
      below (λ q y. read_held h w q y) n a.1,
    )
  where
    places : (n : ℕ) → children_from (page_of w p) 0 (suc n) ≡ kid_places (place_of h) (kids_from (read_tree h w) w (page_of w p) 0 n) (read_tree h w (child_in (page_of w p) n))
    places n = let e : 0 + n ≡ n = omega arith in rw e at (places_read (read_tree h w) (place_of h) (place_read h w) w (page_of w p) 0 n)

    below : ((q : ℕ) → AllKeys Ends h (read_tree h w q) → Held w h (read_tree h w q)) → (n : ℕ) → EveryKid (AllKeys Ends h) (kids_from (read_tree h w) w (page_of w p) 0 n) (read_tree h w (child_in (page_of w p) n))
        → EveryKid (Held w h) (kids_from (read_tree h w) w (page_of w p) 0 n) (read_tree h w (child_in (page_of w p) n))
    below f n x =
        let e : 0 + n ≡ n = omega arith in
        rw e at (kids_held h w (page_of w p) f 0 n (rw e x))

-- WHAT IS HELD IS READ, where no list has more than 500 records
abbrev pub Short : Key → Type 0
Short k = length k.places < 501

key_same : (w ws : List ℕ) (i : ℕ) (k : Key) → Short k → KeyHeld w (key_words_at ws i) k → key_at w ws i ≡ k
key_same w ws i k s g =
    let e = chain_read 501 g.chain s in
    λ j. record { key = g.key_is j; pair_start = g.start_is j; pair_end = g.end_is j; places = e j; list = (ap (map (record_region w)) e ∙ sym g.list_is) j }

kids_same : (h : ℕ) (w ws : List ℕ) (i : ℕ) (cs : List (Tree h × Key)) (last : Tree h) → children_from ws i (suc (length cs)) ≡ kid_places (place_of h) cs last
    → KeysHeld w (keys_from ws i (length cs)) cs → All (λ c. Short c.1) cs → EveryKid (λ t. read_tree h w (place_of h t) ≡ t) cs last
    → (kids_from (read_tree h w) w ws i (length cs) ≡ cs) × (read_tree h w (child_in ws (i + length cs)) ≡ last)
unfolding kids_from keys_from children_from
kids_same h w ws i [] last e k s r =
    let z : i + 0 ≡ i = omega arith in
    (refl, rw (z, head-eq_of_cons-eq e) r)
kids_same h w ws i (c ∷ cs) last e k s r =
    let z : i + suc (length cs) ≡ suc i + length cs = omega arith in
    let q = kids_same h w ws (suc i) cs last (tail-eq_of_cons-eq e) k.1 s.1 r.1 in
    let child : read_tree h w (child_in ws i) ≡ c.0 = ap (read_tree h w) (head-eq_of_cons-eq e) ∙ r.0 in
    let own : key_at w ws i ≡ c.1 = key_same w ws i c.1 s.0 k.0 in
    (ap₂ ◌∷◌ (λ j. (child j, own j)) q.0, rw z q.1)

every_read : (h : ℕ) (w : List ℕ) → ((t : Tree h) → Held w h t → AllKeys Short h t → read_tree h w (place_of h t) ≡ t)
    → (cs : List (Tree h × Key)) (last : Tree h) → EveryKid (Held w h) cs last → EveryKid (AllKeys Short h) cs last → EveryKid (λ t. read_tree h w (place_of h t) ≡ t) cs last
every_read h w f [] last g s = f last g s
every_read h w f (c ∷ cs) last g s = (f c.0 g.0 s.0, every_read h w f cs last g.1 s.1)

pub held_read : (h : ℕ) (w : List ℕ) (t : Tree h) → Held w h t → AllKeys Short h t → read_tree h w (place_of h t) ≡ t
unfolding read_tree
held_read zero w t g s = λ j. record { place = t.place; next = g.next_is j; entries = g.entries_are j }
held_read (suc h) w t g s =
    let ws = page_of w t.place in
    let n = g.0.fill_is in
    let q = kids_same h w ws 0 t.kids t.last (subst (λ m. children_from ws 0 (suc m) ≡ kid_places (place_of h) t.kids t.last) n g.0.children_are)
    (subst (λ m. KeysHeld w (keys_from ws 0 m) t.kids) n g.0.keys_held) s.0 (every_read h w (λ u x y. held_read h w u x y) t.kids t.last g.1 s.1) in
    let z : 0 + length t.kids ≡ length t.kids = omega arith in
    let last : read_tree h w (child_in ws (fill_of ws)) ≡ t.last = ap (λ m. read_tree h w (child_in ws m)) (n ∙ sym z) ∙ q.1 in
    let kids : kids_from (read_tree h w) w ws 0 (fill_of ws) ≡ t.kids = ap (λ m. kids_from (read_tree h w) w ws 0 m) n ∙ q.0 in
    λ j. record { place = t.place; kids = kids j; last = last j }
