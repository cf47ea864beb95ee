-- The keys of a page in words: key by key, their records, one key more; what of them a change of records leaves.
-- Assumes nothing.
use Prim.Native.Nat.{ℕ, zero, suc, ◌+◌, ◌≤◌}
use mathlib.Core.Path.{◌≡◌, refl, sym, ap, ◌∙◌, subst}
use mathlib.Core.List.{List, [], ◌∷◌, ◌++◌, append_assoc}
use lib.ListN.{length, take, drop, take-append-drop}
use native.Mathlib.Omega.{arith}
use Rattle.words.specs.Lists.{All, count, take_while}
use Rattle.words.proofs.Counted.{count_append}
use Rattle.words.proofs.Listed.{all_mono, all_append, all_left, all_right}
use Rattle.regions.specs.Positions.{stabs}
use Rattle.regions.specs.declared.Region.{Region}
use Rattle.xrtree.specs.Tree.{Key}
use Rattle.xrtree.specs.Claims.{pair_is}
use Rattle.xrtree.specs.Moves.{first_start, first_end, key_with, trim, raised_places}
use Rattle.xrtree.specs.Holes.{Post, fill_kids, fill_last}
use Rattle.xrtree.specs.Holes.Post.{at_key, at_end}
use Rattle.pages.specs.declared.KeyWords.{KeyWords}
use Rattle.image.specs.Decode.{key_words_at, keys_from}
use Rattle.holding.specs.Held.{KeyHeld, KeysHeld, kid_places, key_records}
use Rattle.holding.proofs.Chains.{chain_range}
use Rattle.holding.proofs.Frames.{SameRecord, key_frame, keys_frame}
use Rattle.newpages.specs.Pages.{put_in, put_for}
use Rattle.records.specs.Touched.{Touched}
use Rattle.records.proofs.Marks.{touched_list}
use Rattle.steps.specs.Steps.{rekeyed}

-- a key whose stored pair is right
pub key_with_lem : (k : Key) → pair_is k k.list → k ≡ key_with k.key k.places k.list
key_with_lem k p = go k.list refl p
  where
    go : (l : List Region) → k.list ≡ l → pair_is k l → k ≡ key_with k.key k.places k.list
    go [] e p = unfold first_start first_end in λ x. record { key = k.key; pair_start = (p.0 ∙ ap first_start (sym e)) x; pair_end = (p.1 ∙ ap first_end (sym e)) x; places = k.places; list = k.list }
    go (r ∷ rs) e p = unfold first_start first_end in λ x. record { key = k.key; pair_start = (p.0 ∙ ap first_start (sym e)) x; pair_end = (p.1 ∙ ap first_end (sym e)) x; places = k.places; list = k.list }

module _ {A : Type 0} where
  pub records_append : (xs ys : List (A × Key)) → key_records (xs ++ ys) ≡ key_records xs ++ key_records ys
  records_append [] ys = refl
  records_append (x ∷ xs) ys = ap (λ l. x.1.places ++ l) (records_append xs ys) ∙ sym (append_assoc x.1.places (key_records xs) (key_records ys))

  pub records_count : (x : ℕ) (xs ys : List (A × Key)) → count x (key_records (xs ++ ys)) ≡ count x (key_records xs) + count x (key_records ys)
  records_count x xs ys = ap (count x) (records_append xs ys) ∙ count_append x (key_records xs) (key_records ys)

  -- key by key
  pub keys_at : (w ws : List ℕ) (i m : ℕ) (pre : List (A × Key)) (c : A × Key) (cs : List (A × Key)) → KeysHeld w (keys_from ws i m) (pre ++ c ∷ cs) → KeyHeld w (key_words_at ws (i + length pre)) c.1
  unfolding keys_from
  keys_at w ws i zero [] c cs g = absurd g
  keys_at w ws i zero (d ∷ pre) c cs g = absurd g
  keys_at w ws i (suc m) [] c cs g = let e : i + 0 ≡ i = omega arith in subst (λ n. KeyHeld w (key_words_at ws n) c.1) (sym e) g.0
  keys_at w ws i (suc m) (d ∷ pre) c cs g =
      let e : suc i + length pre ≡ i + suc (length pre) = omega arith in
      subst (λ n. KeyHeld w (key_words_at ws n) c.1) e (keys_at w ws (suc i) m pre c cs g.1)

  pub keys_range : (w : List ℕ) (ks : List KeyWords) (cs : List (A × Key)) → KeysHeld w ks cs → All (λ q. (1 ≤ q) × (q ≤ 500)) (key_records cs)
  keys_range w [] [] g = tt
  keys_range w [] (c ∷ cs) g = absurd g
  keys_range w (k ∷ ks) [] g = absurd g
  keys_range w (k ∷ ks) (c ∷ cs) g = all_append (λ q. (1 ≤ q) × (q ≤ 500)) c.1.places (key_records cs) (chain_range g.0.chain) (keys_range w ks cs g.1)

  -- a part of the keys: the words behind and before
  pub keys_split : (w : List ℕ) (ks : List KeyWords) (xs ys : List (A × Key)) → KeysHeld w ks (xs ++ ys) → KeysHeld w (take (length xs) ks) xs × KeysHeld w (drop (length xs) ks) ys
  keys_split w ks [] ys g = (tt, g)
  keys_split w [] (x ∷ xs) ys g = absurd g
  keys_split w (k ∷ ks) (x ∷ xs) ys g = let r = keys_split w ks xs ys g.1 in ((g.0, r.0), r.1)

  -- ONE KEY MORE, before another key or last
  pub keys_more : (w w' : List ℕ) (ks : List KeyWords) (pre : List (A × Key)) (c : A × Key) (cs : List (A × Key)) (l r : A) (k j : Key) (to from : KeyWords) → KeysHeld w ks (pre ++ c ∷ cs)
      → All (SameRecord w w') (key_records pre) → All (SameRecord w w') (key_records cs) → KeyHeld w' to k → KeyHeld w' from j
      → KeysHeld w' (put_in (length pre) to (put_for (length pre) from ks)) ((pre ++ (l, k) ∷ []) ++ (r, j) ∷ cs)
  keys_more w w' [] [] c cs l r k j to from g a b t f = absurd g
  keys_more w w' [] (d ∷ pre) c cs l r k j to from g a b t f = absurd g
  keys_more w w' (x ∷ ks) [] c cs l r k j to from g a b t f = (t, (f, keys_frame w w' ks cs b g.1))
  keys_more w w' (x ∷ ks) (d ∷ pre) c cs l r k j to from g a b t f = (
    key_frame w w' x d.1 (all_left (SameRecord w w') d.1.places (key_records pre) a) g.0,
    keys_more w w' ks pre c cs l r k j to from g.1 (all_right (SameRecord w w') d.1.places (key_records pre) a) b t f,
  )

  pub keys_last : (w : List ℕ) (ks : List KeyWords) (pre : List (A × Key)) (l : A) (k : Key) (to : KeyWords) → KeysHeld w ks pre → KeyHeld w to k → KeysHeld w (put_in (length pre) to ks) (pre ++ (l, k) ∷ [])
  keys_last w [] [] l k to g t = (t, tt)
  keys_last w [] (d ∷ pre) l k to g t = absurd g
  keys_last w (x ∷ ks) [] l k to g t = absurd g
  keys_last w (x ∷ ks) (d ∷ pre) l k to g t = (g.0, keys_last w ks pre l k to g.1 t)

  -- ONE CHILD MORE
  pub places_one_more : (place : A → ℕ) (pre : List (A × Key)) (post : Post A) (t l r : A) (k j : Key) (x : ℕ) → place l ≡ place t → place r ≡ x
      → put_in (suc (length pre)) x (kid_places place (fill_kids pre post t) (fill_last post t)) ≡ kid_places place (fill_kids (pre ++ (l, k) ∷ []) (rekeyed post j) r) (fill_last (rekeyed post j) r)
  places_one_more place [] (at_key a cs last) t l r k j x e f = rw (e, f)
  places_one_more place [] at_end t l r k j x e f = rw (e, f)
  places_one_more place (c ∷ pre) (at_key a cs last) t l r k j x e f = ap (place c.0 ∷◌) (places_one_more place pre (at_key a cs last) t l r k j x e f)
  places_one_more place (c ∷ pre) at_end t l r k j x e f = ap (place c.0 ∷◌) (places_one_more place pre at_end t l r k j x e f)

  -- records whose places a change did not touch
  pub untouched : {w w' : List ℕ} {ps : List ℕ} → Touched w w' ps → (w₁ : List ℕ) (ks : List KeyWords) (cs : List (A × Key)) → KeysHeld w₁ ks cs → ((x : ℕ) → count x ps + count x (key_records cs) ≤ 1) → All (SameRecord w w') (key_records cs)
  untouched t w₁ ks cs g f = touched_list t (key_records cs) (all_mono (λ q r. r.0) (key_records cs) (keys_range w₁ ks cs g)) f

-- THE PLACES of a list and of its two parts
pub count_two : (x n : ℕ) (ps : List ℕ) → count x (take n ps) + count x (drop n ps) ≡ count x ps
count_two x n ps = sym (ap (count x) (sym (take-append-drop n ps)) ∙ count_append x (take n ps) (drop n ps))

pub trim_counts : {A : Type 0} (x k : ℕ) (cs : List (A × Key)) (ps : List ℕ) → count x (key_records (trim k cs)) + count x (raised_places k cs ps) ≡ count x (key_records cs) + count x ps
unfolding trim raised_places
trim_counts x k [] ps = refl
trim_counts x k (c ∷ cs) ps =
    let n = length (take_while (stabs k) c.1.list) in
    omega (
      arith,
      count_append x (drop n c.1.places) (key_records (trim k cs)),
      count_append x (take n c.1.places) (raised_places k cs ps),
      count_append x c.1.places (key_records cs),
      count_two x n c.1.places,
      trim_counts x k cs ps,
    )
