-- The keys of a page, one by one against its words: one of them, all but one, one changed, and all of them where other records changed.
-- Assumes nothing.
use Prim.Native.Nat.{ℕ, suc, ◌+◌, ◌≤◌}
use mathlib.Core.Path.{◌≡◌, refl, ◌∙◌, ap}
use mathlib.Core.List.{List, [], ◌∷◌, ◌++◌, append_assoc}
use lib.ListN.{length, get_or, take, drop}
use native.Mathlib.Omega.{arith}
use Rattle.words.specs.Lists.{All, count}
use Rattle.words.proofs.Listed.{all_mono, all_append}
use Rattle.words.proofs.Counted.{count_append}
use Rattle.regions.specs.declared.Region.{Region}
use Rattle.xrtree.specs.Tree.{Key}
use Rattle.xrtree.specs.Claims.{pair_is}
use Rattle.xrtree.specs.Moves.{first_start, first_end, key_with}
use Rattle.xrtree.specs.Holes.{Post, fill_kids}
use Rattle.xrtree.specs.Holes.Post.{at_key, at_end}
use Rattle.pages.specs.declared.KeyWords.{KeyWords}
use Rattle.holding.specs.Held.{KeyHeld, KeysHeld, key_records}
use Rattle.holding.proofs.Chains.{chain_range}
use Rattle.holding.proofs.Frames.{keys_frame}
use Rattle.newpages.specs.Pages.{taken_out, put_for}
use Rattle.records.specs.Touched.{Touched}
use Rattle.records.proofs.Marks.{touched_list}

-- a page with one child more, from that child on
pub kids_more : {A : Type 0} (pre : List (A × Key)) (post : Post A) (l r : A) (k : Key) → fill_kids (pre ++ (l, k) ∷ []) post r ≡ pre ++ (l, k) ∷ fill_kids [] post r
kids_more pre (at_key j cs last) l r k = append_assoc pre ((l, k) ∷ []) ((r, j) ∷ cs)
kids_more pre at_end l r k = refl

-- a key whose stored pair is right
pub pair_words_lem : (k : Key) (l : List Region) → pair_is k l → (k.pair_start ≡ first_start l) × (k.pair_end ≡ first_end l)
unfolding first_start first_end
pair_words_lem k [] p = p
pair_words_lem k (r ∷ l) p = p

pub key_whole : (w : List ℕ) (x : KeyWords) (k : Key) → pair_is k k.list → KeyHeld w x k → KeyHeld w x (key_with k.key k.places k.list)
key_whole w x k p g =
    let e = pair_words_lem k k.list p in
    record { key_is = g.key_is; start_is = g.start_is ∙ e.0; end_is = g.end_is ∙ e.1; chain = g.chain; list_is = g.list_is }

module _ {A : Type 0} where
  pub keys_join : (w : List ℕ) (xs ys : List KeyWords) (fs bs : List (A × Key)) → KeysHeld w xs fs → KeysHeld w ys bs → KeysHeld w (xs ++ ys) (fs ++ bs)
  keys_join w [] ys [] bs f g = g
  keys_join w [] ys (a ∷ fs) bs f g = absurd f
  keys_join w (x ∷ xs) ys [] bs f g = absurd f
  keys_join w (x ∷ xs) ys (a ∷ fs) bs f g = (f.0, keys_join w xs ys fs bs f.1 g)

  -- the keys before one, that one, the keys behind it
  pub record KeysAt (w : List ℕ) (xs : List KeyWords) (fs : List (A × Key)) (k : Key) (bs : List (A × Key)) (d : KeyWords) : Type 0 where
    pub before : KeysHeld w (take (length fs) xs) fs
    pub here : KeyHeld w (get_or xs (length fs) d) k
    pub behind : KeysHeld w (drop (suc (length fs)) xs) bs

  pub keys_at : (w : List ℕ) (xs : List KeyWords) (fs : List (A × Key)) (c : A × Key) (bs : List (A × Key)) (d : KeyWords) → KeysHeld w xs (fs ++ c ∷ bs) → KeysAt w xs fs c.1 bs d
  keys_at w [] [] c bs d g = absurd g
  keys_at w [] (a ∷ fs) c bs d g = absurd g
  keys_at w (x ∷ xs) [] c bs d g = record { before = tt; here = g.0; behind = g.1 }
  keys_at w (x ∷ xs) (a ∷ fs) c bs d g =
      let r = keys_at w xs fs c bs d g.1 in
      record { before = (g.0, r.before); here = r.here; behind = r.behind }

  -- all but one
  pub keys_out : (w : List ℕ) (xs : List KeyWords) (fs : List (A × Key)) (k : Key) (bs : List (A × Key)) (d : KeyWords) → KeysAt w xs fs k bs d → KeysHeld w (taken_out (length fs) xs) (fs ++ bs)
  keys_out w xs fs k bs d r = keys_join w (take (length fs) xs) (drop (suc (length fs)) xs) fs bs r.before r.behind

  -- one changed
  pub keys_put : (w : List ℕ) (xs : List KeyWords) (fs bs : List (A × Key)) (x : KeyWords) (c : A × Key) → KeysHeld w (take (length fs) xs) fs → KeyHeld w x c.1 → KeysHeld w (drop (suc (length fs)) xs) bs
      → KeysHeld w (put_for (length fs) x xs) (fs ++ c ∷ bs)
  keys_put w xs fs bs x c f g b = keys_join w (take (length fs) xs) (x ∷ drop (suc (length fs)) xs) fs (c ∷ bs) f (g, b)

  -- the keys of a page whose children are others
  pub keys_range : (w : List ℕ) (xs : List KeyWords) (cs : List (A × Key)) → KeysHeld w xs cs → All (λ q. 1 ≤ q) (key_records cs)
  keys_range w [] [] g = tt
  keys_range w [] (c ∷ cs) g = absurd g
  keys_range w (x ∷ xs) [] g = absurd g
  keys_range w (x ∷ xs) (c ∷ cs) g =
      all_append (λ q. 1 ≤ q) c.1.places (key_records cs) (all_mono (λ q r. r.0) c.1.places (chain_range g.0.chain)) (keys_range w xs cs g.1)

  -- records elsewhere changed
  pub keys_touched : {w w' : List ℕ} {ps : List ℕ} → Touched w w' ps → (xs : List KeyWords) (cs : List (A × Key)) → ((x : ℕ) → count x ps + count x (key_records cs) ≤ 1)
      → KeysHeld w xs cs → KeysHeld w' xs cs
  keys_touched {w} {w'} t xs cs f g = keys_frame w w' xs cs (touched_list t (key_records cs) (keys_range w xs cs g) f) g

  pub records_append : (x : ℕ) (fs bs : List (A × Key)) → count x (key_records (fs ++ bs)) ≡ count x (key_records fs) + count x (key_records bs)
  unfolding count
  records_append x [] bs = omega arith
  records_append x (a ∷ fs) bs =
      omega (arith, count_append x a.1.places (key_records (fs ++ bs)), count_append x a.1.places (key_records fs), records_append x fs bs)

module _ {A : Type 0} where
  pub keys_long : (w : List ℕ) (xs : List KeyWords) (cs : List (A × Key)) → KeysHeld w xs cs → length xs ≡ length cs
  keys_long w [] [] g = refl
  keys_long w [] (c ∷ cs) g = absurd g
  keys_long w (x ∷ xs) [] g = absurd g
  keys_long w (x ∷ xs) (c ∷ cs) g = ap suc (keys_long w xs cs g.1)
