-- The children of a page cut at a key: what is listed of the two parts, what every child of them has.
-- Assumes nothing.
use Prim.Native.Nat.{ℕ, zero, suc, ◌<◌}
use mathlib.Core.Path.{◌≡◌, refl, sym, ap, ◌∙◌}
use mathlib.Core.Bool.{Bool}
use mathlib.Core.List.{List, [], ◌∷◌, ◌++◌}
use lib.Dec.{T}
use lib.ListN.{length, take, drop}
use native.Mathlib.Omega.{arith}
use Rattle.words.proofs.Tests.{and_left, and_right, and_both}
use Rattle.xrtree.specs.Tree.{Key, weave, keys_in, all_kids}
use Rattle.xrtree.specs.Moves.{trim}
use Rattle.xrtree.proofs.Split.{weave_two}
use Rattle.holding.specs.Held.{kid_places, EveryKid}

module _ {A : Type 0} where
  -- key c with the child on its left, and what stands before and behind
  pub record Mid (cs : List (A × Key)) (c : ℕ) : Type 0 where
    pub ls : List (A × Key)
    pub m : A
    pub k : Key
    pub bs : List (A × Key)
    pub is : ls ++ (m, k) ∷ bs ≡ cs
    pub index : length ls ≡ c

  pub mid_at : (cs : List (A × Key)) (c : ℕ) → c < length cs → Mid cs c
  mid_at [] c h = absurd (omega arith)
  mid_at (x ∷ cs) zero h = record { ls = []; m = x.0; k = x.1; bs = cs; is = refl; index = refl }
  mid_at (x ∷ cs) (suc c) h = let r = mid_at cs c (omega arith) in record { ls = x ∷ r.ls; m = r.m; k = r.k; bs = r.bs; is = ap (x ∷◌) r.is; index = ap suc r.index }

  pub trim_long : (k : ℕ) (cs : List (A × Key)) → length (trim k cs) ≡ length cs
  unfolding trim
  trim_long k [] = refl
  trim_long k (c ∷ cs) = ap suc (trim_long k cs)

  -- the keys
  pub keys_cut : (n : ℕ) (ls : List (A × Key)) (m : A) (k : Key) (bs : List (A × Key)) → keys_in (trim n ls) ++ k.key ∷ keys_in bs ≡ keys_in (ls ++ (m, k) ∷ bs)
  unfolding trim keys_in
  keys_cut n [] m k bs = refl
  keys_cut n (c ∷ ls) m k bs = ap (c.1.key ∷◌) (keys_cut n ls m k bs)

  -- the places of the children
  pub places_left : (place : A → ℕ) (n : ℕ) (ls : List (A × Key)) (m : A) (k : Key) (bs : List (A × Key)) (z : A) → take (suc (length ls)) (kid_places place (ls ++ (m, k) ∷ bs) z) ≡ kid_places place (trim n ls) m
  unfolding trim
  places_left place n [] m k bs z = refl
  places_left place n (c ∷ ls) m k bs z = ap (place c.0 ∷◌) (places_left place n ls m k bs z)

  pub places_right : (place : A → ℕ) (ls : List (A × Key)) (m : A) (k : Key) (bs : List (A × Key)) (z : A) → drop (suc (length ls)) (kid_places place (ls ++ (m, k) ∷ bs) z) ≡ kid_places place bs z
  places_right place [] m k bs z = refl
  places_right place (c ∷ ls) m k bs z = places_right place ls m k bs z

  -- every child
  pub every_cut : (P : A → Type 0) (n : ℕ) (ls : List (A × Key)) (m : A) (k : Key) (bs : List (A × Key)) (z : A) → EveryKid P (ls ++ (m, k) ∷ bs) z → EveryKid P (trim n ls) m × EveryKid P bs z
  unfolding trim
  every_cut P n [] m k bs z g = (g.0, g.1)
  every_cut P n (c ∷ ls) m k bs z g = let r = every_cut P n ls m k bs z g.1 in ((g.0, r.0), r.1)

  pub all_cut : (p : A → Bool) (n : ℕ) (ls : List (A × Key)) (m : A) (k : Key) (bs : List (A × Key)) (z : A) → T (all_kids p (ls ++ (m, k) ∷ bs) z) → T (all_kids p (trim n ls) m) × T (all_kids p bs z)
  unfolding trim all_kids
  all_cut p n [] m k bs z t = (and_left (p m) _ t, and_right (p m) _ t)
  all_cut p n (c ∷ ls) m k bs z t =
      let r = all_cut p n ls m k bs z (and_right (p c.0) _ t) in
      (and_both (p c.0) _ (and_left (p c.0) _ t) r.0, r.1)

-- a listing of the children
module _ {A B : Type 0} (f : A → List B) where
  weave_cut : (n : ℕ) (cs : List (A × Key)) (m : A) → weave f (λ (k : Key). []) (trim n cs) m ≡ weave f (λ (k : Key). []) cs m
  unfolding weave trim
  weave_cut n [] m = refl
  weave_cut n (c ∷ cs) m = ap (λ (z : List B). f c.0 ++ z) (weave_cut n cs m)

  pub listed_cut : (n : ℕ) (ls : List (A × Key)) (m : A) (k : Key) (bs : List (A × Key)) (z : A)
      → weave f (λ (k : Key). []) (trim n ls) m ++ weave f (λ (k : Key). []) bs z ≡ weave f (λ (k : Key). []) (ls ++ (m, k) ∷ bs) z
  listed_cut n ls m k bs z = ap (λ (l : List B). l ++ weave f (λ (k : Key). []) bs z) (weave_cut n ls m) ∙ sym (weave_two f (λ (k : Key). []) ls bs m z k)
