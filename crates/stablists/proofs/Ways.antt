-- The small tests and steps, one law for each way out of their functions: what is answered there is what the definition says.
-- Assumes nothing.
use Prim.Native.Nat.{ℕ, suc}
use mathlib.Core.Path.{◌≡◌, sym, ap, ◌∙◌}
use mathlib.Core.Bool.{Bool, ◌&&◌}
use mathlib.Core.List.{List, [], ◌∷◌, map}
use lib.Dec.{eqb}
use Rattle.words.proofs.Tests.{eq_yes, eq_no}
use Rattle.regions.specs.declared.Region.{Region}
use Rattle.xrtree.specs.Tree.{Key}
use Rattle.xrtree.specs.Rules.{pair_right}
use Rattle.pages.specs.Layout.{region_in, record_of, record_next}
use Rattle.pages.specs.declared.KeyWords.{KeyWords}
use Rattle.image.specs.Read.{chain, record_region, key_at}
use Rattle.stablists.specs.Pass.{head_in}

-- the stored pair of a key
pub pair_not : (k : KeyWords) (s e : ℕ) → (k.start ≡ s → ⊥) → eqb k.start s ≡ (eqb k.start s && eqb k.end e)
pair_not k s e a = rw (eq_no k.start s a)

pub pair_is_lem : (k : KeyWords) (s e : ℕ) → k.start ≡ s → eqb k.end e ≡ (eqb k.start s && eqb k.end e)
pair_is_lem k s e a = rw (eq_yes k.start s a)

-- what follows from a head
pub chain_none : (n : ℕ) (w : List ℕ) (q : ℕ) → q ≡ 0 → chain (suc n) w q ≡ []
unfolding chain
chain_none n w q a = rw (eq_yes q 0 a)

pub chain_more : (n : ℕ) (w : List ℕ) (q : ℕ) → (q ≡ 0 → ⊥) → chain (suc n) w q ≡ q ∷ chain n w (record_next (record_of w q))
unfolding chain
chain_more n w q a = rw (eq_no q 0 a)

pub pair_none : (k : Key) (l : List Region) → l ≡ [] → pair_right k l ≡ (eqb k.pair_start 0 && eqb k.pair_end 0)
unfolding pair_right
pair_none k l e = rw e

pub pair_first : (k : Key) (l : List Region) (r : Region) (rs : List Region) → l ≡ r ∷ rs → pair_right k l ≡ (eqb k.pair_start r.start && eqb k.pair_end r.end)
unfolding pair_right
pair_first k l r rs e = rw e

module _ (w ws : List ℕ) (i : ℕ) where
  pub pair_at_none : head_in ws i ≡ 0 → pair_right (key_at w ws i) (key_at w ws i).list ≡ (eqb (key_at w ws i).pair_start 0 && eqb (key_at w ws i).pair_end 0)
  pair_at_none a = pair_none (key_at w ws i) (key_at w ws i).list (ap (map (record_region w)) (chain_none 500 w (head_in ws i) a))

  pub pair_at_first : (head_in ws i ≡ 0 → ⊥) → pair_right (key_at w ws i) (key_at w ws i).list
      ≡ (eqb (key_at w ws i).pair_start (record_region w (head_in ws i)).start && eqb (key_at w ws i).pair_end (record_region w (head_in ws i)).end)
  pair_at_first a =
      pair_first (key_at w ws i) (key_at w ws i).list (record_region w (head_in ws i)) _ (ap (map (record_region w)) (chain_more 500 w (head_in ws i) a))

  -- as the code has it: k holds the key's words
  pub pair_code_none : (k : KeyWords) (b : Bool) → k.start ≡ (key_at w ws i).pair_start → k.end ≡ (key_at w ws i).pair_end → k.head ≡ head_in ws i → k.head ≡ 0
      → b ≡ (eqb k.start 0 && eqb k.end 0) → b ≡ pair_right (key_at w ws i) (key_at w ws i).list
  pair_code_none k b s e h z f = f ∙ rw (s, e) (sym (pair_at_none (sym h ∙ z)))

  pub pair_code_first : (k : KeyWords) (x : Region) (b : Bool) → k.start ≡ (key_at w ws i).pair_start → k.end ≡ (key_at w ws i).pair_end → k.head ≡ head_in ws i → (k.head ≡ 0 → ⊥)
      → x ≡ region_in (record_of w k.head) 0 → b ≡ (eqb k.start x.start && eqb k.end x.end) → b ≡ pair_right (key_at w ws i) (key_at w ws i).list
  unfolding record_region
  pair_code_first k x b s e h z g f = f ∙ rw (g, s, e, h) (sym (pair_at_first (λ y. z (h ∙ y))))
