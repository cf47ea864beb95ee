-- Lists in the words: one reading, each place once, unchanged where their records are.
-- Assumes nothing.
use Prim.Native.Nat.{ℕ, zero, suc, ◌≤◌, ◌<◌}
use mathlib.Core.Path.{◌≡◌, refl, sym, ap, subst}
use mathlib.Core.Bool.{Bool, true, false, cond}
use mathlib.Core.List.{List, [], ◌∷◌, map}
use lib.Dec.{eqb}
use lib.ListN.{length}
use native.Mathlib.Omega.{arith}
use Rattle.words.specs.Lists.{All}
use Rattle.words.proofs.Tests.{eq_no, eq_of}
use Rattle.pages.specs.Layout.{record_of, record_next}
use Rattle.image.specs.Read.{chain, record_region}
use Rattle.holding.specs.Held.{Chain}
use Rattle.holding.specs.Held.Chain.{done, link}

-- the functional reading of a list that ends, with enough followed
pub chain_read : {w : List ℕ} {q : ℕ} {ps : List ℕ} (n : ℕ) → Chain w q ps → length ps < n → chain n w q ≡ ps
unfolding chain
chain_read zero c h = absurd (omega arith)
chain_read (suc n) done h = refl
chain_read {w = w} (suc n) (link {q = q} a b c) h = rw (eq_no q 0 (omega arith)) (ap (q ∷◌) (chain_read {q = record_next (record_of w q)} n c (omega arith)))

-- and back: what was followed ended before it had to, all places in range
pub read_chain : (w : List ℕ) (n q : ℕ) → length (chain n w q) < n → All (λ p. (1 ≤ p) × (p ≤ 500)) (chain n w q) → Chain w q (chain n w q)
unfolding chain
read_chain w zero q h a = absurd (omega arith)
read_chain w (suc n) q h a = go (eqb q 0) refl h a (λ l r. read_chain w n (record_next (record_of w q)) l r)
  where
    go : (b : Bool) → eqb q 0 ≡ b → length (cond b [] (q ∷ chain n w (record_next (record_of w q)))) < suc n → All (λ p. (1 ≤ p) × (p ≤ 500)) (cond b [] (q ∷ chain n w (record_next (record_of w q))))
        → (length (chain n w (record_next (record_of w q))) < n → All (λ p. (1 ≤ p) × (p ≤ 500)) (chain n w (record_next (record_of w q))) → Chain w (record_next (record_of w q)) (chain n w (record_next (record_of w q))))
        → Chain w q (cond b [] (q ∷ chain n w (record_next (record_of w q))))
    go true e l r k = subst (λ x. Chain w x []) (sym (eq_of q 0 e)) done
    go false e l r k = link r.0.0 r.0.1 (k (omega arith) r.1)

-- a list is as it was where its records are
pub chain_frame : {w w' : List ℕ} {q : ℕ} {ps : List ℕ} → Chain w q ps → All (λ p. record_of w' p ≡ record_of w p) ps → Chain w' q ps
chain_frame done a = done
chain_frame {w' = w'} (link {q = q} {ps = ps} l u c) a = link {ps = ps} l u (subst (λ r. Chain w' (record_next r) ps) (sym a.0) (chain_frame c a.1))

pub regions_frame : (w w' : List ℕ) (ps : List ℕ) → All (λ p. record_of w' p ≡ record_of w p) ps → map (record_region w') ps ≡ map (record_region w) ps
unfolding record_region
regions_frame w w' [] a = refl
regions_frame w w' (p ∷ ps) a = rw (a.0, regions_frame w w' ps a.1)

-- the places of a list are in range
pub chain_range : {w : List ℕ} {q : ℕ} {ps : List ℕ} → Chain w q ps → All (λ p. (1 ≤ p) × (p ≤ 500)) ps
chain_range done = tt
chain_range (link l u c) = ((l, u), chain_range c)
