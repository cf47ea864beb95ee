-- The leaf split entry by entry.
-- Assumes nothing.
use Prim.Native.Nat.{ℕ, ◌-◌, ◌≤◌, ◌<◌}
use mathlib.Core.Path.{◌≡◌, refl, ap, ap₂, ◌∙◌}
use mathlib.Core.Bool.{false, ◌&&◌}
use mathlib.Core.List.{List, [], ◌∷◌, ◌++◌, map, append-nil}
use lib.Dec.{ltb, eqb}
use native.Mathlib.Omega.{arith}
use Rattle.words.specs.Lists.{filter, All, Pairs}
use Rattle.words.proofs.Tests.{off_t, by_test, and_right, lt_of}
use Rattle.words.proofs.Listed.{all_mono, filter_append, filter_none, map_append}
use Rattle.regions.specs.Positions.{stabs}
use Rattle.regions.specs.declared.Region.{Region}
use Rattle.xrtree.specs.Tree.{Entry, region_of}
use Rattle.xrtree.specs.Rules.{key_between}
use Rattle.xrtree.proofs.Box.{of_stabs}
use Rattle.xrtree.specs.Moves.{marked, fresh}

-- LEAF SPLIT. The new key's own regions: those of the left leaf, then perhaps the first of the right one. (Each wants flag 0: the right one's first too, which may be in a list already.)
pub fresh_append : (k : ℕ) (xs ys : List Entry) → fresh k (xs ++ ys) ≡ fresh k xs ++ fresh k ys
unfolding fresh
fresh_append k xs ys =
    ap (map region_of) (filter_append (λ (e : Entry). eqb e.flag 0 && stabs k e.region) xs ys)
    ∙ map_append region_of (filter (λ (e : Entry). eqb e.flag 0 && stabs k e.region) xs) (filter (λ (e : Entry). eqb e.flag 0 && stabs k e.region) ys)

fresh_none : (k : ℕ) (ys : List Entry) → All (λ (e : Entry). k < e.region.start) ys → fresh k ys ≡ []
unfolding fresh
fresh_none k ys h =
    ap (map region_of) (filter_none (λ (e : Entry). eqb e.flag 0 && stabs k e.region) ys
    (all_mono (λ e m. off_t (eqb e.flag 0 && stabs k e.region) (λ t. let s = of_stabs k e.region (and_right (eqb e.flag 0) _ t) in omega arith)) ys h))

pub fresh_first : (k : ℕ) (xs : List Entry) (y : Entry) (ys : List Entry) → All (λ (e : Entry). k < e.region.start) ys → fresh k (xs ++ y ∷ ys) ≡ fresh k xs ++ fresh k (y ∷ [])
fresh_first k xs y ys h =
    fresh_append k xs (y ∷ ys)
    ∙ ap (λ (z : List Region). fresh k xs ++ z) (fresh_append k (y ∷ []) ys ∙ ap (λ (z : List Region). fresh k (y ∷ []) ++ z) (fresh_none k ys h) ∙ append-nil (fresh k (y ∷ [])))

-- the flags that do not change
pub marked_off : (k : ℕ) (e : Entry) → stabs k e.region ≡ false → marked k e ≡ e
unfolding marked
marked_off k e h = rw h

pub marked_later : (k : ℕ) (ys : List Entry) → All (λ (e : Entry). k < e.region.start) ys → map (marked k) ys ≡ ys
marked_later k [] h = refl
marked_later k (y ∷ ys) h =
    ap₂ ◌∷◌ (marked_off k y (off_t (stabs k y.region) (λ t. let s = of_stabs k y.region t in omega (arith, h.0)))) (marked_later k ys h.1)

-- THE KEY between two leaves
pub key_between_lem : (last first : ℕ) → last < first → (last < key_between last first) × (key_between last first ≤ first)
unfolding key_between
key_between_lem last first h =
    by_test (ltb last (first - 1)) (λ t. rw t (lt_of last (first - 1) t, omega arith)) (λ t. rw t (h, omega arith))

-- A CUT of a leaf between z and y, at a key k with z.start < k ≤ y.start: what the split asks
pub record Cut (k : ℕ) (xs : List Entry) (y : Entry) (ys : List Entry) : Type 0 where
  pub low : All (λ (e : Entry). e.region.start < k) xs
  pub high : All (λ (e : Entry). k ≤ e.region.start) (y ∷ ys)
  pub past : All (λ (e : Entry). k < e.region.start) ys

past_of : (k s : ℕ) (ys : List Entry) → k ≤ s → All (λ (r : Region). s < r.start) (map region_of ys) → All (λ (e : Entry). k < e.region.start) ys
past_of k s [] l a = tt
past_of k s (y ∷ ys) l a = (omega (arith, a.0), past_of k s ys l a.1)

pub cut : (k : ℕ) (zs : List Entry) (z y : Entry) (ys : List Entry) → Pairs (λ (x y : Region). x.start < y.start) (map region_of (zs ++ z ∷ y ∷ ys))
    → z.region.start < k → k ≤ y.region.start → Cut k (zs ++ z ∷ []) y ys
cut k [] z y ys p a b =
    let w = past_of k y.region.start ys b p.1.0 in
    record { low = (a, tt); high = (b, all_mono (λ e m. omega arith) ys w); past = w }
cut k (x ∷ zs) z y ys p a b =
    let r = cut k zs z y ys p.1 a b in
    record { low = (below zs p.0, r.low); high = r.high; past = r.past }
  where
    below : (ws : List Entry) → All (λ (r : Region). x.region.start < r.start) (map region_of (ws ++ z ∷ y ∷ ys)) → x.region.start < k
    below [] m = omega (arith, m.0)
    below (w ∷ ws) m = below ws m.1
