-- The flag of an entry that comes into a leaf: 1 where a key on the way owns the region. The leaf does not matter to the owner.
-- Assumes nothing.
use Rattle.std.specs.Prelude.{Option}
use Prim.Native.Nat.{ℕ, zero, suc, ◌≤◌, ◌<◌}
use mathlib.Core.Path.{◌≡◌, refl, sym, ap, ◌∙◌}
use mathlib.Core.Bool.{Bool, true, false, ◌&&◌, cond}
use mathlib.Core.List.{List, [], ◌∷◌}
use lib.Dec.{ltb, leb, leb→le, ltb→lt}
use native.Mathlib.Omega.{arith}
use Rattle.words.proofs.Tests.{by_test, off_t, and_left, and_right, lt_of, nlt_of, le_of, nle_of, lt_yes, lt_no, le_yes}
use Rattle.xrtree.specs.Tree.{Key, Leaf, Tree}
use Rattle.xrtree.specs.Claims.{Page, Claim, InKids, In, flag_of}
use Rattle.xrtree.specs.Local.{NoKey, FlagsAre}
use Rattle.owners.specs.Owners.{spot_at}
use Rattle.owners.specs.declared.Spot.{Spot}
use Rattle.entries.specs.Ways.{kids_at, at_leaf}
use Rattle.entries.specs.Owners.{spot_kids, spot_of, flag_at}

-- THE OWNER does not mind the leaf
module _ {A : Type 0} (f : A → A) (g : A → Option Spot) (s e q : ℕ) (same : (c : A) → g (f c) ≡ g c) where
  kids_spot_same : (i : ℕ) (cs : List (A × Key)) (last : A) → spot_kids g s e q i (kids_at f s cs last).0 (kids_at f s cs last).1 ≡ spot_kids g s e q i cs last
  unfolding spot_kids kids_at
  kids_spot_same i [] last = same last
  kids_spot_same i (c ∷ cs) last =
      by_test (ltb s c.1.key)
      (λ t. rw (t, same c.0))
      (λ t. rw (t, kids_spot_same (suc i) cs last))

pub spot_same : (f : Leaf → Leaf) (s e h : ℕ) (t : Tree h) → spot_of s e h (at_leaf f s h t) ≡ spot_of s e h t
unfolding spot_of at_leaf
spot_same f s e zero t = refl
spot_same f s e (suc h) t = kids_spot_same (at_leaf f s h) (spot_of s e h) s e t.place (λ c. spot_same f s e h c) 0 t.kids t.last

-- FLAGS: b is the new entry's flag
module _ (f : Leaf → Leaf) (s e b : ℕ) (l : s ≤ e)
    (keep : (lo hi : ℕ) (t : Leaf) → b ≡ flag_of (leb lo s && ltb e hi) → FlagsAre lo hi t.entries → FlagsAre lo hi (f t).entries) where
  -- a key above owns
  off_page : b ≡ 1 → (h : ℕ) → ((lo hi : ℕ) (c : Tree h) → In h lo hi c → (lo ≤ s → e < hi → ⊥) → Claim NoKey FlagsAre h lo hi c → Claim NoKey FlagsAre h lo hi (at_leaf f s h c))
      → (lo hi : ℕ) (cs : List (Tree h × Key)) (last : Tree h) → InKids (In h) lo hi cs last → (lo ≤ s → e < hi → ⊥)
      → Page NoKey (Claim NoKey FlagsAre h) lo hi cs last → Page NoKey (Claim NoKey FlagsAre h) lo hi (kids_at (at_leaf f s h) s cs last).0 (kids_at (at_leaf f s h) s cs last).1
  unfolding kids_at
  off_page one h ih lo hi [] last i n p = ih lo hi last i n p
  off_page one h ih lo hi (c ∷ cs) last i n p =
      by_test (ltb s c.1.key)
      (λ t. rw t (tt, ih lo c.1.key c.0 i.1 (λ x y. n x (omega (arith, i.0.1))) p.1, p.2))
      (λ t. rw t (tt, p.1, off_page one h ih (suc c.1.key) hi cs last i.2 (λ x y. n (omega (arith, i.0.0)) y) p.2))

  off_tree : b ≡ 1 → (h lo hi : ℕ) (t : Tree h) → In h lo hi t → (lo ≤ s → e < hi → ⊥) → Claim NoKey FlagsAre h lo hi t → Claim NoKey FlagsAre h lo hi (at_leaf f s h t)
  unfolding at_leaf
  off_tree one zero lo hi t i n p =
      keep lo hi t
      (one ∙ sym (ap flag_of (off_t (leb lo s && ltb e hi) (λ x. n (leb→le lo s (and_left (leb lo s) _ x)) (ltb→lt e hi (and_right (leb lo s) _ x)))))) p
  off_tree one (suc h) lo hi t i n p = off_page one h (λ lo hi c i n p. off_tree one h lo hi c i n p) lo hi t.kids t.last i n p

  on_page_lem : (q h j : ℕ) → ((lo hi : ℕ) (c : Tree h) → In h lo hi c → lo ≤ s → e < hi → b ≡ flag_at (spot_of s e h c) → Claim NoKey FlagsAre h lo hi c → Claim NoKey FlagsAre h lo hi (at_leaf f s h c))
      → (lo hi : ℕ) (cs : List (Tree h × Key)) (last : Tree h) → InKids (In h) lo hi cs last → lo ≤ s → e < hi → b ≡ flag_at (spot_kids (spot_of s e h) s e q j cs last)
      → Page NoKey (Claim NoKey FlagsAre h) lo hi cs last → Page NoKey (Claim NoKey FlagsAre h) lo hi (kids_at (at_leaf f s h) s cs last).0 (kids_at (at_leaf f s h) s cs last).1
  unfolding kids_at spot_kids
  on_page_lem q h j ih lo hi [] last i x y z p = ih lo hi last i x y z p
  on_page_lem q h j ih lo hi (c ∷ cs) last i x y z p = go (ltb c.1.key s) refl (λ a z. on_page_lem q h (suc j) ih (suc c.1.key) hi cs last i.2 a y z p.2) z
    where
      k : ℕ
      k = c.1.key

      own_it : ltb k s ≡ false → leb k e ≡ true → b ≡ 1 → Page NoKey (Claim NoKey FlagsAre h) lo hi (kids_at (at_leaf f s h) s (c ∷ cs) last).0 (kids_at (at_leaf f s h) s (c ∷ cs) last).1
      own_it t u one =
          let a = nlt_of k s t in
          let d = le_of k e u in
          by_test (ltb s k)
          (λ v. rw v (tt, off_tree one h lo k c.0 i.1 (λ m n. omega arith) p.1, p.2))
          (λ v. rw v (tt, p.1, off_page one h (off_tree one h) (suc k) hi cs last i.2 (λ m n. omega arith) p.2))

      go : (t : Bool) → ltb k s ≡ t
          → (suc k ≤ s → b ≡ flag_at (spot_kids (spot_of s e h) s e q (suc j) cs last) → Page NoKey (Claim NoKey FlagsAre h) (suc k) hi (kids_at (at_leaf f s h) s cs last).0 (kids_at (at_leaf f s h) s cs last).1)
          → b ≡ flag_at (cond t (spot_kids (spot_of s e h) s e q (suc j) cs last) (cond (leb k e) (spot_at q j) (spot_of s e h c.0)))
          → Page NoKey (Claim NoKey FlagsAre h) lo hi (kids_at (at_leaf f s h) s (c ∷ cs) last).0 (kids_at (at_leaf f s h) s (c ∷ cs) last).1
      go true t on z =
          let a = lt_of k s t in
          rw (lt_no s k (omega arith)) (tt, p.1, on a z)
      go false t on z =
          by_test (leb k e)
          (λ u. own_it t u (rw u at z))
          (λ u. let a = nle_of k e u in rw (lt_yes s k (omega arith)) (tt, ih lo k c.0 i.1 x a (rw u at z) p.1, p.2))

  pub on_tree : (h lo hi : ℕ) (t : Tree h) → In h lo hi t → lo ≤ s → e < hi → b ≡ flag_at (spot_of s e h t) → Claim NoKey FlagsAre h lo hi t → Claim NoKey FlagsAre h lo hi (at_leaf f s h t)
  unfolding at_leaf spot_of
  on_tree zero lo hi t i x y z p = keep lo hi t (z ∙ sym (rw (le_yes lo s x, lt_yes e hi y))) p
  on_tree (suc h) lo hi t i x y z p = on_page_lem t.place h 0 (λ lo hi c i x y z p. on_tree h lo hi c i x y z p) lo hi t.kids t.last i x y z p
