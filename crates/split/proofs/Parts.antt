-- The local rules of a page whose child was split, with the child before a key or last.
-- Assumes nothing.
use Prim.Native.Nat.{ℕ, suc, ◌≤◌, ◌<◌}
use mathlib.Core.Path.{◌≡◌, refl, sym, subst}
use mathlib.Core.List.{List, [], ◌∷◌, ◌++◌, map, append_assoc}
use Rattle.words.specs.Lists.{All, Pairs}
use Rattle.regions.specs.declared.Region.{Region}
use Rattle.xrtree.specs.Tree.{Entry, Key, Leaf, Tree, region_of}
use Rattle.xrtree.specs.Claims.{leaf_at, page_at, Over}
use Rattle.xrtree.specs.Local.{Here, Part}
use Rattle.xrtree.specs.Holes.{lo_after, Post, fill_kids, fill_last, fill, hi_post}
use Rattle.xrtree.specs.Moves.{key_with, marked, trim, raised, fresh}
use Rattle.xrtree.specs.Holes.Post.{at_key, at_end}
use Rattle.xrtree.proofs.Split.{part_at, part_end, leaf_split_mid, leaf_split_last, inner_split_mid, inner_split_last}
use Rattle.steps.specs.Steps.{rekeyed}
use Rattle.raising.specs.Sides.{topped, next_cut}

-- a page with one child more, from that child on
pub kids_more : {A : Type 0} (pre : List (A × Key)) (post : Post A) (l r : A) (k : Key) → fill_kids (pre ++ (l, k) ∷ []) post r ≡ pre ++ (l, k) ∷ fill_kids [] post r
kids_more pre (at_key j cs last) l r k = append_assoc pre ((l, k) ∷ []) ((r, j) ∷ cs)
kids_more pre at_end l r k = refl

-- a claim on the page from the child on goes to the whole page
module _ (rs : List Region) (h lo hi q q' : ℕ) (pre : List (Tree h × Key)) (post : Post (Tree h)) (t l r : Tree h) (k : Key) (j : Key) where
  part_more : (Part rs (suc h) (lo_after lo pre) hi (page_at q (fill_kids [] post t) (fill_last post t))
      → Part rs (suc h) (lo_after lo pre) hi (page_at q' ((l, k) ∷ fill_kids [] (rekeyed post j) r) (fill_last (rekeyed post j) r)))
      → Part rs (suc h) lo hi (fill q pre post t) → Part rs (suc h) lo hi (fill q' (pre ++ (l, k) ∷ []) (rekeyed post j) r)
  part_more f p = go post f p
    where
      go : (post : Post (Tree h)) → (Part rs (suc h) (lo_after lo pre) hi (page_at q (fill_kids [] post t) (fill_last post t))
          → Part rs (suc h) (lo_after lo pre) hi (page_at q' ((l, k) ∷ fill_kids [] (rekeyed post j) r) (fill_last (rekeyed post j) r)))
          → Part rs (suc h) lo hi (fill q pre post t) → Part rs (suc h) lo hi (fill q' (pre ++ (l, k) ∷ []) (rekeyed post j) r)
      go (at_key a cs last) f p =
          let u = part_at rs h lo hi q pre ((t, a) ∷ cs) last p in
          subst (λ z. Part rs (suc h) lo hi (page_at q' z last)) (sym (kids_more pre (at_key j cs last) l r k))
          (u.refill q' q' ((l, k) ∷ (r, j) ∷ cs) last (f u.here))
      go at_end f p =
          let u = part_end rs h lo hi q pre t p in
          u.refill q' q' ((l, k) ∷ []) r (f u.here)

-- A LEAF, cut between xs and ys at the key k
module _ (rs : List Region) (o : Pairs Over rs) (lo hi q k p n p₁ n₁ p₂ n₂ : ℕ) (pre : List (Leaf × Key)) (xs ys : List Entry) (ps : List ℕ) where
  pub leaf_part : (post : Post Leaf) → All (λ (e : Entry). e.region.start < k) xs → All (λ (e : Entry). (k ≤ e.region.start) × (e.region.start < e.region.end)) ys
      → lo_after lo pre ≤ k → k < hi_post hi post → Here rs (lo_after lo pre) (hi_post hi post) (map region_of (xs ++ ys))
      → Part rs 1 lo hi (fill q pre post (leaf_at p n (xs ++ ys)))
      → Part rs 1 lo hi (fill q (pre ++ (leaf_at p₁ n₁ (map (marked k) xs), topped k post ps (fresh k (xs ++ ys))) ∷ []) (rekeyed post (next_cut k post)) (leaf_at p₂ n₂ (map (marked k) ys)))
  leaf_part (at_key j cs last) low high a b near t =
      part_more rs 0 lo hi q q pre (at_key j cs last) (leaf_at p n (xs ++ ys)) (leaf_at p₁ n₁ (map (marked k) xs)) (leaf_at p₂ n₂ (map (marked k) ys))
      (topped k (at_key j cs last) ps (fresh k (xs ++ ys))) (next_cut k (at_key j cs last))
      (λ u. leaf_split_mid rs o (lo_after lo pre) hi k xs ys p n p₁ n₁ p₂ n₂ q q _ _ low high a j cs last b near u) t
  leaf_part at_end low high a b near t =
      part_more rs 0 lo hi q q pre at_end (leaf_at p n (xs ++ ys)) (leaf_at p₁ n₁ (map (marked k) xs)) (leaf_at p₂ n₂ (map (marked k) ys))
      (key_with k ps (fresh k (xs ++ ys))) (key_with k [] [])
      (λ u. leaf_split_last rs o (lo_after lo pre) hi k xs ys p n p₁ n₁ p₂ n₂ q q ps [] low high a b near u) t

-- AN INNER PAGE, cut at its key k
module _ (rs : List Region) (o : Pairs Over rs) (h lo hi q p p₁ p₂ : ℕ) (pre : List (Tree (suc h) × Key)) (ls bs : List (Tree h × Key)) (m z : Tree h) (k : Key) (ps : List ℕ) where
  pub inner_part : (post : Post (Tree (suc h))) → Part rs (suc (suc h)) lo hi (fill q pre post (page_at p (ls ++ (m, k) ∷ bs) z))
      → Part rs (suc (suc h)) lo hi (fill q (pre ++ (page_at p₁ (trim k.key ls) m, topped k.key post ps (raised k.key ls k.list)) ∷ []) (rekeyed post (next_cut k.key post)) (page_at p₂ bs z))
  inner_part (at_key j cs last) t =
      part_more rs (suc h) lo hi q q pre (at_key j cs last) (page_at p (ls ++ (m, k) ∷ bs) z) (page_at p₁ (trim k.key ls) m) (page_at p₂ bs z)
      (topped k.key (at_key j cs last) ps (raised k.key ls k.list)) (next_cut k.key (at_key j cs last))
      (λ u. inner_split_mid rs o h (lo_after lo pre) hi ls bs m z k p p₁ p₂ q q _ _ j cs last u) t
  inner_part at_end t =
      part_more rs (suc h) lo hi q q pre at_end (page_at p (ls ++ (m, k) ∷ bs) z) (page_at p₁ (trim k.key ls) m) (page_at p₂ bs z)
      (key_with k.key ps (raised k.key ls k.list)) (key_with k.key [] [])
      (λ u. inner_split_last rs o h (lo_after lo pre) hi ls bs m z k p p₁ p₂ q q ps [] u) t
