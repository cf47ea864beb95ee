-- The local rules of a page two of whose children became one, with the children before a key or last.
-- Assumes nothing.
use Prim.Native.Nat.{ℕ, suc, ◌<◌}
use mathlib.Core.Path.{◌≡◌, sym, ◌∙◌, subst}
use mathlib.Core.List.{List, [], ◌∷◌, ◌++◌, map, append-nil, append_assoc}
use native.Mathlib.Omega.{arith}
use Rattle.words.specs.Lists.{All, Pairs}
use Rattle.words.proofs.Listed.{all_mono, all_left, all_right, pairs_left, pairs_right_lem, map_append}
use Rattle.regions.specs.declared.Region.{Region}
use Rattle.xrtree.specs.Tree.{Entry, Key, Leaf, Tree, weave, listed, region_of, regions}
use Rattle.xrtree.specs.Claims.{leaf_at, page_at, regions_in, InKids, In, Over, Fits}
use Rattle.xrtree.specs.Local.{Here, Part}
use Rattle.xrtree.proofs.Here.{here_left, here_next, starts_weave, local_near}
use Rattle.xrtree.specs.Holes.{lo_after, Post, fill_kids, fill_last, fill}
use Rattle.xrtree.specs.Moves.{key_with, sunk, left_over, clear}
use Rattle.xrtree.specs.Holes.Post.{at_key, at_end}
use Rattle.xrtree.proofs.Split.{part_at, Facts}
use Rattle.xrtree.proofs.Merge.{all_unmap, leaf_merge_mid, leaf_merge_last, inner_merge_mid, inner_merge_last}
use Rattle.steps.specs.Steps.{rekeyed}
use Rattle.handing.specs.Moves.{next_took, rest_list}

-- A PART OF ONE SET IS A PART OF ANOTHER that has the same regions there
pub part_among : (rs rs' : List Region) (h lo hi : ℕ) (t : Tree h) → Here rs lo hi (regions h t) → Here rs' lo hi (regions h t) → Pairs Over (regions h t) → Part rs h lo hi t → Part rs' h lo hi t
part_among rs rs' h lo hi t n n' o p =
    record {
      order = p.order;
      lists = (local_near rs' h lo hi t p.order n' o).1 ((local_near rs h lo hi t p.order n o).0 p.lists);
      flags = p.flags;
      firsts = p.firsts;
    }

-- FROM A KEY OF A PAGE ON
here_from : {rs : List Region} (h lo hi : ℕ) (pre cs : List (Tree h × Key)) (last : Tree h) → Here rs lo hi (regions_in h (pre ++ cs) last) → InKids (In h) lo hi (pre ++ cs) last
    → Here rs (lo_after lo pre) hi (regions_in h cs last)
unfolding weave lo_after
here_from h lo hi [] cs last q i = q
here_from h lo hi (c ∷ pre) cs last q i = here_from h (suc c.1.key) hi pre cs last (here_next h lo hi c (pre ++ cs) last q i) i.2

pairs_from_lem : (h : ℕ) (pre cs : List (Tree h × Key)) (last : Tree h) → Pairs Over (regions_in h (pre ++ cs) last) → Pairs Over (regions_in h cs last)
unfolding weave
pairs_from_lem h [] cs last p = p
pairs_from_lem h (c ∷ pre) cs last p = pairs_from_lem h pre cs last (pairs_right_lem Over (regions h c.0) (regions_in h (pre ++ cs) last) p)

all_from : (P : Region → Type 0) (h : ℕ) (pre cs : List (Tree h × Key)) (last : Tree h) → All P (regions_in h (pre ++ cs) last) → All P (regions_in h cs last)
unfolding weave
all_from P h [] cs last p = p
all_from P h (c ∷ pre) cs last p = all_from P h pre cs last (all_right P (regions h c.0) (regions_in h (pre ++ cs) last) p)

pub facts_from : (top : ℕ) (rs : List Region) (h lo hi q : ℕ) (pre cs : List (Tree h × Key)) (last : Tree h) → Facts top rs h lo hi q (pre ++ cs) last → Facts top rs h (lo_after lo pre) hi q cs last
facts_from top rs h lo hi q pre cs last f =
    record {
      part = (part_at rs h lo hi q pre cs last f.part).here;
      near = here_from h lo hi pre cs last f.near f.part.order;
      pairs = pairs_from_lem h pre cs last f.pairs;
      well = all_from (Fits top) h pre cs last f.well;
    }

long_ones : (top : ℕ) (xs ys : List Entry) (zs : List Region) → All (Fits top) (map region_of (xs ++ ys) ++ zs) → All (λ (e : Entry). e.region.start < e.region.end) ys
long_ones top xs ys zs w =
    all_mono (λ e f. f.0) ys (all_right (λ (e : Entry). Fits top e.region) xs ys (all_unmap region_of (Fits top) (xs ++ ys) (all_left (Fits top) (map region_of (xs ++ ys)) zs w)))

-- LEAVES. o: of all regions of the set
module _ (top : ℕ) (rs : List Region) (o : Pairs Over rs) (lo hi q p n p₁ n₁ p₂ n₂ : ℕ) (pre : List (Leaf × Key)) (xs ys : List Entry) (k : Key) where
  pub leaf_part : (post : Post Leaf)
      → Facts top rs 0 lo hi q (pre ++ (leaf_at p₁ n₁ xs, k) ∷ fill_kids [] post (leaf_at p₂ n₂ ys)) (fill_last post (leaf_at p₂ n₂ ys))
      → Part rs 1 lo hi (fill q pre (rekeyed post (next_took post k)) (leaf_at p n (map (clear (rest_list post k)) (xs ++ ys))))
  unfolding listed weave
  leaf_part (at_key j cs last) g =
      let f = facts_from top rs 0 lo hi q pre ((leaf_at p₁ n₁ xs, k) ∷ (leaf_at p₂ n₂ ys, j) ∷ cs) last g in
      let w = regions_in 0 cs last in
      let e : map region_of xs ++ (map region_of ys ++ w) ≡ map region_of (xs ++ ys) ++ w = rw (map_append region_of xs ys) (sym (append_assoc (map region_of xs) (map region_of ys) w)) in
      let i = f.part.order in
      (part_at rs 0 lo hi q pre ((leaf_at p₁ n₁ xs, k) ∷ (leaf_at p₂ n₂ ys, j) ∷ cs) last g.part).refill q q _ last
      (leaf_merge_mid rs o (lo_after lo pre) hi xs ys k p n p₁ n₁ p₂ n₂ q q _
      (pairs_left Over (map region_of (xs ++ ys)) w (subst (Pairs Over) e f.pairs))
      (long_ones top xs ys w (subst (All (Fits top)) e f.well))
      j cs last
      (here_left j.key (map region_of (xs ++ ys)) w (subst (Here rs (lo_after lo pre) hi) e f.near) (omega (arith, i.2.0.1))
      (all_mono (λ r q. omega (arith, q.0)) w (starts_weave 0 cs last (suc j.key) hi i.2.2))) f.part)
  leaf_part at_end g =
      let f = facts_from top rs 0 lo hi q pre ((leaf_at p₁ n₁ xs, k) ∷ []) (leaf_at p₂ n₂ ys) g in
      let e : map region_of xs ++ map region_of ys ≡ map region_of (xs ++ ys) = sym (map_append region_of xs ys) in
      subst (λ (z : List (Leaf × Key)). Part rs 1 lo hi (page_at q z (leaf_at p n (map (clear k.list) (xs ++ ys))))) (append-nil pre)
      ((part_at rs 0 lo hi q pre ((leaf_at p₁ n₁ xs, k) ∷ []) (leaf_at p₂ n₂ ys) g.part).refill q q [] _
      (leaf_merge_last rs o (lo_after lo pre) hi xs ys k p n p₁ n₁ p₂ n₂ q q [] (subst (Pairs Over) e f.pairs)
      (long_ones top xs ys [] (subst (All (Fits top)) (e ∙ sym (append-nil (map region_of (xs ++ ys)))) f.well))
      (subst (Here rs (lo_after lo pre) hi) e f.near) f.part))

-- INNER PAGES. ds: the places of what is left of the key's list once the next key has taken its part, qs: of what the key keeps in the joined page
module _ (rs : List Region) (o : Pairs Over rs) (h lo hi q p p₁ p₂ : ℕ) (pre : List (Tree (suc h) × Key)) (ls bs : List (Tree h × Key)) (m z : Tree h) (k : Key) (ds qs : List ℕ) where
  pub inner_part : (post : Post (Tree (suc h)))
      → Part rs (suc (suc h)) lo hi (page_at q (pre ++ (page_at p₁ ls m, k) ∷ fill_kids [] post (page_at p₂ bs z)) (fill_last post (page_at p₂ bs z)))
      → Part rs (suc (suc h)) lo hi (fill q pre (rekeyed post (next_took post k)) (page_at p (sunk ls (rest_list post k) ds ++ (m, key_with k.key qs (left_over ls (rest_list post k))) ∷ bs) z))
  inner_part (at_key j cs last) g =
      let a = part_at rs (suc h) lo hi q pre ((page_at p₁ ls m, k) ∷ (page_at p₂ bs z, j) ∷ cs) last g in
      a.refill q q _ last (inner_merge_mid rs o h (lo_after lo pre) hi ls bs m z k p p₁ p₂ q q _ qs ds j cs last a.here)
  inner_part at_end g =
      let a = part_at rs (suc h) lo hi q pre ((page_at p₁ ls m, k) ∷ []) (page_at p₂ bs z) g in
      subst (λ (y : List (Tree (suc h) × Key)). Part rs (suc (suc h)) lo hi (page_at q y (page_at p (sunk ls k.list ds ++ (m, key_with k.key qs (left_over ls k.list)) ∷ bs) z))) (append-nil pre)
      (a.refill q q [] _ (inner_merge_last rs o h (lo_after lo pre) hi ls bs m z k p p₁ p₂ q q [] qs ds a.here))
