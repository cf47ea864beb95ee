-- SPLITS of a leaf and of an inner page, at the first key of a page: a sound part goes to a sound part with the same regions.
-- `part_at` and `part_end` bring them to any key of a page, `Spot` of Whole to any page of a tree. Places of pages and records are any.
-- Assumes nothing.
use Prim.Native.Nat.{ℕ, zero, suc, ◌≤◌, ◌<◌}
use mathlib.Core.Path.{◌≡◌, refl, sym, ap, ◌∙◌, subst}
use mathlib.Core.List.{List, [], ◌∷◌, ◌++◌, map, append-nil, append_assoc}
use native.Mathlib.Omega.{arith}
use Rattle.words.specs.Lists.{take_while, drop_while, All, Pairs}
use Rattle.words.proofs.Listed.{all_left, all_right}
use Rattle.regions.specs.Positions.{stabs}
use Rattle.regions.specs.declared.Region.{Region}
use Rattle.xrtree.specs.Tree.{Entry, Key, Leaf, Tree, weave, region_of}
use Rattle.xrtree.specs.Claims.{leaf_at, page_at, Page, Claim, Between, Within, In, Over, pair_is, regions_in, Fits}
use Rattle.xrtree.specs.Local.{ListIs, NoLeaf, NoKey, Local, LocalFlags, Here, FirstIs, Part}
use Rattle.xrtree.specs.Holes.{lo_after}
use Rattle.xrtree.specs.Moves.{first_start, first_end, key_with, marked, trim, raised, kept_places, fresh}
use Rattle.xrtree.proofs.Splice.{page_at_lem, fresh_is, flags_left, flags_right, split_mid, cut_page, in_cut, flag_cut}

-- AT ANY KEY of a page
pub record PartAt (rs : List Region) (h lo hi q : ℕ) (pre cs : List (Tree h × Key)) (last : Tree h) : Type 0 where
  pub here : Part rs (suc h) (lo_after lo pre) hi (page_at q cs last)
  pub refill : (q' q'' : ℕ) (cs' : List (Tree h × Key)) (last' : Tree h) → Part rs (suc h) (lo_after lo pre) hi (page_at q' cs' last') → Part rs (suc h) lo hi (page_at q'' (pre ++ cs') last')

pub part_at : (rs : List Region) (h lo hi q : ℕ) (pre cs : List (Tree h × Key)) (last : Tree h) → Part rs (suc h) lo hi (page_at q (pre ++ cs) last) → PartAt rs h lo hi q pre cs last
part_at rs h lo hi q pre cs last p =
    let a = page_at_lem Between (In h) lo hi pre cs last p.order in
    let b = page_at_lem (ListIs rs) (Local h rs) lo hi pre cs last p.lists in
    let f = page_at_lem NoKey (LocalFlags h) lo hi pre cs last p.flags in
    let g = page_at_lem FirstIs (Claim FirstIs NoLeaf h) lo hi pre cs last p.firsts in
    record {
      here = record { order = a.here; lists = b.here; flags = f.here; firsts = g.here };
      refill = λ q' q'' cs' last' w.
          record { order = a.refill cs' last' w.order; lists = b.refill cs' last' w.lists; flags = f.refill cs' last' w.flags; firsts = g.refill cs' last' w.firsts };
    }

-- at the last child
pub part_end : (rs : List Region) (h lo hi q : ℕ) (pre : List (Tree h × Key)) (last : Tree h) → Part rs (suc h) lo hi (page_at q pre last) → PartAt rs h lo hi q pre [] last
part_end rs h lo hi q pre last p = part_at rs h lo hi q pre [] last (subst (λ (z : List (Tree h × Key)). Part rs (suc h) lo hi (page_at q z last)) (sym (append-nil pre)) p)

-- what is listed of a page, from a key on
module _ {A B : Type 0} (f : A → List B) (g : Key → List B) where
  pub weave_two : (cs ds : List (A × Key)) (m last : A) (k : Key) → weave f g (cs ++ (m, k) ∷ ds) last ≡ weave f g cs m ++ (g k ++ weave f g ds last)
  unfolding weave
  weave_two [] ds m last k = refl
  weave_two (c ∷ cs) ds m last k = ap (λ (z : List B). f c.0 ++ (g c.1 ++ z)) (weave_two cs ds m last k) ∙ simp append_assoc

-- the stored pair that belongs to a list
pub first_of : (k : ℕ) (ps : List ℕ) (l : List Region) → pair_is (key_with k ps l) l
unfolding first_start first_end
first_of k ps [] = (refl, refl)
first_of k ps (r ∷ rs) = (refl, refl)

-- LEAF SPLIT: an entry that the new key stabs gets flag 1; the new key's own regions are those that had flag 0
within_left : (k lo hi : ℕ) (xs : List Entry) → All (λ (e : Entry). e.region.start < k) xs → Within lo hi xs → Within lo k (map (marked k) xs)
unfolding marked
within_left k lo hi [] s w = tt
within_left k lo hi (e ∷ es) s w = ((w.0.0, s.0), within_left k lo hi es s.1 w.1)

within_right : (k lo hi : ℕ) (ys : List Entry) → All (λ (e : Entry). (k ≤ e.region.start) × (e.region.start < e.region.end)) ys → Within lo hi ys → Within (suc k) hi (map (marked k) ys)
unfolding marked
within_right k lo hi [] s w = tt
within_right k lo hi (e ∷ es) s w = ((omega (arith, s.0.0), w.0.1), within_right k lo hi es s.1 w.1)

pub regions_marked : (k : ℕ) (xs : List Entry) → map region_of (map (marked k) xs) ≡ map region_of xs
unfolding marked
regions_marked k [] = refl
regions_marked k (e ∷ es) = ap (e.region ∷◌) (regions_marked k es)

-- p, n: place and next of the leaf; p₁, n₁ and p₂, n₂: of the two it becomes; q, q': the page's place; ps, qs: the places of the two keys' records
module _ (rs : List Region) (o : Pairs Over rs) (lo hi k : ℕ) (xs ys : List Entry) (p n p₁ n₁ p₂ n₂ q q' : ℕ) (ps qs : List ℕ)
    (low : All (λ (e : Entry). e.region.start < k) xs) (high : All (λ (e : Entry). (k ≤ e.region.start) × (e.region.start < e.region.end)) ys) (l : lo ≤ k) where
  pub leaf_split_mid : (j : Key) (cs : List (Leaf × Key)) (last : Leaf) → k < j.key → Here rs lo j.key (map region_of (xs ++ ys))
      → Part rs 1 lo hi (page_at q ((leaf_at p n (xs ++ ys), j) ∷ cs) last)
      → Part rs 1 lo hi (page_at q'
      ((leaf_at p₁ n₁ (map (marked k) xs), key_with k ps (take_while (stabs k) j.list ++ fresh k (xs ++ ys))) ∷ (leaf_at p₂ n₂ (map (marked k) ys), key_with j.key qs (drop_while (stabs k) j.list)) ∷ cs) last)
  unfolding fresh
  leaf_split_mid j cs last u near t =
      let i = t.order in
      let f = t.flags in
      record {
        order = ((l, omega (arith, i.0.1)), within_left k lo j.key xs low (all_left _ xs ys i.1), ((u, i.0.1), within_right k lo j.key ys high (all_right _ xs ys i.1), i.2));
        lists = split_mid rs o (In 0) (Local 0 rs) ps qs lo hi k (leaf_at p n (xs ++ ys)) (leaf_at p₁ n₁ (map (marked k) xs)) (leaf_at p₂ n₂ (map (marked k) ys)) j (fresh k (xs ++ ys)) cs last l u i.0.1
            (fresh_is rs k lo j.key l u (xs ++ ys) f.1 near) tt tt t.lists;
        flags = (tt, flags_left k lo j.key u xs low (all_left _ xs ys f.1), (tt, flags_right k lo j.key l ys high (all_right _ xs ys f.1), f.2));
        firsts = (first_of k ps (take_while (stabs k) j.list ++ fresh k (xs ++ ys)), tt, (first_of j.key qs (drop_while (stabs k) j.list), tt, t.firsts.2));
      }

  pub leaf_split_last : k < hi → Here rs lo hi (map region_of (xs ++ ys)) → Part rs 1 lo hi (page_at q [] (leaf_at p n (xs ++ ys)))
      → Part rs 1 lo hi (page_at q' ((leaf_at p₁ n₁ (map (marked k) xs), key_with k ps (fresh k (xs ++ ys))) ∷ []) (leaf_at p₂ n₂ (map (marked k) ys)))
  unfolding fresh
  leaf_split_last u near t =
      let i = t.order in
      let f = t.flags in
      record {
        order = ((l, u), within_left k lo hi xs low (all_left _ xs ys i), within_right k lo hi ys high (all_right _ xs ys i));
        lists = (fresh_is rs k lo hi l u (xs ++ ys) f near, tt, tt);
        flags = (tt, flags_left k lo hi u xs low (all_left _ xs ys f), flags_right k lo hi l ys high (all_right _ xs ys f));
        firsts = (first_of k ps (fresh k (xs ++ ys)), tt, tt);
      }

-- INNER SPLIT
module _ {A : Type 0} where
  first_cut : (R : ℕ → ℕ → A → Type 0) (lo hi k hi' : ℕ) (cs : List (A × Key)) (m : A) (j : Key) (ds : List (A × Key)) (last : A) → ((a b a' b' : ℕ) (t : A) → R a b t → R a' b' t)
      → Page FirstIs R lo hi (cs ++ (m, j) ∷ ds) last → Page FirstIs R lo hi' (trim k cs) m × Page FirstIs R (suc j.key) hi ds last
  unfolding trim
  first_cut R lo hi k hi' [] m j ds last f g = (f lo j.key lo hi' m g.1, g.2)
  first_cut R lo hi k hi' (c ∷ cs) m j ds last f g =
      let w = first_cut R (suc c.1.key) hi k hi' cs m j ds last f g.2 in
      ((first_of c.1.key (kept_places k c.1.list c.1.places) (drop_while (stabs k) c.1.list), g.1, w.0), w.1)

-- the claim on pairs does not look at the bounds
pub first_any : (h : ℕ) (a b a' b' : ℕ) (t : Tree h) → Claim FirstIs NoLeaf h a b t → Claim FirstIs NoLeaf h a' b' t
first_any zero a b a' b' t g = tt
first_any (suc h) a b a' b' t g = go a b a' b' t.kids t.last g (λ a b a' b' c w. first_any h a b a' b' c w)
  where
    go : (a b a' b' : ℕ) (cs : List (Tree h × Key)) (last : Tree h) → Page FirstIs (Claim FirstIs NoLeaf h) a b cs last
        → ((a b a' b' : ℕ) (c : Tree h) → Claim FirstIs NoLeaf h a b c → Claim FirstIs NoLeaf h a' b' c) → Page FirstIs (Claim FirstIs NoLeaf h) a' b' cs last
    go a b a' b' [] last g f = f a b a' b' last g
    go a b a' b' (c ∷ cs) last g f = (g.0, f a c.1.key a' c.1.key c.0 g.1, go (suc c.1.key) b (suc c.1.key) b' cs last g.2 f)

-- p: the page's place; p₁, p₂: of the two it becomes; q, q': of the page above
module _ (rs : List Region) (o : Pairs Over rs) (h lo hi : ℕ) (ls bs : List (Tree h × Key)) (m z : Tree h) (k : Key) (p p₁ p₂ q q' : ℕ) (ps qs : List ℕ) where
  pub inner_split_mid : (j : Key) (cs : List (Tree (suc h) × Key)) (last : Tree (suc h))
      → Part rs (suc (suc h)) lo hi (page_at q ((page_at p (ls ++ (m, k) ∷ bs) z, j) ∷ cs) last)
      → Part rs (suc (suc h)) lo hi (page_at q'
      ((page_at p₁ (trim k.key ls) m, key_with k.key ps (take_while (stabs k.key) j.list ++ raised k.key ls k.list)) ∷ (page_at p₂ bs z, key_with j.key qs (drop_while (stabs k.key) j.list)) ∷ cs) last)
  inner_split_mid j cs last t =
      let i = in_cut (In h) lo j.key ls m k bs z t.order.1 in
      let w = cut_page rs o (In h) (Local h rs) lo j.key ls m k bs z t.order.1 t.lists.1 in
      let f = flag_cut (LocalFlags h) lo j.key ls m k bs z t.flags.1 in
      let g = first_cut (Claim FirstIs NoLeaf h) lo j.key k.key k.key ls m k bs z (first_any h) t.firsts.1 in
      record {
        order = ((i.0, omega (arith, i.1, t.order.0.1)), i.2, ((i.1, t.order.0.1), i.3, t.order.2));
        lists = split_mid rs o (In (suc h)) (Local (suc h) rs) ps qs lo hi k.key (page_at p (ls ++ (m, k) ∷ bs) z) (page_at p₁ (trim k.key ls) m) (page_at p₂ bs z) j (raised k.key ls k.list) cs last
            i.0 i.1 t.order.0.1 w.3 w.2 w.4 t.lists;
        flags = (tt, f.0, (tt, f.1, t.flags.2));
        firsts = (first_of k.key ps (take_while (stabs k.key) j.list ++ raised k.key ls k.list), g.0, (first_of j.key qs (drop_while (stabs k.key) j.list), g.1, t.firsts.2));
      }

  pub inner_split_last : Part rs (suc (suc h)) lo hi (page_at q [] (page_at p (ls ++ (m, k) ∷ bs) z))
      → Part rs (suc (suc h)) lo hi (page_at q' ((page_at p₁ (trim k.key ls) m, key_with k.key ps (raised k.key ls k.list)) ∷ []) (page_at p₂ bs z))
  inner_split_last t =
      let i = in_cut (In h) lo hi ls m k bs z t.order in
      let w = cut_page rs o (In h) (Local h rs) lo hi ls m k bs z t.order t.lists in
      let f = flag_cut (LocalFlags h) lo hi ls m k bs z t.flags in
      let g = first_cut (Claim FirstIs NoLeaf h) lo hi k.key k.key ls m k bs z (first_any h) t.firsts in
      record {
        order = ((i.0, i.1), i.2, i.3);
        lists = (w.3, w.2, w.4);
        flags = (tt, f.0, f.1);
        firsts = (first_of k.key ps (raised k.key ls k.list), g.0, g.1);
      }

-- WHAT A STEP ASKS of a page, from a key on
pub record Facts (top : ℕ) (rs : List Region) (h lo hi q : ℕ) (cs : List (Tree h × Key)) (last : Tree h) : Type 0 where
  pub part : Part rs (suc h) lo hi (page_at q cs last)
  pub near : Here rs lo hi (regions_in h cs last)
  pub pairs : Pairs Over (regions_in h cs last)
  pub well : All (Fits top) (regions_in h cs last)
