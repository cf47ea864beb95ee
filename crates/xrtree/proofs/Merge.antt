-- MERGES of two leaves and of two inner pages, at the first key of a page: a sound part goes to a sound part with the same regions.
-- Assumes nothing.
use Prim.Native.Nat.{ℕ, suc, ◌≤◌, ◌<◌}
use mathlib.Core.Path.{◌≡◌, refl, sym, ap, ◌∙◌, subst}
use mathlib.Core.Bool.{Bool, false, ◌&&◌, cond}
use mathlib.Core.List.{List, [], ◌∷◌, ◌++◌, map}
use lib.Dec.{leb, ltb, eqb, leb→le, ltb→lt, le→leb, lt→ltb, eqb_refl}
use native.Mathlib.Omega.{arith}
use Rattle.words.specs.Lists.{filter, take_while, drop_while, All, Pairs}
use Rattle.words.proofs.Tests.{T_of, of_T, no_t, both, by_test, and_left, and_right, and_both, eq_no}
use Rattle.words.proofs.Listed.{all_mono, all_two, all_append, all_left, all_right, map_append}
use Rattle.regions.specs.Positions.{stabs}
use Rattle.regions.specs.declared.Region.{Region}
use Rattle.xrtree.specs.Tree.{Entry, Key, Leaf, Tree, region_of}
use Rattle.xrtree.specs.Claims.{leaf_at, page_at, Page, Claim, Within, In, Over, flag_of}
use Rattle.xrtree.specs.Local.{boxb, box, home, NoLeaf, Local, FlagsAre, LocalFlags, Here, FirstIs, Part}
use Rattle.xrtree.proofs.Box.{of_box, to_box}
use Rattle.xrtree.specs.Moves.{key_with, sunk, left_over, moved_places, kept_places, any_start, clear}
use Rattle.xrtree.proofs.Splice.{merge_mid, join_page, in_join, flag_join}
use Rattle.xrtree.proofs.Split.{first_of}

-- INNER MERGE
abbrev NoPart : ℕ → ℕ → Unit {0} → Type 0
NoPart a b c = Unit {0}

-- the stored pairs of the merged page
module _ {A : Type 0} where
  first_join : (R : ℕ → ℕ → A → Type 0) (lo hi k : ℕ) (l : List Region) (ps qs : List ℕ) (cs : List (A × Key)) (m : A) (ds : List (A × Key)) (last : A)
      → Page FirstIs R lo k cs m → Page FirstIs R (suc k) hi ds last → Page FirstIs R lo hi (sunk cs l ps ++ (m, key_with k qs (left_over cs l)) ∷ ds) last
  unfolding sunk left_over
  first_join R lo hi k l ps qs [] m ds last g d = (first_of k qs l, g, d)
  first_join R lo hi k l ps qs (c ∷ cs) m ds last g d = (
    first_of c.1.key (moved_places c.1.key l ps ++ c.1.places) (take_while (stabs c.1.key) l ++ c.1.list),
    g.1,
    first_join R (suc c.1.key) hi k (drop_while (stabs c.1.key) l) (kept_places c.1.key l ps) qs cs m ds last g.2 d,
  )

-- p₁, p₂: the two pages' places; p: of the one they become; ds: the places of what is left of the key's list, qs: of what the key keeps then, ps: of the next key's records
module _ (rs : List Region) (o : Pairs Over rs) (h lo hi : ℕ) (ls bs : List (Tree h × Key)) (m z : Tree h) (k : Key) (p p₁ p₂ q q' : ℕ) (ps qs ds : List ℕ) where
  pub inner_merge_mid : (j : Key) (cs : List (Tree (suc h) × Key)) (last : Tree (suc h))
      → Part rs (suc (suc h)) lo hi (page_at q ((page_at p₁ ls m, k) ∷ (page_at p₂ bs z, j) ∷ cs) last)
      → Part rs (suc (suc h)) lo hi (page_at q'
      ((page_at p (sunk ls (drop_while (stabs j.key) k.list) ds ++ (m, key_with k.key qs (left_over ls (drop_while (stabs j.key) k.list))) ∷ bs) z, key_with j.key ps (take_while (stabs j.key) k.list ++ j.list)) ∷ cs) last)
  inner_merge_mid j cs last w =
      let i = w.order in
      let d = drop_while (stabs j.key) k.list in
      let e = merge_mid rs o NoPart NoPart ps lo hi tt tt tt k j [] tt i.0.0 i.2.0.0 i.2.0.1 tt (w.lists.0, tt, (w.lists.2.0, tt, tt)) in
      record {
        order = ((omega (arith, i.0.0, i.2.0.0), i.2.0.1), in_join (In h) lo j.key k.key d ds qs ls m bs z i.0.0 i.2.0.0 i.1 i.2.1, i.2.2);
        lists = (e.0.0, join_page rs o (In h) (Local h rs) lo j.key k.key d ds qs ls m bs z i.2.0.0 e.1 i.1 w.lists.1 w.lists.2.1, w.lists.2.2);
        flags = (tt, flag_join (LocalFlags h) lo j.key k.key d ds qs ls m bs z w.flags.1 w.flags.2.1, w.flags.2.2);
        firsts = (first_of j.key ps (take_while (stabs j.key) k.list ++ j.list), first_join (Claim FirstIs NoLeaf h) lo j.key k.key d ds qs ls m bs z w.firsts.1 w.firsts.2.1, w.firsts.2.2);
      }

  pub inner_merge_last : Part rs (suc (suc h)) lo hi (page_at q ((page_at p₁ ls m, k) ∷ []) (page_at p₂ bs z))
      → Part rs (suc (suc h)) lo hi (page_at q' [] (page_at p (sunk ls k.list ds ++ (m, key_with k.key qs (left_over ls k.list)) ∷ bs) z))
  inner_merge_last w =
      let i = w.order in
      record {
        order = in_join (In h) lo hi k.key k.list ds qs ls m bs z i.0.0 i.0.1 i.1 i.2;
        lists = join_page rs o (In h) (Local h rs) lo hi k.key k.list ds qs ls m bs z i.0.1 w.lists.0 i.1 w.lists.1 w.lists.2;
        flags = flag_join (LocalFlags h) lo hi k.key k.list ds qs ls m bs z w.flags.1 w.flags.2;
        firsts = first_join (Claim FirstIs NoLeaf h) lo hi k.key k.list ds qs ls m bs z w.firsts.1 w.firsts.2;
      }

-- starts tell the regions of a set apart: a start stands in a filter of it where its region passes
pub any_none : (P : Region → Bool) (s : ℕ) (xs : List Region) → All (λ (r : Region). s < r.start) xs → any_start s (filter P xs) ≡ false
unfolding any_start filter
any_none P s [] a = refl
any_none P s (x ∷ xs) a =
    by_test (P x) (λ h. rw (h, eq_no s x.start (λ e. omega (arith, a.0))) (any_none P s xs a.1)) (λ h. rw h (any_none P s xs a.1))

pub any_filter : (P : Region → Bool) (xs : List Region) → Pairs Over xs → All (λ (r : Region). any_start r.start (filter P xs) ≡ P r) xs
unfolding any_start filter
any_filter P [] o = tt
any_filter P (x ∷ xs) o = (
  by_test (P x)
      (λ h. rw (h, of_T (eqb x.start x.start) (eqb_refl x.start)))
      (λ h. rw h (any_none P x.start xs (all_mono (λ r w. w.0) xs o.0))),
  all_two (λ r w e. by_test (P x) (λ h. rw (h, eq_no r.start x.start (λ q. omega (arith, w.0))) e) (λ h. rw h e)) xs o.0 (any_filter P xs o.1),
)

-- flags of the two leaves once the key between them is gone
clear_left : (k lo j : ℕ) → k < j → (r : Region) → r.start < k
    → cond (boxb lo (suc k) k j r) 0 (flag_of (leb lo r.start && ltb r.end k)) ≡ flag_of (leb lo r.start && ltb r.end j)
clear_left k lo j u r s =
    by_test (boxb lo (suc k) k j r)
    (λ h.
    let i = of_box lo (suc k) k j r (T_of h) in
    rw h (ap flag_of (sym (of_T (leb lo r.start && ltb r.end j) (and_both (leb lo r.start) _ (le→leb lo r.start i.0) (lt→ltb r.end j i.3))))))
    (λ h. rw h (ap flag_of (both (leb lo r.start && ltb r.end k) (leb lo r.start && ltb r.end j)
    (λ g. let b = ltb→lt r.end k (and_right (leb lo r.start) _ g) in and_both (leb lo r.start) _ (and_left (leb lo r.start) _ g) (lt→ltb r.end j (omega arith)))
    (λ g.
    let a = leb→le lo r.start (and_left (leb lo r.start) _ g) in
    let b = ltb→lt r.end j (and_right (leb lo r.start) _ g) in
    let n : (k ≤ r.end → ⊥) = (λ z. no_t h (to_box lo (suc k) k j r (omega arith))) in
    and_both (leb lo r.start) _ (and_left (leb lo r.start) _ g) (lt→ltb r.end k (omega arith))))))

clear_right : (k lo j : ℕ) → lo ≤ k → (r : Region) → k ≤ r.start → r.start < r.end
    → cond (boxb lo (suc k) k j r) 0 (flag_of (leb (suc k) r.start && ltb r.end j)) ≡ flag_of (leb lo r.start && ltb r.end j)
clear_right k lo j l r s v =
    by_test (boxb lo (suc k) k j r)
    (λ h.
    let i = of_box lo (suc k) k j r (T_of h) in
    rw h (ap flag_of (sym (of_T (leb lo r.start && ltb r.end j) (and_both (leb lo r.start) _ (le→leb lo r.start i.0) (lt→ltb r.end j i.3))))))
    (λ h. rw h (ap flag_of (both (leb (suc k) r.start && ltb r.end j) (leb lo r.start && ltb r.end j)
    (λ g. let b = leb→le (suc k) r.start (and_left (leb (suc k) r.start) _ g) in and_both (leb lo r.start) _ (le→leb lo r.start (omega arith)) (and_right (leb (suc k) r.start) _ g))
    (λ g.
    let b = ltb→lt r.end j (and_right (leb lo r.start) _ g) in
    let n : (r.start ≤ k → ⊥) = (λ z. no_t h (to_box lo (suc k) k j r (omega arith))) in
    and_both (leb (suc k) r.start) _ (le→leb (suc k) r.start (omega arith)) (and_right (leb lo r.start) _ g)))))

-- an entry whose start stands in l exactly where it is in the box
abbrev Told : ℕ → ℕ → ℕ → List Region → Entry → Type 0
Told lo k j l e = any_start e.region.start l ≡ boxb lo (suc k) k j e.region

clears_left : (k lo j : ℕ) (l : List Region) → k < j → (xs : List Entry) → All (Told lo k j l) xs → Within lo k xs → FlagsAre lo k xs → FlagsAre lo j (map (clear l) xs)
unfolding clear
clears_left k lo j l u [] t w f = tt
clears_left k lo j l u (e ∷ es) t w f =
    (rw (t.0, f.0) (clear_left k lo j u e.region w.0.1), clears_left k lo j l u es t.1 w.1 f.1)

clears_right : (k lo j : ℕ) (l : List Region) → lo ≤ k → (ys : List Entry) → All (Told lo k j l) ys → All (λ (e : Entry). e.region.start < e.region.end) ys → Within (suc k) j ys → FlagsAre (suc k) j ys
    → FlagsAre lo j (map (clear l) ys)
unfolding clear
clears_right k lo j l u [] t v w f = tt
clears_right k lo j l u (e ∷ es) t v w f =
    (rw (t.0, f.0) (clear_right k lo j u e.region (omega (arith, w.0.0)) v.0), clears_right k lo j l u es t.1 v.1 w.1 f.1)

within_clear : (k lo j : ℕ) (l : List Region) → lo ≤ k → k < j → (xs ys : List Entry) → Within lo k xs → Within (suc k) j ys → Within lo j (map (clear l) (xs ++ ys))
unfolding clear
within_clear k lo j l a b [] [] w v = tt
within_clear k lo j l a b [] (e ∷ es) w v = ((omega (arith, v.0.0), v.0.1), within_clear k lo j l a b [] es w v.1)
within_clear k lo j l a b (e ∷ es) ys w v = ((w.0.0, omega (arith, w.0.1)), within_clear k lo j l a b es ys w.1 v)

pub all_unmap : {A B : Type 0} (f : A → B) (P : B → Type 0) (xs : List A) → All P (map f xs) → All (λ a. P (f a)) xs
all_unmap f P [] h = tt
all_unmap f P (x ∷ xs) h = (h.0, all_unmap f P xs h.1)

-- p₁, n₁ and p₂, n₂: places and nexts of the two leaves; p, n: of the one they become; ps: the places of the next key's records
module _ (rs : List Region) (o : Pairs Over rs) (lo hi : ℕ) (xs ys : List Entry) (k : Key) (p n p₁ n₁ p₂ n₂ q q' : ℕ) (ps : List ℕ)
    (near : Pairs Over (map region_of (xs ++ ys))) (well : All (λ (e : Entry). e.region.start < e.region.end) ys) where
  told : (j : ℕ) (l : List Region) → Here rs lo j (map region_of (xs ++ ys)) → lo ≤ k.key → k.key < j → l ≡ home lo k.key j rs → All (Told lo k.key j l) (xs ++ ys)
  unfolding box
  told j l near' a b e =
      rw (e ∙ near'.same lo (suc k.key) k.key j (omega arith) b)
      (all_unmap region_of (λ (r : Region). any_start r.start (filter (boxb lo (suc k.key) k.key j) (map region_of (xs ++ ys))) ≡ boxb lo (suc k.key) k.key j r) (xs ++ ys)
      (any_filter (boxb lo (suc k.key) k.key j) (map region_of (xs ++ ys)) near))

  pub leaf_merge_mid : (j : Key) (cs : List (Leaf × Key)) (last : Leaf) → Here rs lo j.key (map region_of (xs ++ ys))
      → Part rs 1 lo hi (page_at q ((leaf_at p₁ n₁ xs, k) ∷ (leaf_at p₂ n₂ ys, j) ∷ cs) last)
      → Part rs 1 lo hi (page_at q' ((leaf_at p n (map (clear (drop_while (stabs j.key) k.list)) (xs ++ ys)), key_with j.key ps (take_while (stabs j.key) k.list ++ j.list)) ∷ cs) last)
  leaf_merge_mid j cs last close w =
      let i = w.order in
      let d = drop_while (stabs j.key) k.list in
      let e = merge_mid rs o (In 0) (Local 0 rs) ps lo hi (leaf_at p₁ n₁ xs) (leaf_at p₂ n₂ ys) (leaf_at p n (xs ++ ys)) k j cs last i.0.0 i.2.0.0 i.2.0.1 tt w.lists in
      let t = told j.key d close i.0.0 i.2.0.0 e.1 in
      record {
        order = ((omega (arith, i.0.0, i.2.0.0), i.2.0.1), within_clear k.key lo j.key d i.0.0 i.2.0.0 xs ys i.1 i.2.1, i.2.2);
        lists = e.0;
        flags = (
          tt,
          subst (FlagsAre lo j.key) (sym (map_append (clear d) xs ys))
              (all_append _ (map (clear d) xs) (map (clear d) ys)
              (clears_left k.key lo j.key d i.2.0.0 xs (all_left _ xs ys t) i.1 w.flags.1)
              (clears_right k.key lo j.key d i.0.0 ys (all_right _ xs ys t) well i.2.1 w.flags.2.1)),
          w.flags.2.2,
        );
        firsts = (first_of j.key ps (take_while (stabs j.key) k.list ++ j.list), tt, w.firsts.2.2);
      }

  pub leaf_merge_last : Here rs lo hi (map region_of (xs ++ ys)) → Part rs 1 lo hi (page_at q ((leaf_at p₁ n₁ xs, k) ∷ []) (leaf_at p₂ n₂ ys))
      → Part rs 1 lo hi (page_at q' [] (leaf_at p n (map (clear k.list) (xs ++ ys))))
  leaf_merge_last close w =
      let i = w.order in
      let t = told hi k.list close i.0.0 i.0.1 w.lists.0 in
      record {
        order = within_clear k.key lo hi k.list i.0.0 i.0.1 xs ys i.1 i.2;
        lists = tt;
        flags = subst (FlagsAre lo hi) (sym (map_append (clear k.list) xs ys))
            (all_append _ (map (clear k.list) xs) (map (clear k.list) ys)
            (clears_left k.key lo hi k.list i.0.1 xs (all_left _ xs ys t) i.1 w.flags.1)
            (clears_right k.key lo hi k.list i.0.0 ys (all_right _ xs ys t) well i.2 w.flags.2));
        firsts = tt;
      }

-- THE REGIONS STAY
pub regions_clear : (l : List Region) (xs : List Entry) → map region_of (map (clear l) xs) ≡ map region_of xs
unfolding clear
regions_clear l [] = refl
regions_clear l (e ∷ es) = ap (e.region ∷◌) (regions_clear l es)
