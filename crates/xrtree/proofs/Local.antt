-- The declared stab lists (rules 3 and 4) and flags, and their local form: the list at a key is a box between the keys around it.
-- Assumes nothing.
use Prim.Native.Nat.{ℕ, zero, suc, ◌≤◌, ◌<◌}
use mathlib.Core.Path.{◌≡◌, refl, sym, ap, ◌∙◌}
use mathlib.Core.Bool.{Bool, true, false, ◌&&◌, not}
use mathlib.Core.Logic.{◌↔◌}
use mathlib.Core.List.{List, [], ◌∷◌, ◌++◌, map}
use lib.Dec.{T, leb, ltb, eqb, leb→le, ltb→lt, le→leb, lt→ltb}
use native.Mathlib.Omega.{arith}
use Rattle.words.specs.Lists.{filter, all, All}
use Rattle.words.proofs.Tests.{T_of, both, by_test, and_left, and_right, and_both, and_assoc}
use Rattle.words.proofs.Listed.{all_mono, all_append}
use Rattle.regions.specs.Positions.{stabs}
use Rattle.regions.specs.declared.Region.{Region}
use Rattle.xrtree.specs.Tree.{Entry, Key, Tree, weave, listed, region_of, keys_of, keys_in}
use Rattle.xrtree.specs.Rules.{none_stabs}
use Rattle.xrtree.specs.Claims.{keys_under, Within, InKids, In, Fits, ListsIn, Kids, Lists, flag_of, Flags}
use Rattle.xrtree.specs.Local.{boxb, box, InBox, FlagKids, FlagsAre, Local, LocalFlags, LocalKids}
use Rattle.xrtree.proofs.Box.{of_box, to_box, of_stabs, to_stabs, is_box_in}

-- f says of a region that no key of some keys stabs it; none of these keys lies in lo .. hi - 1, and lo - 1 and hi are such keys (or 0 and top)
pub record Gap (top : ℕ) (f : Region → Bool) (lo hi : ℕ) : Type 0 where
  pub there : (r : Region) → Fits top r → r.start < hi → lo ≤ suc r.end → T (f r) → (lo ≤ r.start) × (r.end < hi)
  pub back : (r : Region) → lo ≤ r.start → r.end < hi → T (f r)

-- one more key
abbrev pub less : ℕ → (Region → Bool) → Region → Bool
less k f r = not (stabs k r) && f r

pub not_stabs : (k : ℕ) (r : Region) → T (not (stabs k r)) → (r.start ≤ k) × (k ≤ r.end) → ⊥
not_stabs k r n h = go (stabs k r) n (to_stabs k r h)
  where
    go : (t : Bool) → T (not t) → T t → ⊥
    go true n h = n
    go false n h = h

pub stabs_not : (k : ℕ) (r : Region) → ((r.start ≤ k) × (k ≤ r.end) → ⊥) → T (not (stabs k r))
stabs_not k r n = go (stabs k r) (λ t. n (of_stabs k r t))
  where
    go : (t : Bool) → (T t → ⊥) → T (not t)
    go true n = n tt
    go false n = tt

pub gap_same : {top : ℕ} {f g : Region → Bool} {lo hi : ℕ} → ((r : Region) → f r ≡ g r) → Gap top f lo hi → Gap top g lo hi
gap_same e q = record { there = λ r m a b h. q.there r m a b (rw (← e r) at h); back = λ r a b. rw (← e r) (q.back r a b) }

pub gap_root : (top : ℕ) (f : Region → Bool) → ((r : Region) → f r ≡ true) → Gap top f 0 top
gap_root top f e = record { there = λ r m a b h. (omega arith, m.1); back = λ r a b. T_of (e r) }

module _ {top : ℕ} {f : Region → Bool} {lo hi : ℕ} (k : ℕ) where
  pub gap_right : lo ≤ k → k < hi → Gap top f lo hi → Gap top (less k f) (suc k) hi
  gap_right l u q =
      record {
        there = λ r m a b h.
            let i = q.there r m a (omega arith) (and_right (not (stabs k r)) _ h) in
            let n : (r.start ≤ k → ⊥) = (λ s. not_stabs k r (and_left (not (stabs k r)) _ h) (s, omega arith)) in
            omega arith;
        back = λ r a b. and_both (not (stabs k r)) _ (stabs_not k r (λ s. omega arith)) (q.back r (omega arith) b);
      }

  pub gap_left : lo ≤ k → k < hi → Gap top f lo hi → Gap top (less k f) lo k
  gap_left l u q =
      record {
        there = λ r m a b h.
            let i = q.there r m (omega arith) b (and_right (not (stabs k r)) _ h) in
            let n : (k ≤ r.end → ⊥) = (λ s. not_stabs k r (and_left (not (stabs k r)) _ h) (omega arith, s)) in
            (i.0, omega arith);
        back = λ r a b. and_both (not (stabs k r)) _ (stabs_not k r (λ s. omega arith)) (q.back r a (omega arith));
      }

  pub gap_below : k < lo → Gap top f lo hi → Gap top (less k f) lo hi
  gap_below l q =
      record {
        there = λ r m a b h. q.there r m a b (and_right (not (stabs k r)) _ h);
        back = λ r a b. and_both (not (stabs k r)) _ (stabs_not k r (λ s. omega arith)) (q.back r a b);
      }

  pub gap_above : hi ≤ k → Gap top f lo hi → Gap top (less k f) lo hi
  gap_above l q =
      record {
        there = λ r m a b h. q.there r m a b (and_right (not (stabs k r)) _ h);
        back = λ r a b. and_both (not (stabs k r)) _ (stabs_not k r (λ s. omega arith)) (q.back r a b);
      }

-- many more keys, all below or all above
pub gap_belows : {top : ℕ} {f : Region → Bool} {lo hi : ℕ} (ks : List ℕ) → All (λ k. k < lo) ks → Gap top f lo hi → Gap top (λ r. none_stabs ks r && f r) lo hi
unfolding none_stabs all
gap_belows [] a q = q
gap_belows (k ∷ ks) a q = gap_same (λ r. sym (and_assoc (not (stabs k r)) (none_stabs ks r) _)) (gap_below k a.0 (gap_belows ks a.1 q))

pub gap_aboves : {top : ℕ} {f : Region → Bool} {lo hi : ℕ} (ks : List ℕ) → All (λ k. hi ≤ k) ks → Gap top f lo hi → Gap top (λ r. none_stabs ks r && f r) lo hi
unfolding none_stabs all
gap_aboves [] a q = q
gap_aboves (k ∷ ks) a q = gap_same (λ r. sym (and_assoc (not (stabs k r)) (none_stabs ks r) _)) (gap_above k a.0 (gap_aboves ks a.1 q))

pub none_append : (ks js : List ℕ) (r : Region) → none_stabs (ks ++ js) r ≡ (none_stabs ks r && none_stabs js r)
unfolding none_stabs all
none_append [] js r = refl
none_append (k ∷ ks) js r = ap (λ b. not (stabs k r) && b) (none_append ks js r) ∙ sym (and_assoc (not (stabs k r)) (none_stabs ks r) (none_stabs js r))

-- THE LIST AT A KEY IS A BOX: what the key stabs and passes f
pub list_box : {top : ℕ} {f : Region → Bool} {lo hi : ℕ} (k : ℕ) → lo ≤ k → k < hi → Gap top f lo hi
    → (rs : List Region) → All (Fits top) rs → filter (λ r. stabs k r && f r) rs ≡ box lo (suc k) k hi rs
list_box {f = f} {lo = lo} {hi = hi} k l u q rs m =
    is_box_in (λ r. stabs k r && f r) lo (suc k) k hi
    (λ r w h.
    let s = of_stabs k r (and_left (stabs k r) _ h) in
    let i = q.there r w (omega arith) (omega arith) (and_right (stabs k r) _ h) in
    omega arith)
    (λ r w i. and_both (stabs k r) _ (to_stabs k r (omega arith)) (q.back r i.0 i.3))
    rs m

-- keys to the right within a page
pub keys_above : {A : Type 0} (P : ℕ → ℕ → A → Type 0) (j lo hi : ℕ) (cs : List (A × Key)) (last : A) → j ≤ lo → InKids P lo hi cs last → All (λ k. j ≤ k) (keys_in cs)
unfolding keys_in
keys_above P j lo hi [] last l i = tt
keys_above P j lo hi (c ∷ cs) last l i = (omega arith, keys_above P j (suc c.1.key) hi cs last (omega arith) i.2)

shuffle : (x y e a : Bool) → ((x && y) && (e && a)) ≡ (y && ((x && e) && a))
shuffle true y e a = refl
shuffle false true e a = refl
shuffle false false e a = refl

shuffle_2 : (x y e a : Bool) → ((x && y) && (e && a)) ≡ (y && (x && (e && a)))
shuffle_2 true y e a = refl
shuffle_2 false true e a = refl
shuffle_2 false false e a = refl

module _ (top : ℕ) (rs : List Region) (m : All (Fits top) rs) where
  -- one page: children by the hypothesis
  page : (h : ℕ) (above full : List ℕ)
      → ((lo hi : ℕ) (c : Tree h) → In h lo hi c → Gap top (none_stabs full) lo hi → Lists h rs full c ↔ Local h rs lo hi c)
      → (cs : List (Tree h × Key)) (last : Tree h) (lo hi : ℕ) (earlier : List ℕ) → InKids (In h) lo hi cs last
      → Gap top (λ r. none_stabs earlier r && none_stabs above r) lo hi
      → ((r : Region) → (none_stabs (keys_in cs) r && (none_stabs earlier r && none_stabs above r)) ≡ none_stabs full r)
      → (ListsIn rs above earlier cs × Kids (Lists h rs full) cs last) ↔ LocalKids rs (Local h rs) lo hi cs last
  unfolding keys_in none_stabs all
  page h above full ih [] last lo hi earlier i q e =
      let w = ih lo hi last i (gap_same e q) in
      ((λ a. w.0 a.1), (λ b. (tt, w.1 b)))
  page h above full ih (c ∷ cs) last lo hi earlier i q e =
      let k = c.1.key in
      let g : Gap top (none_stabs full) lo k =
      gap_same (λ r. sym (shuffle_2 (not (stabs k r)) (none_stabs (keys_in cs) r) (none_stabs earlier r) (none_stabs above r)) ∙ e r)
      (gap_aboves (keys_in cs) (keys_above (In h) k (suc k) hi cs last (omega arith) i.2) (gap_left k i.0.0 i.0.1 q)) in
      let w = ih lo k c.0 i.1 g in
      let q' : Gap top (λ r. none_stabs (k ∷ earlier) r && none_stabs above r) (suc k) hi =
      gap_same (λ r. sym (and_assoc (not (stabs k r)) (none_stabs earlier r) (none_stabs above r))) (gap_right k i.0.0 i.0.1 q) in
      let v = page h above full ih cs last (suc k) hi (k ∷ earlier) i.2 q'
      (λ r. sym (shuffle (not (stabs k r)) (none_stabs (keys_in cs) r) (none_stabs earlier r) (none_stabs above r)) ∙ e r) in
      let b = list_box k i.0.0 i.0.1 q rs m in (
        (λ a. (a.0.0 ∙ b, w.0 a.1.0, v.0 (a.0.1, a.1.1))),
        (λ z. ((z.0 ∙ sym b, (v.1 z.2).0), (w.1 z.1, (v.1 z.2).1))),
      )

  -- DECLARED ⟺ LOCAL
  pub lists_local : (h : ℕ) (above : List ℕ) (lo hi : ℕ) (t : Tree h) → In h lo hi t → Gap top (none_stabs above) lo hi → Lists h rs above t ↔ Local h rs lo hi t
  unfolding none_stabs all
  lists_local zero above lo hi t i q = ((λ a. a), (λ a. a))
  lists_local (suc h) above lo hi t i q =
      page h above (keys_in t.kids ++ above) (λ lo hi c j g. lists_local h (keys_in t.kids ++ above) lo hi c j g)
      t.kids t.last lo hi [] i q (λ r. sym (none_append (keys_in t.kids) above r))

-- ALL KEYS of a part lie between its bounds
keys_kids : (h : ℕ) → ((lo hi : ℕ) (c : Tree h) → In h lo hi c → All (λ k. (lo ≤ k) × (k < hi)) (keys_of h c))
    → (cs : List (Tree h × Key)) (last : Tree h) (lo hi : ℕ) → InKids (In h) lo hi cs last → All (λ k. (lo ≤ k) × (k < hi)) (keys_under h cs last)
unfolding weave
keys_kids h ih [] last lo hi i = ih lo hi last i
keys_kids h ih (c ∷ cs) last lo hi i =
    let k = c.1.key in
    all_append (λ j. (lo ≤ j) × (j < hi)) (keys_of h c.0) _
    (all_mono (λ j w. (w.0, omega arith)) (keys_of h c.0) (ih lo k c.0 i.1))
    ((i.0.0, i.0.1), all_mono (λ j w. (omega arith, w.1)) (keys_under h cs last) (keys_kids h ih cs last (suc k) hi i.2))

pub keys_in_lem : (h : ℕ) (lo hi : ℕ) (t : Tree h) → In h lo hi t → All (λ k. (lo ≤ k) × (k < hi)) (keys_of h t)
unfolding listed
keys_in_lem zero lo hi t i = tt
keys_in_lem (suc h) lo hi t i = keys_kids h (λ lo hi c j. keys_in_lem h lo hi c j) t.kids t.last lo hi i

-- every entry's region is well formed
abbrev pub FitsIn : ℕ → (h : ℕ) → Tree h → Type 0
FitsIn top zero t = All (λ (e : Entry). Fits top e.region) t.entries
FitsIn top (suc h) t = Kids (FitsIn top h) t.kids t.last

-- flags: of the keys of the whole tree
module _ (top : ℕ) (ks : List ℕ) where
  leaf_flags : (lo hi : ℕ) (t : List Entry) → Within lo hi t → Gap top (none_stabs ks) lo hi → All (λ (e : Entry). Fits top e.region) t
      → All (λ (e : Entry). e.flag ≡ flag_of (none_stabs ks e.region)) t ↔ FlagsAre lo hi t
  leaf_flags lo hi [] i q m = ((λ a. a), (λ a. a))
  leaf_flags lo hi (e ∷ es) i q m =
      let r = e.region in
      let w = leaf_flags lo hi es i.1 q m.1 in
      let f : none_stabs ks r ≡ (leb lo r.start && ltb r.end hi) =
      both (none_stabs ks r) (leb lo r.start && ltb r.end hi)
      (λ h. let j = q.there r m.0 i.0.1 (omega arith) h in and_both (leb lo r.start) _ (le→leb lo r.start j.0) (lt→ltb r.end hi j.1))
      (λ h. q.back r (leb→le lo r.start (and_left (leb lo r.start) _ h)) (ltb→lt r.end hi (and_right (leb lo r.start) _ h))) in
      ((λ a. (a.0 ∙ ap flag_of f, w.0 a.1)), (λ a. (a.0 ∙ sym (ap flag_of f), w.1 a.1)))

  flag_kids : (h : ℕ)
      → ((lo hi : ℕ) (c : Tree h) (f : Region → Bool) → In h lo hi c → FitsIn top h c → Gap top f lo hi → ((r : Region) → (none_stabs (keys_of h c) r && f r) ≡ none_stabs ks r)
      → Flags h ks c ↔ LocalFlags h lo hi c)
      → (cs : List (Tree h × Key)) (last : Tree h) (lo hi : ℕ) (f : Region → Bool) → InKids (In h) lo hi cs last → Kids (FitsIn top h) cs last
      → Gap top f lo hi → ((r : Region) → (none_stabs (keys_under h cs last) r && f r) ≡ none_stabs ks r)
      → Kids (Flags h ks) cs last ↔ FlagKids (LocalFlags h) lo hi cs last
  unfolding weave none_stabs all
  flag_kids h ih [] last lo hi f i m q e = ih lo hi last f i m q e
  flag_kids h ih (c ∷ cs) last lo hi f i m q e =
      let k = c.1.key in
      let w = ih lo k c.0 (λ r. none_stabs (keys_under h cs last) r && less k f r) i.1 m.0
      (gap_aboves (keys_under h cs last) (all_mono (λ j z. omega arith) (keys_under h cs last) (keys_kids h (λ lo hi c j. keys_in_lem h lo hi c j) cs last (suc k) hi i.2)) (gap_left k i.0.0 i.0.1 q))
      (λ r. left (none_stabs (keys_of h c.0) r) (not (stabs k r)) (none_stabs (keys_under h cs last) r) (f r) ∙ ap (λ b. b && f r) (sym (none_append (keys_of h c.0) (k ∷ keys_under h cs last) r)) ∙ e r) in
      let v = flag_kids h ih cs last (suc k) hi (λ r. none_stabs (keys_of h c.0) r && less k f r) i.2 m.1
      (gap_belows (keys_of h c.0) (all_mono (λ j z. omega arith) (keys_of h c.0) (keys_in_lem h lo k c.0 i.1)) (gap_right k i.0.0 i.0.1 q))
      (λ r. right (none_stabs (keys_of h c.0) r) (not (stabs k r)) (none_stabs (keys_under h cs last) r) (f r) ∙ ap (λ b. b && f r) (sym (none_append (keys_of h c.0) (k ∷ keys_under h cs last) r)) ∙ e r) in
      ((λ a. (tt, w.0 a.0, v.0 a.1)), (λ a. (w.1 a.1, v.1 a.2)))
    where
      left : (a s w f : Bool) → (a && (w && (s && f))) ≡ ((a && (s && w)) && f)
      left false s w f = refl
      left true true w f = refl
      left true false true f = refl
      left true false false f = refl

      right : (a s w f : Bool) → (w && (a && (s && f))) ≡ ((a && (s && w)) && f)
      right false s true f = refl
      right false s false f = refl
      right true true w f = refl
      right true false true f = refl
      right true false false f = refl

  pub flags_local : (h : ℕ) (lo hi : ℕ) (t : Tree h) (f : Region → Bool) → In h lo hi t → FitsIn top h t → Gap top f lo hi
      → ((r : Region) → (none_stabs (keys_of h t) r && f r) ≡ none_stabs ks r) → Flags h ks t ↔ LocalFlags h lo hi t
  unfolding listed none_stabs all
  flags_local zero lo hi t f i m q e = leaf_flags lo hi t.entries i (gap_same e q) m
  flags_local (suc h) lo hi t f i m q e = flag_kids h (λ lo hi c g j n p d. flags_local h lo hi c g j n p d) t.kids t.last lo hi f i m q e

-- A LEAF'S ENTRIES WITH FLAG 0 that pass a test are a box, where the test is one between the leaf's bounds
pub zero_one : (b : Bool) → eqb (flag_of b) 0 ≡ b
zero_one true = refl
zero_one false = refl

pub leaf_box : (P : Region → Bool) (lo b c hi : ℕ) → ((r : Region) → lo ≤ r.start → r.end < hi → T (P r) → InBox lo b c hi r) → ((r : Region) → InBox lo b c hi r → T (P r))
    → (es : List Entry) → FlagsAre lo hi es → map region_of (filter (λ (e : Entry). eqb e.flag 0 && P e.region) es) ≡ box lo b c hi (map region_of es)
unfolding box filter
leaf_box P lo b c hi f g [] q = refl
leaf_box P lo b c hi f g (e ∷ es) q =
    let r = e.region in
    let w : (eqb e.flag 0 && P r) ≡ boxb lo b c hi r =
    ap (λ z. z && P r) (ap (λ n. eqb n 0) q.0 ∙ zero_one (leb lo r.start && ltb r.end hi)) ∙
    both ((leb lo r.start && ltb r.end hi) && P r) (boxb lo b c hi r)
    (λ h.
    let u = and_left (leb lo r.start && ltb r.end hi) _ h in
    to_box lo b c hi r
    (f r (leb→le lo r.start (and_left (leb lo r.start) _ u)) (ltb→lt r.end hi (and_right (leb lo r.start) _ u)) (and_right (leb lo r.start && ltb r.end hi) _ h)))
    (λ h.
    let i = of_box lo b c hi r h in
    and_both (leb lo r.start && ltb r.end hi) _ (and_both (leb lo r.start) _ (le→leb lo r.start i.0) (lt→ltb r.end hi i.3)) (g r i)) in
    by_test (boxb lo b c hi r)
    (λ h. rw (w, h) (ap (r ∷◌) (leaf_box P lo b c hi f g es q.1)))
    (λ h. rw (w, h) (leaf_box P lo b c hi f g es q.1))
