-- Pages before and after a split or a merge: lists and bounds, whole pages at a time.
-- Assumes nothing.
use Prim.Native.Nat.{ℕ, suc, ◌≤◌, ◌<◌}
use mathlib.Core.Path.{◌≡◌, sym, ap, ap₂, ◌∙◌}
use mathlib.Core.Bool.{◌&&◌, cond}
use mathlib.Core.List.{List, [], ◌∷◌, ◌++◌, map}
use lib.Dec.{leb, ltb, eqb, leb→le, ltb→lt, le→leb, lt→ltb}
use native.Mathlib.Omega.{arith}
use Rattle.words.specs.Lists.{filter, take_while, drop_while, All, Pairs}
use Rattle.words.proofs.Tests.{T_of, off_t, no_t, both, by_test, and_left, and_right}
use Rattle.regions.specs.Positions.{stabs}
use Rattle.regions.specs.declared.Region.{Region}
use Rattle.xrtree.specs.Tree.{Entry, Key, region_of}
use Rattle.xrtree.specs.Tree.Item.{key}
use Rattle.xrtree.specs.Claims.{Page, InKids, Over, flag_of}
use Rattle.xrtree.specs.Local.{home, LocalKids, FlagKids, FlagsAre, Here}
use Rattle.xrtree.proofs.Box.{of_stabs, to_stabs}
use Rattle.xrtree.proofs.Local.{leaf_box}
use Rattle.xrtree.proofs.Lift.{put_new, put_next, up_new, up_left, out_next, out_rest, down_left, down_rest}
use Rattle.xrtree.specs.Holes.{lo_after}
use Rattle.xrtree.specs.Moves.{kept_places, key_with, left_over, marked, raised, sunk, trim}

-- PART OF A PAGE. The lower bound behind some keys, and any claim on a page from there on
module _ {A : Type 0} where
  pub record At (Q : ℕ → ℕ → Key → Type 0) (P : ℕ → ℕ → A → Type 0) (lo hi : ℕ) (pre cs : List (A × Key)) (last : A) : Type 0 where
    pub here : Page Q P (lo_after lo pre) hi cs last
    pub refill : (cs' : List (A × Key)) (last' : A) → Page Q P (lo_after lo pre) hi cs' last' → Page Q P lo hi (pre ++ cs') last'

  pub page_at_lem : (Q : ℕ → ℕ → Key → Type 0) (P : ℕ → ℕ → A → Type 0) (lo hi : ℕ) (pre cs : List (A × Key)) (last : A)
      → Page Q P lo hi (pre ++ cs) last → At Q P lo hi pre cs last
  unfolding lo_after
  page_at_lem Q P lo hi [] cs last g = record { here = g; refill = λ cs' last' w. w }
  page_at_lem Q P lo hi (c ∷ pre) cs last g =
      let r = page_at_lem Q P (suc c.1.key) hi pre cs last g.2 in
      record { here = r.here; refill = λ cs' last' w. (g.0, g.1, r.refill cs' last' w) }

-- LEAF SPLIT. What the new key stabs of the entries in no list
module _ (rs : List Region) where
  -- the entries in no list that k stabs, of the leaf between lo and hi: k's list so far
  pub fresh_is : (k lo hi : ℕ) → lo ≤ k → k < hi → (es : List Entry) → FlagsAre lo hi es → Here rs lo hi (map region_of es)
      → map region_of (filter (λ (e : Entry). eqb e.flag 0 && stabs k e.region) es) ≡ home lo k hi rs
  fresh_is k lo hi l u es f q =
      leaf_box (stabs k) lo (suc k) k hi (λ r a b h. let s = of_stabs k r h in omega arith) (λ r i. to_stabs k r (omega arith)) es f
      ∙ sym (q.same lo (suc k) k hi (omega arith) u)

flag_left : (k lo hi : ℕ) → k < hi → (r : Region) → r.start < k → flag_of (leb lo r.start && ltb r.end k) ≡ cond (stabs k r) 1 (flag_of (leb lo r.start && ltb r.end hi))
flag_left k lo hi u r s =
    by_test (stabs k r)
    (λ h.
    let w = of_stabs k r (T_of h) in
    rw h (ap flag_of (off_t (leb lo r.start && ltb r.end k) (λ g. let b = ltb→lt r.end k (and_right (leb lo r.start) _ g) in omega arith))))
    (λ h.
    let n : (k ≤ r.end → ⊥) = (λ z. no_t h (to_stabs k r (omega arith))) in
    rw h (ap (λ b. flag_of (leb lo r.start && b)) (both (ltb r.end k) (ltb r.end hi) (λ g. let b = ltb→lt r.end k g in lt→ltb r.end hi (omega arith)) (λ g. lt→ltb r.end k (omega arith)))))

flag_right_lem : (k lo hi : ℕ) → lo ≤ k → (r : Region) → k ≤ r.start → r.start < r.end → flag_of (leb (suc k) r.start && ltb r.end hi) ≡ cond (stabs k r) 1 (flag_of (leb lo r.start && ltb r.end hi))
flag_right_lem k lo hi l r s v =
    by_test (stabs k r)
    (λ h.
    let w = of_stabs k r (T_of h) in
    rw h (ap flag_of (off_t (leb (suc k) r.start && ltb r.end hi) (λ g. let b = leb→le (suc k) r.start (and_left (leb (suc k) r.start) _ g) in omega arith))))
    (λ h.
    let n : (r.start ≤ k → ⊥) = (λ z. no_t h (to_stabs k r (omega arith))) in
    rw h (ap (λ b. flag_of (b && ltb r.end hi)) (both (leb (suc k) r.start) (leb lo r.start) (λ g. le→leb lo r.start (omega arith)) (λ g. le→leb (suc k) r.start (omega arith)))))

pub flags_left : (k lo hi : ℕ) → k < hi → (t : List Entry) → All (λ (e : Entry). e.region.start < k) t → FlagsAre lo hi t → FlagsAre lo k (map (marked k) t)
unfolding marked
flags_left k lo hi u [] s f = tt
flags_left k lo hi u (e ∷ es) s f =
    (ap (cond (stabs k e.region) 1) f.0 ∙ sym (flag_left k lo hi u e.region s.0), flags_left k lo hi u es s.1 f.1)

pub flags_right : (k lo hi : ℕ) → lo ≤ k → (t : List Entry) → All (λ (e : Entry). (k ≤ e.region.start) × (e.region.start < e.region.end)) t
    → FlagsAre lo hi t → FlagsAre (suc k) hi (map (marked k) t)
unfolding marked
flags_right k lo hi l [] s f = tt
flags_right k lo hi l (e ∷ es) s f =
    (ap (cond (stabs k e.region) 1) f.0 ∙ sym (flag_right_lem k lo hi l e.region s.0.0 s.0.1), flags_right k lo hi l es s.1 f.1)

module _ (rs : List Region) (o : Pairs Over rs) {A : Type 0} (R P : ℕ → ℕ → A → Type 0) where
  -- A CHILD BECAME TWO, with the key k between them, whose list so far is home lo k hi' (hi' the child's upper bound): the page above
  pub split_mid : (ps qs : List ℕ) (lo hi k : ℕ) (c l r : A) (j : Key) (fresh : List Region) (cs : List (A × Key)) (last : A)
      → lo ≤ k → k < j.key → j.key < hi → fresh ≡ home lo k j.key rs → P lo k l → P (suc k) j.key r
      → LocalKids rs P lo hi ((c, j) ∷ cs) last
      → LocalKids rs P lo hi ((l, key_with k ps (take_while (stabs k) j.list ++ fresh)) ∷ (r, key_with j.key qs (drop_while (stabs k) j.list)) ∷ cs) last
  split_mid ps qs lo hi k c l r j fresh cs last a b d e p q g = (
    ap₂ ◌++◌ (ap (take_while (stabs k)) g.0) e ∙ put_new rs o lo k j.key hi b (omega arith),
    p,
    (ap (drop_while (stabs k)) g.0 ∙ put_next rs o lo k j.key hi a b, q, g.2),
  )

  -- TWO CHILDREN BECAME ONE: the key k between them leaves the page; what is left of its list is home lo k hi', hi' the new child's upper bound
  pub merge_mid : (ps : List ℕ) (lo hi : ℕ) (l r c : A) (k j : Key) (cs : List (A × Key)) (last : A)
      → lo ≤ k.key → k.key < j.key → j.key < hi → P lo j.key c
      → LocalKids rs P lo hi ((l, k) ∷ (r, j) ∷ cs) last
      → LocalKids rs P lo hi ((c, key_with j.key ps (take_while (stabs j.key) k.list ++ j.list)) ∷ cs) last
      × (drop_while (stabs j.key) k.list ≡ home lo k.key j.key rs)
  merge_mid ps lo hi l r c k j cs last a b d p g = (
    (ap₂ ◌++◌ (ap (take_while (stabs j.key)) g.0) g.2.0 ∙ out_next rs o lo k.key j.key hi a b, p, g.2.2),
    ap (drop_while (stabs j.key)) g.0 ∙ out_rest rs o lo k.key j.key hi b (omega arith),
  )

  -- AN INNER PAGE IN TWO: the keys of the left part give what k stabs to k's list, last to first
  pub cut_page : (lo hi : ℕ) (cs : List (A × Key)) (m : A) (k : Key) (ds : List (A × Key)) (last : A)
      → InKids R lo hi (cs ++ (m, k) ∷ ds) last → LocalKids rs P lo hi (cs ++ (m, k) ∷ ds) last
      → (lo ≤ k.key) × (k.key < hi) × LocalKids rs P lo k.key (trim k.key cs) m × (raised k.key cs k.list ≡ home lo k.key hi rs) × LocalKids rs P (suc k.key) hi ds last
  unfolding trim raised
  cut_page lo hi [] m k ds last i g = (i.0.0, i.0.1, g.1, g.0, g.2)
  cut_page lo hi (c ∷ cs) m k ds last i g =
      let a = c.1.key in
      let w = cut_page (suc a) hi cs m k ds last i.2 g.2 in
      let l : a < k.key = w.0 in (
        omega arith,
        w.1,
        (ap (drop_while (stabs k.key)) g.0 ∙ up_left rs o lo a k.key hi l (omega (arith, w.1)), g.1, w.2),
        ap₂ ◌++◌ (ap (take_while (stabs k.key)) g.0) w.3 ∙ up_new rs o lo a k.key hi i.0.0 l,
        w.4,
      )

  -- TWO INNER PAGES IN ONE: k came down with its list; each key of the left part takes what it stabs, first to last
  -- bounds of a part: every key of it is below its upper bound (InKids lo k cs m)
  pub join_page : (lo hi k : ℕ) (l : List Region) (ps qs : List ℕ) (cs : List (A × Key)) (m : A) (ds : List (A × Key)) (last : A)
      → k < hi → l ≡ home lo k hi rs → InKids R lo k cs m → LocalKids rs P lo k cs m → LocalKids rs P (suc k) hi ds last
      → LocalKids rs P lo hi (sunk cs l ps ++ (m, key_with k qs (left_over cs l)) ∷ ds) last
  unfolding sunk left_over
  join_page lo hi k l ps qs [] m ds last u e i g d = (e, g, d)
  join_page lo hi k l ps qs (c ∷ cs) m ds last u e i g d =
      let a = c.1.key in (
        ap₂ ◌++◌ (ap (take_while (stabs a)) e) g.0 ∙ down_left rs o lo a k hi i.0.1 (omega arith),
        g.1,
        join_page (suc a) hi k (drop_while (stabs a) l) (kept_places a l ps) qs cs m ds last u (ap (drop_while (stabs a)) e ∙ down_rest rs o lo a k hi i.0.0 i.0.1) i.2 g.2 d,
      )

-- bounds and flags of the parts
module _ {A : Type 0} (R : ℕ → ℕ → A → Type 0) where
  pub in_cut : (lo hi : ℕ) (cs : List (A × Key)) (m : A) (k : Key) (ds : List (A × Key)) (last : A)
      → InKids R lo hi (cs ++ (m, k) ∷ ds) last → (lo ≤ k.key) × (k.key < hi) × InKids R lo k.key (trim k.key cs) m × InKids R (suc k.key) hi ds last
  unfolding trim
  in_cut lo hi [] m k ds last i = (i.0.0, i.0.1, i.1, i.2)
  in_cut lo hi (c ∷ cs) m k ds last i =
      let w = in_cut (suc c.1.key) hi cs m k ds last i.2 in
      (omega arith, w.1, ((i.0.0, w.0), i.1, w.2), w.3)

  pub in_join : (lo hi k : ℕ) (l : List Region) (ps qs : List ℕ) (cs : List (A × Key)) (m : A) (ds : List (A × Key)) (last : A)
      → lo ≤ k → k < hi → InKids R lo k cs m → InKids R (suc k) hi ds last → InKids R lo hi (sunk cs l ps ++ (m, key_with k qs (left_over cs l)) ∷ ds) last
  unfolding sunk left_over
  in_join lo hi k l ps qs [] m ds last v u i d = ((v, u), i, d)
  in_join lo hi k l ps qs (c ∷ cs) m ds last v u i d =
      ((i.0.0, omega arith), i.1, in_join (suc c.1.key) hi k (drop_while (stabs c.1.key) l) (kept_places c.1.key l ps) qs cs m ds last i.0.1 u i.2 d)

  pub flag_cut : (lo hi : ℕ) (cs : List (A × Key)) (m : A) (k : Key) (ds : List (A × Key)) (last : A)
      → FlagKids R lo hi (cs ++ (m, k) ∷ ds) last → FlagKids R lo k.key (trim k.key cs) m × FlagKids R (suc k.key) hi ds last
  unfolding trim
  flag_cut lo hi [] m k ds last f = (f.1, f.2)
  flag_cut lo hi (c ∷ cs) m k ds last f =
      let w = flag_cut (suc c.1.key) hi cs m k ds last f.2 in
      ((tt, f.1, w.0), w.1)

  pub flag_join : (lo hi k : ℕ) (l : List Region) (ps qs : List ℕ) (cs : List (A × Key)) (m : A) (ds : List (A × Key)) (last : A)
      → FlagKids R lo k cs m → FlagKids R (suc k) hi ds last → FlagKids R lo hi (sunk cs l ps ++ (m, key_with k qs (left_over cs l)) ∷ ds) last
  unfolding sunk left_over
  flag_join lo hi k l ps qs [] m ds last f d = (tt, f, d)
  flag_join lo hi k l ps qs (c ∷ cs) m ds last f d = (tt, f.1, flag_join (suc c.1.key) hi k (drop_while (stabs c.1.key) l) (kept_places c.1.key l ps) qs cs m ds last f.2 d)
