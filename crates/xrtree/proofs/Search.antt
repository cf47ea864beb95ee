-- Lemma 1 of the XR-tree paper: the search of document 01 answers the ancestors of p, outermost first; and its step bound. Both are said once over the choice: strictly the
-- ancestors start before p, with self before the position behind it, and no more of the choice is used.
-- Assumes nothing.
use Prim.Native.Nat.{ℕ, zero, suc, ◌+◌, ◌*◌, ◌≤◌, ◌<◌, min, max}
use mathlib.Core.Path.{◌≡◌, refl, sym, ap, ◌∙◌}
use mathlib.Core.Bool.{true, false}
use mathlib.Core.List.{List, [], ◌∷◌, ◌++◌, map}
use lib.Dec.{T, ltb}
use lib.ListN.{length, length-append}
use native.Mathlib.Omega.{arith}
use Rattle.words.specs.Lists.{filter, take_while, all, All, Pairs}
use Rattle.words.proofs.Tests.{by_test, and_true, lt_of, nlt_of}
use Rattle.words.proofs.Listed.{all_left, all_right}
use Rattle.regions.specs.Positions.{spans, holds, too_late}
use Rattle.regions.specs.declared.Region.{Region}
use Rattle.regions.specs.declared.Choice.{Choice}
use Rattle.regions.proofs.Means.{late_near, holds_says}
use Rattle.xrtree.specs.Tree.{Entry, Key, Tree, weave, listed, region_of, regions, keys_of}
use Rattle.xrtree.specs.Rules.{none_stabs}
use Rattle.xrtree.specs.Search.{run, looks, cost, find_kids, steps_kids, holds_free, find, steps}
use Rattle.xrtree.specs.Claims.{regions_in, InKids, In, Over, Fits, Kids, pair_is, PairsIn, Firsts, Good}
use Rattle.xrtree.specs.Local.{box, InBox, LocalKids, Local, FlagKids, LocalFlags, Here}
use Rattle.xrtree.proofs.Box.{is_box_in, box_take, cut_start, cut_end}
use Rattle.xrtree.proofs.Local.{leaf_box, gap_root, lists_local, FitsIn, flags_local}
use Rattle.xrtree.proofs.Here.{here_all, here_child, here_next}

-- the stored pair only spares the look at a list whose beginning is empty
none_run : (ch : Choice) (p : ℕ) (k : Key) (l : List Region) → pair_is k l → spans ch p k.pair_start k.pair_end ≡ false → take_while (holds ch p) l ≡ []
unfolding take_while holds
none_run ch p k [] e h = refl
none_run ch p k (r ∷ rs) e h = rw (← e.0, ← e.1, h)

run_is : (ch : Choice) (p : ℕ) (k : Key) → pair_is k k.list → run ch p k ≡ take_while (holds ch p) k.list
unfolding run
run_is ch p k e =
    by_test (spans ch p k.pair_start k.pair_end) (λ h. rw h) (λ h. rw h (sym (none_run ch p k k.list e h)))

-- what a list gives to p: key left of p or at it, key right of p
module _ (rs : List Region) (o : Pairs Over rs) (ch : Choice) (p lo hi k : ℕ) where
  holds_on : (a b c d : ℕ) → b ≤ suc c → (x y : Region) → InBox a b c d x → InBox a b c d y → Over x y → T (holds ch p y) → T (holds ch p x)
  holds_on a b c d w x y i j v h =
      let s = (holds_says ch p y).yes_so h in
      let n = v.1 (omega arith) in
      (holds_says ch p x).so_yes (omega arith)

  give_left : lo ≤ k → k ≤ p → take_while (holds ch p) (box lo (suc k) k hi rs) ≡ box lo (min (too_late ch p) (suc k)) (suc p) hi rs
  give_left l u =
      box_take rs o lo (suc k) k hi (holds ch p) lo (min (too_late ch p) (suc k)) (suc p) hi (holds_on lo (suc k) k hi (omega arith))
      (λ r i h. let s = (holds_says ch p r).yes_so h in omega (arith, late_near ch p))
      (λ r i. (omega (arith, late_near ch p), (holds_says ch p r).so_yes (omega (arith, late_near ch p))))

  give_right : p < k → k < hi → take_while (holds ch p) (box lo (suc k) k hi rs) ≡ box lo (too_late ch p) k hi rs
  give_right l u =
      box_take rs o lo (suc k) k hi (holds ch p) lo (too_late ch p) k hi (holds_on lo (suc k) k hi (omega arith))
      (λ r i h. let s = (holds_says ch p r).yes_so h in omega (arith, late_near ch p))
      (λ r i. (omega (arith, late_near ch p), (holds_says ch p r).so_yes (omega (arith, late_near ch p))))

  -- the ancestors with lo ≤ start and end < hi, cut at the key
  pass_left : lo ≤ k → k ≤ p → box lo (too_late ch p) (suc p) hi rs ≡ take_while (holds ch p) (box lo (suc k) k hi rs) ++ box (suc k) (too_late ch p) (suc p) hi rs
  pass_left l u =
      let e : max lo (suc k) ≡ suc k = omega arith in
      cut_start rs o lo (too_late ch p) (suc p) hi (suc k) ∙ rw (e, give_left l u)

  pass_right : p < k → k < hi → box lo (too_late ch p) (suc p) hi rs ≡ take_while (holds ch p) (box lo (suc k) k hi rs) ++ box lo (too_late ch p) (suc p) k rs
  pass_right l u =
      let e : max (suc p) k ≡ k = omega arith in
      let f : min hi k ≡ k = omega arith in
      cut_end rs o lo (too_late ch p) (suc p) hi k (omega (arith, late_near ch p)) ∙ rw (e, f, give_right l u)

module _ (rs : List Region) (o : Pairs Over rs) (ch : Choice) (p : ℕ) where
  find_kids_lem : (h : ℕ)
      → ((lo hi : ℕ) (c : Tree h) → lo ≤ suc p → p < hi → In h lo hi c → Here rs lo hi (regions h c) → Local h rs lo hi c → LocalFlags h lo hi c → Firsts h c
      → find h ch p c ≡ box lo (too_late ch p) (suc p) hi rs)
      → (cs : List (Tree h × Key)) (last : Tree h) (lo hi : ℕ) → lo ≤ suc p → p < hi → InKids (In h) lo hi cs last → Here rs lo hi (regions_in h cs last)
      → LocalKids rs (Local h rs) lo hi cs last → FlagKids (LocalFlags h) lo hi cs last → PairsIn cs → Kids (Firsts h) cs last
      → find_kids (find h ch p) ch p cs last ≡ box lo (too_late ch p) (suc p) hi rs
  unfolding weave find_kids
  find_kids_lem h ih [] last lo hi l u i q ls fs ps ks = ih lo hi last l u i q ls fs ks
  find_kids_lem h ih (c ∷ cs) last lo hi l u i q ls fs ps ks =
      let k = c.1.key in
      let d : run ch p c.1 ≡ take_while (holds ch p) (box lo (suc k) k hi rs) = run_is ch p c.1 ps.0 ∙ ap (take_while (holds ch p)) ls.0 in
      by_test (ltb p k)
      (λ h1.
      let g = lt_of p k h1 in
      rw (h1, d, ih lo k c.0 l g i.1 (here_child h lo hi c cs last q i) ls.1 fs.1 ks.0) (sym (pass_right rs o ch p lo hi k g i.0.1)))
      (λ h1.
      let g = nlt_of p k h1 in
      rw (h1, d, find_kids_lem h ih cs last (suc k) hi (omega arith) u i.2 (here_next h lo hi c cs last q i) ls.2 fs.2 ps.1 ks.1)
      (sym (pass_left rs o ch p lo hi k i.0.0 g)))

  find_box : (h : ℕ) (lo hi : ℕ) (t : Tree h) → lo ≤ suc p → p < hi → In h lo hi t → Here rs lo hi (regions h t) → Local h rs lo hi t → LocalFlags h lo hi t → Firsts h t
      → find h ch p t ≡ box lo (too_late ch p) (suc p) hi rs
  unfolding find holds_free listed
  find_box zero lo hi t l u i q ls fs ps =
      leaf_box (holds ch p) lo (too_late ch p) (suc p) hi (λ r a b h. let s = (holds_says ch p r).yes_so h in omega (arith, late_near ch p)) (λ r j. (holds_says ch p r).so_yes (omega (arith, late_near ch p))) t.entries fs
      ∙ sym (q.same lo (too_late ch p) (suc p) hi (omega (arith, late_near ch p)) (omega (arith, late_near ch p)))
  find_box (suc h) lo hi t l u i q ls fs ps =
      find_kids_lem h (λ lo hi c a b j g x y z. find_box h lo hi c a b j g x y z) t.kids t.last lo hi l u i q ls fs ps.0 ps.1

-- the entries' regions are well formed
leaf_fits : (top : ℕ) (es : List Entry) → All (Fits top) (map region_of es) → All (λ (e : Entry). Fits top e.region) es
leaf_fits top [] m = tt
leaf_fits top (e ∷ es) m = (m.0, leaf_fits top es m.1)

kids_fits : (top h : ℕ) → ((c : Tree h) → All (Fits top) (regions h c) → FitsIn top h c) → (cs : List (Tree h × Key)) (last : Tree h)
    → All (Fits top) (regions_in h cs last) → Kids (FitsIn top h) cs last
unfolding weave
kids_fits top h ih [] last m = ih last m
kids_fits top h ih (c ∷ cs) last m =
    (ih c.0 (all_left (Fits top) (regions h c.0) (regions_in h cs last) m), kids_fits top h ih cs last (all_right (Fits top) (regions h c.0) (regions_in h cs last) m))

pub fits_in : (top h : ℕ) (t : Tree h) → All (Fits top) (regions h t) → FitsIn top h t
unfolding listed
fits_in top zero t m = leaf_fits top t.entries m
fits_in top (suc h) t m = kids_fits top h (λ c a. fits_in top h c a) t.kids t.last m

-- a good tree in its local form
module _ (top h : ℕ) (t : Tree h) (g : Good top h t) where
  pub good_local : Local h (regions h t) 0 top t
  unfolding none_stabs all
  good_local = (lists_local top (regions h t) g.set.well h [] 0 top t g.order (gap_root top (none_stabs []) (λ r. refl))).0 g.lists

  pub good_flags : LocalFlags h 0 top t
  good_flags =
      (flags_local top (keys_of h t) h 0 top t (λ r. true) g.order (fits_in top h t g.set.well) (gap_root top (λ r. true) (λ r. refl))
      (λ r. and_true (none_stabs (keys_of h t) r))).0 g.flags

  -- THE SEARCH IS RIGHT, for every position
  pub search_right : (ch : Choice) (p : ℕ) → p < top → find h ch p t ≡ filter (holds ch p) (regions h t)
  search_right ch p u =
      find_box (regions h t) g.set.pairs ch p h 0 top t (omega arith) u g.order (here_all (regions h t) 0 top) good_local good_flags g.firsts
      ∙ sym (is_box_in (holds ch p) 0 (too_late ch p) (suc p) top (λ r m q. let s = (holds_says ch p r).yes_so q in omega (arith, late_near ch p)) (λ r m i. (holds_says ch p r).so_yes (omega (arith, late_near ch p))) (regions h t) g.set.well)

-- THE STEP BOUND
looks_few : (ch : Choice) (p : ℕ) (l : List Region) → looks ch p l ≤ suc (length (take_while (holds ch p) l))
unfolding looks take_while
looks_few ch p [] = omega arith
looks_few ch p (r ∷ rs) = let n = looks_few ch p rs in by_test (holds ch p r) (λ h. rw h (omega arith)) (λ h. rw h (omega arith))

looks_pair : (ch : Choice) (p : ℕ) (k : Key) (l : List Region) → pair_is k l → spans ch p k.pair_start k.pair_end ≡ true → looks ch p l ≤ 2 * length (take_while (holds ch p) l)
unfolding looks take_while holds
looks_pair ch p k [] e h = omega arith
looks_pair ch p k (r ∷ rs) e h = let n = looks_few ch p rs in rw (← e.0, ← e.1, h) (omega arith)

cost_few : (ch : Choice) (p : ℕ) (k : Key) → pair_is k k.list → cost ch p k ≤ 2 * length (run ch p k)
unfolding cost run
cost_few ch p k e = by_test (spans ch p k.pair_start k.pair_end) (λ h. rw h (looks_pair ch p k k.list e h)) (λ h. rw h (omega arith))

steps_kids_lem : (h : ℕ) (ch : Choice) (p : ℕ) → ((c : Tree h) → Firsts h c → steps h ch p c ≤ suc h + 2 * length (find h ch p c)) → (cs : List (Tree h × Key)) (last : Tree h) → PairsIn cs → Kids (Firsts h) cs last
    → steps_kids (steps h ch p) ch p cs last ≤ suc h + 2 * length (find_kids (find h ch p) ch p cs last)
unfolding steps_kids find_kids
steps_kids_lem h ch p ih [] last ps ks = ih last ks
steps_kids_lem h ch p ih (c ∷ cs) last ps ks =
    let a = cost_few ch p c.1 ps.0 in
    by_test (ltb p c.1.key)
    (λ t. rw t (let b = ih c.0 ks.0 in simp length-append (omega arith)))
    (λ t. rw t (let b = steps_kids_lem h ch p ih cs last ps.1 ks.1 in simp length-append (omega arith)))

pub steps_few : (h : ℕ) (ch : Choice) (p : ℕ) (t : Tree h) → Firsts h t → steps h ch p t ≤ suc h + 2 * length (find h ch p t)
unfolding steps find
steps_few zero ch p t ps = omega arith
steps_few (suc h) ch p t ps = let n = steps_kids_lem h ch p (λ c q. steps_few h ch p c q) t.kids t.last ps.0 ps.1 in omega arith
