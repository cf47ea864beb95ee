-- A leaf cut at c: the key between its parts, what comes into that key's list, the flags; and all that is there before the pages are stored.
-- Assumes nothing.
use Prim.Native.Nat.{ℕ, zero, suc, ◌+◌, ◌-◌, ◌≤◌, ◌<◌}
use mathlib.Core.Path.{◌≡◌, refl, sym, ap, ap₂, ◌∙◌, subst}
use mathlib.Core.List.{List, [], ◌∷◌, ◌++◌, map, append_assoc}
use lib.Dec.{eqb}
use lib.ListN.{length, get_or, take, drop, take-append-drop, length-drop}
use lib.Seq.{take-suc, drop-cons, length-take-le}
use native.Mathlib.Omega.{arith}
use Rattle.words.specs.Lists.{All, Pairs, count, filter, last_or}
use Rattle.words.proofs.Tests.{by_test}
use Rattle.words.proofs.Counted.{count_append}
use Rattle.words.proofs.Listed.{all_mono, all_two, all_take, all_drop, pairs_mono, pairs_right_lem, map_append, last_append}
use Rattle.regions.specs.Positions.{stabs}
use Rattle.regions.specs.declared.Region.{Region}
use Rattle.pages.specs.Layout.{page_of, mark_of, fill_of, next_of}
use Rattle.pages.specs.declared.KeyWords.{KeyWords}
use Rattle.xrtree.specs.Tree.{Entry, Leaf, listed, region_of, regions}
use Rattle.xrtree.specs.Claims.{leaf_at, Over, Fits, Within}
use Rattle.xrtree.specs.Local.{Here, Part}
use Rattle.xrtree.specs.Holes.{lo_after, fill, hi_post}
use Rattle.xrtree.specs.Moves.{key_with, marked, fresh}
use Rattle.xrtree.specs.Rules.{key_between}
use Rattle.xrtree.proofs.Split.{regions_marked}
use Rattle.xrtree.proofs.Merge.{all_unmap}
use Rattle.xrtree.proofs.CutLeaf.{cut, fresh_first, fresh_append, marked_later}
use Rattle.image.specs.Read.{entry_at, entries_from}
use Rattle.newpages.specs.Pages.{entries_of, spares_of, IsLeaf}
use Rattle.newpages.proofs.Read.{entries_up, entry_in}
use Rattle.newpages.proofs.Items.{up_take}
use Rattle.holding.specs.Held.{KeyHeld, LeafHeld}
use Rattle.records.proofs.Marks.{none_in, touched_then}
use Rattle.standing.specs.Stands.{top}
use Rattle.standing.proofs.Counting.{counted_all}
use Rattle.newkey.specs.Moves.{Gathered, Flagged, GatherReady}
use Rattle.newkey.proofs.Gathering.{entries_all}
use Rattle.newkey.proofs.Flagging.{map_long, entries_long}
use Rattle.steps.specs.Steps.{rekeyed, next_places, starts_of}
use Rattle.raising.specs.Sides.{topped, next_cut}
use Rattle.raising.specs.Moves.{EnterReady, Entered}
use Rattle.split.specs.Ready.{unlisted, LeafReady}
use Rattle.split.proofs.Parts.{leaf_part}
use Rattle.split.proofs.Stays.{linked_two}
use Rattle.split.proofs.Assemble.{Made}
use Rattle.split.proofs.Seen.{cut_same, child_stands, q_mark, p_mark, used_all, fresh_apart, enter_ready, long_more, topped_counts}

-- LISTS
take_map : {A B : Type 0} (f : A → B) (n : ℕ) (xs : List A) → take n (map f xs) ≡ map f (take n xs)
take_map f zero xs = refl
take_map f (suc n) [] = refl
take_map f (suc n) (x ∷ xs) = ap (f x ∷◌) (take_map f n xs)

drop_map : {A B : Type 0} (f : A → B) (n : ℕ) (xs : List A) → drop n (map f xs) ≡ map f (drop n xs)
drop_map f zero xs = refl
drop_map f (suc n) [] = refl
drop_map f (suc n) (x ∷ xs) = drop_map f n xs

entries_take : (ws : List ℕ) (m n : ℕ) → m ≤ n → entries_from ws 0 m ≡ take m (entries_from ws 0 n)
entries_take ws m n h = entries_up ws 0 m ∙ sym (up_take (entry_at ws) 0 m n h) ∙ ap (take m) (sym (entries_up ws 0 n))

starts_marked : (k : ℕ) (es : List Entry) → starts_of (map (marked k) es) ≡ starts_of es
unfolding marked
starts_marked k [] = refl
starts_marked k (e ∷ es) = ap (e.region.start ∷◌) (starts_marked k es)

-- at most those with flag 0
fresh_unlisted : (k : ℕ) (es : List Entry) → length (fresh k es) ≤ unlisted es
unfolding fresh filter
fresh_unlisted k [] = omega arith
fresh_unlisted k (e ∷ es) =
    by_test (eqb e.flag 0)
    (λ h. rw h (by_test (stabs k e.region) (λ t. rw t (omega (arith, fresh_unlisted k es))) (λ t. rw t (omega (arith, fresh_unlisted k es)))))
    (λ h. rw h (fresh_unlisted k es))

-- THE CUT of a leaf's words lf at c, by any key k that separates the two parts
abbrev pub Separates : List ℕ → ℕ → ℕ → Type 0
Separates lf c k = ((entry_at lf (c - 1)).region.start < k) × (k ≤ (entry_at lf c).region.start)

pub record LeafCut (lf : List ℕ) (c k : ℕ) : Type 0 where
  pub above_last : (entry_at lf (c - 1)).region.start < k
  pub at_most_first : k ≤ (entry_at lf c).region.start
  pub low : All (λ (e : Entry). e.region.start < k) (take c (entries_of lf))
  pub high : All (λ (e : Entry). k ≤ e.region.start) (drop c (entries_of lf))
  pub fresh_is : fresh k (entries_from lf 0 (c + 1)) ≡ fresh k (take c (entries_of lf) ++ drop c (entries_of lf))
  pub marks_are : map (marked k) (take (c + 1) (entries_of lf)) ++ drop (c + 1) (entries_of lf) ≡ map (marked k) (entries_of lf)

module _ (lf : List ℕ) (c : ℕ) (one : 1 ≤ c) (more : c < fill_of lf) (pairs : Pairs Over (map region_of (entries_of lf))) where
  many : length (entries_of lf) ≡ fill_of lf
  many = entries_long lf 0 (fill_of lf)

  at : (j : ℕ) → j < fill_of lf → get_or (entries_of lf) j (entry_at lf j) ≡ entry_at lf j
  at j h = let e : 0 + j ≡ j = omega arith in rw e at (entry_in lf 0 (fill_of lf) j (entry_at lf j) h)

  take_c : take c (entries_of lf) ≡ take (c - 1) (entries_of lf) ++ entry_at lf (c - 1) ∷ []
  take_c =
      let e : c ≡ suc (c - 1) = omega arith in
      ap (λ n. take n (entries_of lf)) e ∙ take-suc (entries_of lf) (c - 1) (entry_at lf (c - 1)) (omega (arith, many)) ∙ ap (λ z. take (c - 1) (entries_of lf) ++ z ∷ []) (at (c - 1) (omega arith))

  drop_c : drop c (entries_of lf) ≡ entry_at lf c ∷ drop (suc c) (entries_of lf)
  drop_c = drop-cons (entries_of lf) c (entry_at lf c) (omega (arith, many)) ∙ ap (λ z. z ∷ drop (suc c) (entries_of lf)) (at c more)

  parts : take (c - 1) (entries_of lf) ++ entry_at lf (c - 1) ∷ entry_at lf c ∷ drop (suc c) (entries_of lf) ≡ entries_of lf
  parts =
      sym (append_assoc (take (c - 1) (entries_of lf)) (entry_at lf (c - 1) ∷ []) (entry_at lf c ∷ drop (suc c) (entries_of lf)))
      ∙ ap₂ (λ (u v : List Entry). u ++ v) (sym take_c) (sym drop_c) ∙ take-append-drop c (entries_of lf)

  ordered : Pairs (λ (x y : Region). x.start < y.start) (map region_of (take (c - 1) (entries_of lf) ++ entry_at lf (c - 1) ∷ entry_at lf c ∷ drop (suc c) (entries_of lf)))
  ordered = subst (λ l. Pairs (λ (x y : Region). x.start < y.start) (map region_of l)) (sym parts) (pairs_mono (λ x y o. o.0) (map region_of (entries_of lf)) pairs)

  pub starts_rise : (entry_at lf (c - 1)).region.start < (entry_at lf c).region.start
  starts_rise =
      (pairs_right_lem (λ (x y : Region). x.start < y.start) (map region_of (take (c - 1) (entries_of lf))) (map region_of (entry_at lf (c - 1) ∷ entry_at lf c ∷ drop (suc c) (entries_of lf)))
      (subst (Pairs (λ (x y : Region). x.start < y.start)) (map_append region_of (take (c - 1) (entries_of lf)) (entry_at lf (c - 1) ∷ entry_at lf c ∷ drop (suc c) (entries_of lf))) ordered)).0.0

  -- the two starts that rule 2 makes the key of, by the parts
  pub last_start : last_or 0 (starts_of (take c (entries_of lf))) ≡ (entry_at lf (c - 1)).region.start
  unfolding last_or
  last_start = rw (take_c, map_append) (last_append 0 (starts_of (take (c - 1) (entries_of lf))) _ [])

  pub first_start_lem : get_or (starts_of (drop c (entries_of lf))) 0 0 ≡ (entry_at lf c).region.start
  first_start_lem = rw drop_c

  pub leaf_cut : (k : ℕ) → Separates lf c k → LeafCut lf c k
  leaf_cut k b =
      let u = cut k (take (c - 1) (entries_of lf)) (entry_at lf (c - 1)) (entry_at lf c) (drop (suc c) (entries_of lf)) ordered b.0 b.1 in
      let n : c + 1 ≡ suc c = omega arith in
      let f : take (suc c) (entries_of lf) ≡ take c (entries_of lf) ++ entry_at lf c ∷ [] = take-suc (entries_of lf) c (entry_at lf c) (omega (arith, many)) ∙ ap (λ z. take c (entries_of lf) ++ z ∷ []) (at c more) in
      record {
        above_last = b.0;
        at_most_first = b.1;
        low = subst (All (λ (e : Entry). e.region.start < k)) (sym take_c) u.low;
        high = subst (All (λ (e : Entry). k ≤ e.region.start)) (sym drop_c) u.high;
        fresh_is =
            ap (fresh k) (entries_take lf (c + 1) (fill_of lf) (omega arith) ∙ ap (λ m. take m (entries_of lf)) n ∙ f) ∙ fresh_append k (take c (entries_of lf)) (entry_at lf c ∷ [])
            ∙ sym (fresh_first k (take c (entries_of lf)) (entry_at lf c) (drop (suc c) (entries_of lf)) u.past) ∙ ap (λ (l : List Entry). fresh k (take c (entries_of lf) ++ l)) (sym drop_c);
        marks_are =
            ap (λ m. map (marked k) (take m (entries_of lf)) ++ drop m (entries_of lf)) n
            ∙ ap (λ (l : List Entry). map (marked k) (take (suc c) (entries_of lf)) ++ l) (sym (marked_later k (drop (suc c) (entries_of lf)) u.past))
            ∙ sym (map_append (marked k) (take (suc c) (entries_of lf)) (drop (suc c) (entries_of lf))) ∙ ap (map (marked k)) (take-append-drop (suc c) (entries_of lf));
      }

-- WHAT THE CALLS ASK
module _ {w : List ℕ} {q i c : ℕ} (s : LeafReady w q i c) where
  pub leaf_held : LeafHeld (page_of w s.child_at.child.place) s.child_at.child
  leaf_held = (child_stands s.child_at).held

  pub leaf_fill : fill_of (page_of w s.child_at.child.place) ≡ length s.child_at.child.entries
  leaf_fill = sym (entries_long (page_of w s.child_at.child.place) 0 _) ∙ ap length leaf_held.entries_are

  pub leaf_more : c < fill_of (page_of w s.child_at.child.place)
  leaf_more = omega (arith, leaf_fill, s.high)

  pub leaf_few : fill_of (page_of w s.child_at.child.place) ≤ 9
  leaf_few = omega (arith, leaf_fill, (child_stands s.child_at).roomy)

  leaf_regions_lem : map region_of (entries_of (page_of w s.child_at.child.place)) ≡ regions 0 s.child_at.child
  unfolding listed
  leaf_regions_lem = ap (map region_of) leaf_held.entries_are

  pub leaf_pairs : Pairs Over (map region_of (entries_of (page_of w s.child_at.child.place)))
  leaf_pairs = subst (Pairs Over) (sym leaf_regions_lem) (child_stands s.child_at).pairs

  pub leaf_well : All (λ (e : Entry). Fits top e.region) (entries_of (page_of w s.child_at.child.place))
  leaf_well = all_unmap region_of (Fits top) (entries_of (page_of w s.child_at.child.place)) (subst (All (Fits top)) (sym leaf_regions_lem) (child_stands s.child_at).well)

  pub gather_ready : (k : ℕ) → LeafCut (page_of w s.child_at.child.place) c k → GatherReady w (page_of w s.child_at.child.place) (c + 1) k
  gather_ready k u =
      let lf = page_of w s.child_at.child.place in
      let e = entries_take lf (c + 1) (fill_of lf) (omega (arith, leaf_more)) in
      record {
        long = s.child_at.stands.long;
        few = omega (arith, leaf_more, leaf_few);
        ends = subst (All (λ (e : Entry). 1 ≤ e.region.end)) (sym e) (all_take _ (c + 1) (entries_of lf) (all_mono (λ e f. omega (arith, f.0)) (entries_of lf) leaf_well));
        room =
            omega (
              arith,
              used_all s.child_at,
              s.free_records,
              ap length u.fresh_is,
              ap (λ l. length (fresh k l)) (take-append-drop c (entries_of lf) ∙ leaf_held.entries_are),
              fresh_unlisted k s.child_at.child.entries,
            );
      }

  -- the page above is ready for the key
  module _ {w₁ : List ℕ} {k : ℕ} {key : KeyWords} (u : LeafCut (page_of w s.child_at.child.place) c k) (g : Gathered w w₁ k (entries_from (page_of w s.child_at.child.place) 0 (c + 1)) key) where
    pub fresh_range : (x : ℕ) → 0 < count x g.places → (1 ≤ x) × (x ≤ 500)
    fresh_range = counted_all (λ x. (1 ≤ x) × (x ≤ 500)) g.places g.range

    abbrev pub cut_fresh : List Region
    cut_fresh = fresh k (take c s.child_at.child.entries ++ drop c s.child_at.child.entries)

    pub fresh_here : fresh k (entries_from (page_of w s.child_at.child.place) 0 (c + 1)) ≡ cut_fresh
    fresh_here = u.fresh_is ∙ ap (λ (l : List Entry). fresh k (take c l ++ drop c l)) leaf_held.entries_are

    unfoldable pub leaf_enter : EnterReady w₁ (page_of w q) i key 0
    leaf_enter =
        enter_ready s.child_at key k g.places cut_fresh g.touched (subst (λ l. KeyHeld w₁ key (key_with k g.places l)) fresh_here g.held)
        (λ x. omega (arith, fresh_apart s.child_at g.uses fresh_range x)) (fresh_apart s.child_at g.uses fresh_range)

    -- ALL THAT IS THERE before the pages are stored
    module _ {w₂ ws lws rws pws : List ℕ} {r : ℕ} (f : Flagged (page_of w s.child_at.child.place) (c + 1) k ws) (e : Entered w₁ w₂ (page_of w q) i key r 0 leaf_enter pws)
        (l : IsLeaf lws (mark_of ws) c r (take c (entries_of ws)) (take c (spares_of ws))) (m : IsLeaf rws 1 (fill_of ws - c) (next_of ws) (drop c (entries_of ws)) (drop c (spares_of ws))) where
      marked_now : entries_of ws ≡ map (marked k) s.child_at.child.entries
      marked_now = f.entries_are ∙ u.marks_are ∙ ap (map (marked k)) leaf_held.entries_are

      whole_child : s.child_at.child ≡ leaf_at s.child_at.child.place s.child_at.child.next (take c s.child_at.child.entries ++ drop c s.child_at.child.entries)
      whole_child = λ x. record { place = s.child_at.child.place; next = s.child_at.child.next; entries = sym (take-append-drop c s.child_at.child.entries) x }

      leaf_bounds : Within (lo_after s.child_at.lo s.child_at.pre) (hi_post s.child_at.hi s.child_at.post) (entries_of (page_of w s.child_at.child.place))
      leaf_bounds =
          subst (Within (lo_after s.child_at.lo s.child_at.pre) (hi_post s.child_at.hi s.child_at.post)) (sym leaf_held.entries_are) (child_stands s.child_at).part.order

      bound_at : (j : ℕ) → j < fill_of (page_of w s.child_at.child.place)
          → (lo_after s.child_at.lo s.child_at.pre ≤ suc (entry_at (page_of w s.child_at.child.place) j).region.start) × ((entry_at (page_of w s.child_at.child.place) j).region.start < hi_post s.child_at.hi s.child_at.post)
      bound_at j h = entries_all (λ (e : Entry). (lo_after s.child_at.lo s.child_at.pre ≤ suc e.region.start) × (e.region.start < hi_post s.child_at.hi s.child_at.post)) (page_of w s.child_at.child.place) 0 _ j leaf_bounds (omega arith) (omega arith)

      part_now : Part s.child_at.rs 1 s.child_at.lo s.child_at.hi (fill q
          (s.child_at.pre ++ (leaf_at s.child_at.child.place r (map (marked k) (take c s.child_at.child.entries)), topped k s.child_at.post g.places cut_fresh) ∷ [])
          (rekeyed s.child_at.post (next_cut k s.child_at.post)) (leaf_at r s.child_at.child.next (map (marked k) (drop c s.child_at.child.entries))))
      unfolding listed
      part_now =
          let a = s.child_at in
          let p = a.child.place in
          let n = a.child.next in
          let xs = take c a.child.entries in
          let ys = drop c a.child.entries in
          leaf_part a.rs s.nested a.lo a.hi q k p n p r r n a.pre xs ys g.places a.post
          (subst (λ l. All (λ (e : Entry). e.region.start < k) (take c l)) leaf_held.entries_are u.low)
          (all_two (λ e x y. (x, y.0)) ys (subst (λ l. All (λ (e : Entry). k ≤ e.region.start) (drop c l)) leaf_held.entries_are u.high)
          (all_drop (λ (e : Entry). Fits top e.region) c a.child.entries (subst (All (λ (e : Entry). Fits top e.region)) leaf_held.entries_are leaf_well)))
          (omega (arith, (bound_at (c - 1) (omega (arith, leaf_more))).0, u.above_last, s.low))
          (omega (arith, (bound_at c leaf_more).1, u.at_most_first))
          (subst (λ (t : Leaf). Here a.rs (lo_after a.lo a.pre) (hi_post a.hi a.post) (map region_of t.entries)) whole_child (child_stands a).near)
          (subst (λ (t : Leaf). Part a.rs 1 a.lo a.hi (fill q a.pre a.post t)) whole_child a.stands.part)

      pub leaf_made : k ≡ key_between (entry_at (page_of w s.child_at.child.place) (c - 1)).region.start (entry_at (page_of w s.child_at.child.place) c).region.start
          → Made w w₂ 0 q i c s.child_at r lws rws pws
      unfolding listed leaf_enter enter_ready
      leaf_made k-is =
          let a = s.child_at in
          let p = a.child.place in
          let n = a.child.next in
          let lf = page_of w p in
          let xs = take c a.child.entries in
          let ys = drop c a.child.entries in
          let t = touched_then g.touched e.touched in
          record {
            left = leaf_at p r (map (marked k) xs);
            right = leaf_at r n (map (marked k) ys);
            key = topped k a.post g.places cut_fresh;
            key' = next_cut k a.post;
            key_made = k-is ∙ simp (starts_marked, ← leaf_held.entries_are) (sym (ap₂ key_between (last_start lf c s.low leaf_more leaf_pairs) (first_start_lem lf c s.low leaf_more leaf_pairs)));
            next_same = cut_same k a.post;
            fresh = g.places;
            touched = g.places ++ next_places a.post;
            long = t.long;
            root = t.root;
            height = t.height;
            shares = t.shares;
            pages = t.pages;
            records = t.records;
            uses = λ x low high. omega (arith, g.uses.counts x low high, e.uses.counts x low high, none_in x);
            fresh_range = fresh_range;
            own = λ x h. omega (arith, count_append x g.places (next_places a.post), none_in x);
            left_mark = λ z. p_mark a (sym (l.mark_is ∙ f.mark_is) ∙ z);
            right_mark = λ z. (let o : ◌≡◌ {A = ℕ} 1 0 = sym m.mark_is ∙ z in omega arith);
            above_mark = λ z. q_mark a (sym e.mark_is ∙ z);
            left_place = refl;
            right_place = refl;
            left_held = record { entries_are = l.entries_are ∙ ap (take c) marked_now ∙ take_map (marked k) c a.child.entries; next_is = l.next_is };
            right_held = record { entries_are = m.entries_are ∙ ap (drop c) marked_now ∙ drop_map (marked k) c a.child.entries; next_is = m.next_is ∙ f.next_is ∙ leaf_held.next_is };
            above_held = e.held (leaf_at p r (map (marked k) xs)) (leaf_at r n (map (marked k) ys)) refl refl;
            part = part_now;
            same_regions_lem = ap₂ (λ (u v : List Region). u ++ v) (regions_marked k xs) (regions_marked k ys) ∙ sym (map_append region_of xs ys) ∙ ap (map region_of) (take-append-drop c a.child.entries);
            same_links = λ us vs h. linked_two p n r a.child.entries (map (marked k) xs) (map (marked k) ys) us vs h;
            below_pages = refl;
            below_records = refl;
            own_records_lem = λ x. omega (arith, topped_counts x k a.post g.places, none_in x);
            room = omega (arith, long_more a.pre a.post a.child (leaf_at p r (map (marked k) xs)) (leaf_at r n (map (marked k) ys)) (topped k a.post g.places cut_fresh) (next_cut k a.post), s.room);
            roomy_left = omega (arith, map_long (marked k) xs, length-take-le c a.child.entries (omega (arith, s.high)), leaf_more, leaf_few);
            roomy_right = omega (arith, map_long (marked k) ys, length-drop c a.child.entries, leaf_fill, leaf_few);
            size_left = map_long (marked k) xs ∙ length-take-le c a.child.entries (omega (arith, s.high));
            size_right = omega (arith, map_long (marked k) ys, length-drop c a.child.entries, s.high);
            kids_filled = λ z. (tt, tt);
          }
