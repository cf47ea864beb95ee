-- What is known of a child in its page, whatever its height: its place and the page's, that no record stands twice, a free page, the page above ready for a key.
-- Assumes nothing.
use Prim.Native.Nat.{ℕ, zero, suc, ◌+◌, ◌≤◌, ◌<◌}
use mathlib.Core.Path.{◌≡◌, refl, sym, ap, ap₂, ◌∙◌}
use mathlib.Core.Logic.{◌≢◌}
use mathlib.Core.Bool.{true, false, not, true≢false}
use mathlib.Core.List.{List, [], ◌∷◌, ◌++◌}
use lib.ListN.{length, length-append, get_or, take}
use native.Mathlib.Omega.{arith}
use Rattle.words.specs.Lists.{count, take_while}
use Rattle.words.proofs.Tests.{eq_yes}
use Rattle.words.proofs.Counted.{count_append, count_same, sum_same, sum_count, one_at_most}
use Rattle.regions.specs.Positions.{stabs}
use Rattle.regions.specs.declared.Region.{Region}
use Rattle.xrtree.specs.Tree.{Key, weave, listed, list_pages, list_records, page_places, record_places}
use Rattle.xrtree.specs.Holes.{lo_after, Post, fill_kids, fill_last, hi_post}
use Rattle.xrtree.specs.Moves.{key_with}
use Rattle.xrtree.proofs.Holes.{before_kids, after_kids}
use Rattle.xrtree.specs.Holes.Post.{at_key, at_end}
use Rattle.pages.specs.Layout.{page_of, mark_of, fill_of, child_in, page_used, record_used}
use Rattle.pages.specs.declared.KeyWords.{KeyWords}
use Rattle.holding.specs.Held.{KeyHeld, kid_places, place_of, key_records}
use Rattle.holding.proofs.Frames.{keys_frame}
use Rattle.standing.specs.Stands.{Stands}
use Rattle.standing.proofs.Counting.{all_counted, place_once, counted_used}
use Rattle.standing.proofs.Child.{around_hole, stands_hole}
use Rattle.steps.specs.Steps.{rekeyed, SameKey, ChildAt, page_here, next_places}
use Rattle.steps.proofs.Listed.{page_listed, pages_keyless}
use Rattle.steps.proofs.Stays.{pages_root, pages_below, own_records, records_parts}
use Rattle.store.specs.Store.{FirstFree}
use Rattle.store.proofs.Places.{Fair, first_free}
use Rattle.newpages.specs.Pages.{keys_of}
use Rattle.newpages.proofs.Read.{child_in_lem}
use Rattle.records.specs.Touched.{Touched, in_use, Uses}
use Rattle.records.proofs.Marks.{none_in}
use Rattle.raising.specs.Sides.{topped_places, next_cut}
use Rattle.newkey.specs.Moves.{used_records}
use Rattle.raising.specs.Moves.{EnterReady}
use Rattle.raising.proofs.Keys.{untouched, count_two}

-- child number i of the children
kid_at : {A : Type 0} (place : A → ℕ) (pre : List (A × Key)) (post : Post A) (t : A) → get_or (kid_places place (fill_kids pre post t) (fill_last post t)) (length pre) 0 ≡ place t
kid_at place [] (at_key k cs last) t = refl
kid_at place [] at_end t = refl
kid_at place (c ∷ pre) (at_key k cs last) t = kid_at place pre (at_key k cs last) t
kid_at place (c ∷ pre) at_end t = kid_at place pre at_end t

pre_fits : {A : Type 0} (pre : List (A × Key)) (post : Post A) (t : A) → length pre ≤ length (fill_kids pre post t)
pre_fits pre (at_key k cs last) t = omega (arith, length-append pre ((t, k) ∷ cs))
pre_fits pre at_end t = omega arith

pub long_more : {A : Type 0} (pre : List (A × Key)) (post : Post A) (t l r : A) (k j : Key) → length (fill_kids (pre ++ (l, k) ∷ []) (rekeyed post j) r) ≡ suc (length (fill_kids pre post t))
long_more pre (at_key a cs last) t l r k j = omega (arith, length-append (pre ++ (l, k) ∷ []) ((r, j) ∷ cs), length-append pre ((l, k) ∷ []), length-append pre ((t, a) ∷ cs))
long_more pre at_end t l r k j = omega (arith, length-append pre ((l, k) ∷ []))

child_records : {A : Type 0} (x : ℕ) (f : A → List ℕ) (pre : List (A × Key)) (post : Post A) (t : A) → count x (f t) ≤ count x (weave f (λ (k : Key). []) (fill_kids pre post t) (fill_last post t))
unfolding weave
child_records x f [] (at_key k cs last) t = omega (arith, count_append x (f t) (weave f (λ (k : Key). []) cs last))
child_records x f [] at_end t = omega arith
child_records x f (c ∷ pre) (at_key k cs last) t = omega (arith, count_append x (f c.0) (weave f (λ (k : Key). []) (pre ++ (t, k) ∷ cs) last), child_records x f pre (at_key k cs last) t)
child_records x f (c ∷ pre) at_end t = omega (arith, count_append x (f c.0) (weave f (λ (k : Key). []) pre t), child_records x f pre at_end t)

pub cut_same : {A : Type 0} (k : ℕ) (post : Post A) → SameKey post (next_cut k post)
cut_same k (at_key j cs last) = refl
cut_same k at_end = tt

pub topped_counts : {A : Type 0} (x k : ℕ) (post : Post A) (ps : List ℕ) → count x (topped_places k post ps) + count x (next_places (rekeyed post (next_cut k post))) ≡ count x ps + count x (next_places post)
topped_counts x k (at_key j cs last) ps =
    let n = length (take_while (stabs k) j.list) in
    omega (arith, count_append x (take n j.places) ps, count_two x n j.places)
topped_counts x k at_end ps = refl

mark_of_lem : (w : List ℕ) (x : ℕ) → page_used w x ≡ true → mark_of (page_of w x) ≢ 0
unfolding page_used
mark_of_lem w x u z = true≢false (sym u ∙ ap not (eq_yes (mark_of (page_of w x)) 0 z))

module _ {w : List ℕ} {h q i : ℕ} (s : ChildAt w h q i) where
  abbrev st : Stands w s.rs (suc h) s.lo s.hi (page_here s) s.o
  st = s.stands

  pub child_stands : Stands w s.rs h (lo_after s.lo s.pre) (hi_post s.hi s.post) s.child (around_hole 1 h (q, s.pre, s.post, tt) s.o)
  child_stands = stands_hole w s.rs 1 h s.lo s.hi (q, s.pre, s.post, tt) s.child s.o s.stands

  -- PLACES
  q_counted : 0 < count q (page_places (suc h) (page_here s) ++ s.o.pages)
  unfolding listed
  q_counted = omega (arith, count_append q (page_places (suc h) (page_here s)) s.o.pages, count_same q (pages_below (suc h) (page_here s)))

  p_counted : 0 < count (place_of h s.child) (page_places h s.child)
  p_counted = omega (arith, ap (count (place_of h s.child)) (pages_root h s.child), count_same (place_of h s.child) (pages_below h s.child))

  p_two : count (place_of h s.child) (q ∷ []) + count (place_of h s.child) (page_places h s.child) ≤ count (place_of h s.child) (page_places (suc h) (page_here s) ++ s.o.pages)
  unfolding count
  p_two =
      let x = place_of h s.child in
      let b = before_kids list_pages h s.pre in
      let d = after_kids list_pages h s.post in
      let e : page_places (suc h) (page_here s) ≡ q ∷ (b ++ (page_places h s.child ++ d)) = page_listed list_pages pages_keyless h q s.pre s.post s.child in
      omega (arith, count_append x (page_places (suc h) (page_here s)) s.o.pages, ap (count x) e, count_append x b (page_places h s.child ++ d), count_append x (page_places h s.child) d)

  pub q_range : (1 ≤ q) × (q ≤ 160)
  q_range = st.pages.range q q_counted

  pub p_range : (1 ≤ place_of h s.child) × (place_of h s.child ≤ 160)
  p_range = st.pages.range (place_of h s.child) (omega (arith, p_two, p_counted))

  pub p_not_q : place_of h s.child ≢ q
  p_not_q e = omega (arith, p_two, p_counted, place_once st.pages (place_of h s.child), ap (λ z. count (place_of h s.child) (z ∷ [])) (sym e), count_same (place_of h s.child) [])

  pub q_mark : mark_of (page_of w q) ≢ 0
  q_mark = mark_of_lem w q (counted_used st.pages q q_counted)

  pub p_mark : mark_of (page_of w (place_of h s.child)) ≢ 0
  p_mark = mark_of_lem w (place_of h s.child) (counted_used st.pages (place_of h s.child) (omega (arith, p_two, p_counted)))

  pub i_fits : i ≤ fill_of (page_of w q)
  i_fits = omega (arith, st.held.0.fill_is, pre_fits s.pre s.post s.child, s.index)

  pub child_is : child_in (page_of w q) i ≡ place_of h s.child
  child_is =
      let e : 0 + i ≡ i = omega arith in
      sym (rw e at (child_in_lem (page_of w q) 0 (suc (fill_of (page_of w q))) i (omega (arith, i_fits)))) ∙ ap₂ (λ (l : List ℕ) n. get_or l n 0) st.held.0.children_are (sym s.index) ∙ kid_at (place_of h) s.pre s.post s.child

  -- A FREE PAGE
  pub record FreePage (r : ℕ) : Type 0 where
    pub low : 1 ≤ r
    pub high : r ≤ 160
    pub free : page_used w r ≡ false
    pub not_p : place_of h s.child ≢ r
    pub not_q : r ≢ q

  pub first_is_free : (r : ℕ) → FirstFree (page_used w) 160 r → length (page_places (suc h) (page_here s) ++ s.o.pages) < 160 → FreePage r
  first_is_free r f l =
      let fair : Fair (page_used w) 160 (page_places (suc h) (page_here s) ++ s.o.pages) =
      record { range = all_counted (λ x. (1 ≤ x) × (x ≤ 160)) (page_places (suc h) (page_here s) ++ s.o.pages) st.pages.range; counts = st.pages.once } in
      let z = first_free fair r l f in
      record {
        low = z.0;
        high = z.1;
        free = z.2;
        not_p = λ e. true≢false (sym (counted_used st.pages (place_of h s.child) (omega (arith, p_two, p_counted))) ∙ ap (page_used w) e ∙ z.2);
        not_q = λ e. true≢false (sym (counted_used st.pages q q_counted) ∙ ap (page_used w) (sym e) ∙ z.2);
      }

  -- RECORDS: none twice
  pub records_once : (x : ℕ) → count x (key_records (fill_kids s.pre s.post s.child)) + count x (own_records h s.child) ≤ 1
  records_once x =
      omega (
        arith,
        place_once st.records x,
        count_append x (record_places (suc h) (page_here s)) s.o.records,
        records_parts x (suc h) (page_here s),
        child_records x (listed list_records h) s.pre s.post s.child,
        records_parts x h s.child,
      )

  pub used_all : used_records w ≡ length (record_places (suc h) (page_here s) ++ s.o.records)
  used_all =
      let ps = record_places (suc h) (page_here s) ++ s.o.records in
      sum_same (in_use w) (λ x. count x ps) 500 (λ x a b. sym (st.records.once x a b)) ∙ sum_count ps 500 (all_counted (λ x. (1 ≤ x) × (x ≤ 500)) ps st.records.range)

  -- places that were free are none of them
  pub fresh_apart : {w₁ : List ℕ} {ps : List ℕ} → Uses w w₁ ps [] → ((x : ℕ) → 0 < count x ps → (1 ≤ x) × (x ≤ 500)) → (x : ℕ) → count x (key_records (fill_kids s.pre s.post s.child)) + count x ps ≤ 1
  fresh_apart {w₁} {ps} u range x = by (count x ps) refl
    where
      by : (n : ℕ) → count x ps ≡ n → count x (key_records (fill_kids s.pre s.post s.child)) + count x ps ≤ 1
      by zero z = omega (arith, records_once x)
      by (suc n) z =
          let r = range x (omega arith) in
          omega (arith, u.counts x r.0 r.1, none_in x, one_at_most (record_used w₁ x), st.records.once x r.0 r.1, count_append x (record_places (suc h) (page_here s)) s.o.records, records_parts x (suc h) (page_here s))

  -- THE PAGE ABOVE, with a key to come in, after a change of records that are not its keys' own
  unfoldable pub enter_ready : {w₁ : List ℕ} {ts : List ℕ} (new : KeyWords) (k : ℕ) (places : List ℕ) (list : List Region) → Touched w w₁ ts → KeyHeld w₁ new (key_with k places list)
      → ((x : ℕ) → count x ts + count x (key_records (fill_kids s.pre s.post s.child)) ≤ 1) → ((x : ℕ) → count x (key_records (fill_kids s.pre s.post s.child)) + count x places ≤ 1)
      → EnterReady w₁ (page_of w q) i new h
  enter_ready {w₁} new k places list t key a b =
      record {
        q = q;
        pre = s.pre;
        post = s.post;
        child = s.child;
        index = s.index;
        held = record {
          fill_is = st.held.0.fill_is;
          children_are = st.held.0.children_are;
          keys_held = keys_frame w w₁ (keys_of (page_of w q)) (fill_kids s.pre s.post s.child) (untouched t w (keys_of (page_of w q)) (fill_kids s.pre s.post s.child) st.held.0.keys_held a) st.held.0.keys_held;
        };
        k = k;
        places = places;
        list = list;
        key_held = key;
        once = b;
      }
