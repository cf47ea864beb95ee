-- A SPLIT PUT TOGETHER, of a leaf or an inner page: the two parts, the key between them and the page above, made in words of records only, then the three pages stored.
-- Assumes nothing.
use Prim.Native.Nat.{ℕ, zero, suc, ◌+◌, ◌≤◌, ◌<◌}
use mathlib.Core.Path.{◌≡◌, refl, sym, ap, ◌∙◌, subst}
use mathlib.Core.Logic.{◌≢◌}
use mathlib.Core.Bool.{true, false, cond, not}
use mathlib.Core.List.{List, [], ◌∷◌, ◌++◌}
use lib.Dec.{T}
use lib.ListN.{length, length-append}
use native.Mathlib.Omega.{arith}
use native.Mathlib.Decide.{ℕ_discrete}
use Rattle.words.specs.Lists.{All, Pairs, count}
use Rattle.words.proofs.Tests.{eq_no}
use Rattle.words.proofs.Counted.{one, one_at_most, count_append, count_one, count_not}
use Rattle.regions.specs.declared.Region.{Region}
use Rattle.xrtree.specs.Tree.{Key, Leaf, Inner, Tree, list_regions, list_leaves, list_pages, list_records, regions, leaves, page_places, record_places}
use Rattle.xrtree.specs.Rules.{linked}
use Rattle.xrtree.specs.Claims.{Over, Fits}
use Rattle.xrtree.specs.Local.{Here, Part}
use Rattle.xrtree.specs.Holes.{fill}
use Rattle.xrtree.proofs.Holes.{before_kids, after_kids}
use Rattle.pages.specs.Layout.{root_of, height_of, shares_of, page_of, mark_of, record_of, page_used, record_used}
use Rattle.store.proofs.Kept.{page_used_same, record_used_same}
use Rattle.holding.specs.Held.{place_of, PageHeld, Held}
use Rattle.holding.proofs.Frames.{SamePage, SameRecord}
use Rattle.standing.specs.Stands.{top, Roomy, Stands}
use Rattle.standing.proofs.Counting.{all_counted, place_once, free_uncounted, counted_used}
use Rattle.steps.specs.Steps.{size, KidsFilled, rekeyed, SameKey, moved, KeyMade, ChildAt, page_here, Split, next_places}
use Rattle.steps.proofs.Listed.{page_listed, after_rekeyed, around_child, regions_keyless, leaves_keyless, pages_keyless, rest_records, page_records}
use Rattle.steps.proofs.Stays.{HeldAs, pages_below, records_below, own_records, page_counts, pair_counts, page_number, pair_number, records_parts, words_stay, held_stored}
use Rattle.split.specs.Stored.{Stored}
use Rattle.split.proofs.Listed.{split_listed, split_records}
use Rattle.split.proofs.Stays.{every_more, held_more, places_more}

abbrev pub page_now : {w : List ℕ} {h q i : ℕ} → ChildAt w h q i → Tree h → Key → Key → Tree h → Inner (Tree h)
page_now {q = q} s left key key' right = fill q (s.pre ++ (left, key) ∷ []) (rekeyed s.post key') right

-- what is there before the pages are stored: w₂ is w but for some records, lws, rws and pws are the words of the left part, the right part and the page above
pub record Made (w w₂ : List ℕ) (h q i c : ℕ) (s : ChildAt w h q i) (r : ℕ) (lws rws pws : List ℕ) : Type 0 where
  pub left : Tree h
  pub right : Tree h
  pub key : Key
  pub key' : Key
  pub key_made : KeyMade h s.child left right key.key
  pub next_same : SameKey s.post key'
  -- records: those taken, those written
  pub fresh : List ℕ
  pub touched : List ℕ
  pub long : length w₂ ≡ length w
  pub root : root_of w₂ ≡ root_of w
  pub height : height_of w₂ ≡ height_of w
  pub shares : shares_of w₂ ≡ shares_of w
  pub pages : (x : ℕ) → x ≤ 160 → page_of w₂ x ≡ page_of w x
  pub records : (x : ℕ) → 1 ≤ x → count x touched ≡ 0 → record_of w₂ x ≡ record_of w x
  pub uses : (x : ℕ) → 1 ≤ x → x ≤ 500 → cond (record_used w₂ x) 1 0 ≡ cond (record_used w x) 1 0 + count x fresh
  pub fresh_range : (x : ℕ) → 0 < count x fresh → (1 ≤ x) × (x ≤ 500)
  pub own : (x : ℕ) → 0 < count x touched → 0 < count x fresh + count x (own_records h s.child) + count x (next_places s.post)
  -- pages
  pub left_mark : mark_of lws ≢ 0
  pub right_mark : mark_of rws ≢ 0
  pub above_mark : mark_of pws ≢ 0
  pub left_place : place_of h left ≡ place_of h s.child
  pub right_place : place_of h right ≡ r
  pub left_held : HeldAs w w₂ lws h left
  pub right_held : HeldAs w w₂ rws h right
  pub above_held : PageHeld w₂ pws h (page_now s left key key' right)
  -- the tree
  pub part : Part s.rs (suc h) s.lo s.hi (page_now s left key key' right)
  pub same_regions_lem : regions h left ++ regions h right ≡ regions h s.child
  pub same_links : (us vs : List Leaf) → T (linked (us ++ (leaves h s.child ++ vs))) → T (linked (us ++ ((leaves h left ++ leaves h right) ++ vs)))
  pub below_pages : pages_below h left ++ pages_below h right ≡ pages_below h s.child
  pub below_records : records_below h left ++ records_below h right ≡ records_below h s.child
  pub own_records_lem : (x : ℕ) → count x (own_records h left) + count x key.places + count x (own_records h right) + count x (next_places (rekeyed s.post key'))
      ≡ count x fresh + count x (own_records h s.child) + count x (next_places s.post)
  pub room : length (page_now s left key key' right).kids ≤ 9
  pub roomy_left : Roomy h left
  pub roomy_right : Roomy h right
  pub size_left : size h left ≡ c
  pub size_right : c + moved h + size h right ≡ size h s.child
  pub kids_filled : KidsFilled h s.child → KidsFilled h left × KidsFilled h right

used_of : (w : List ℕ) (x : ℕ) → mark_of (page_of w x) ≢ 0 → page_used w x ≡ true
unfolding page_used
used_of w x n = ap not (eq_no (mark_of (page_of w x)) 0 n)

module _ {w w₂ w₅ : List ℕ} {h q i c : ℕ} {s : ChildAt w h q i} {r : ℕ} {lws rws pws : List ℕ}
    (m : Made w w₂ h q i c s r lws rws pws) (t : Stored w₂ w₅ (place_of h s.child) lws r rws q pws) (r_low : 1 ≤ r) (r_high : r ≤ 160) (r-free : page_used w r ≡ false) where
  abbrev p : ℕ
  p = place_of h s.child

  st : Stands w s.rs (suc h) s.lo s.hi (page_here s) s.o
  st = s.stands

  -- PAGES by counts
  old_pages : (x : ℕ) → count x (page_places (suc h) (page_here s) ++ s.o.pages)
      ≡ count x (q ∷ []) + count x (before_kids list_pages h s.pre) + count x (p ∷ []) + count x (pages_below h s.child) + count x (after_kids list_pages h s.post) + count x s.o.pages
  old_pages x = omega (arith, count_append x (page_places (suc h) (page_here s)) s.o.pages, page_counts h q s.pre s.post x s.child)

  new_pages : (x : ℕ) → count x (page_places (suc h) (page_now s m.left m.key m.key' m.right) ++ s.o.pages)
      ≡ count x (r ∷ []) + count x (page_places (suc h) (page_here s) ++ s.o.pages)
  new_pages x =
      omega (
        arith,
        old_pages x,
        count_append x (page_places (suc h) (page_now s m.left m.key m.key' m.right)) s.o.pages,
        pair_counts h q s.pre (rekeyed s.post m.key') x m.left m.right m.key,
        ap (count x) (after_rekeyed list_pages pages_keyless h s.post m.key'),
        ap (λ z. count x (z ∷ [])) m.left_place,
        ap (λ z. count x (z ∷ [])) m.right_place,
        count_append x (pages_below h m.left) (pages_below h m.right),
        ap (count x) m.below_pages,
      )

  r_apart : count r (page_places (suc h) (page_here s) ++ s.o.pages) ≡ 0
  r_apart = free_uncounted st.pages r r_low r_high r-free

  -- every page but the three
  page_stays : (x : ℕ) → 0 < count x (before_kids list_pages h s.pre) + count x (pages_below h s.child) + count x (after_kids list_pages h s.post) + count x s.o.pages → SamePage w w₅ x
  page_stays x g =
      let e = old_pages x in
      let once = place_once st.pages x in
      let range = st.pages.range x (omega arith) in
      t.pages x
      (λ z. omega (arith, count_one x p z))
      (λ z. omega (arith, subst (λ y. count y (page_places (suc h) (page_here s) ++ s.o.pages) ≡ 0) (sym z) r_apart))
      (λ z. omega (arith, count_one x q z))
      ∙ m.pages x range.1

  page_uses : (x : ℕ) → 1 ≤ x → x ≤ 160 → cond (page_used w₅ x) 1 0 ≡ cond (page_used w x) 1 0 + count x (r ∷ [])
  page_uses x a b =
      elim (ℕ_discrete x r) [
        | yes e ↦ rw e (rw (used_of w₅ r (λ z. m.right_mark (sym (ap mark_of t.right_is) ∙ z)), r-free) (omega (arith, count_one r r refl)))
        | no n ↦ (let z = count_not x r n in omega (arith, ap one (others n)))
      ]
    where
      others : x ≢ r → page_used w₅ x ≡ page_used w x
      others n =
          elim (ℕ_discrete x p) [
            | yes e ↦ rw e (used_of w₅ p (λ z. m.left_mark (sym (ap mark_of t.left_is) ∙ z)) ∙ sym (counted_used st.pages p (omega (arith, old_pages p, count_one p p refl))))
            | no k ↦ elim (ℕ_discrete x q) [
              | yes e ↦ rw e (used_of w₅ q (λ z. m.above_mark (sym (ap mark_of t.above_is) ∙ z)) ∙ sym (counted_used st.pages q (omega (arith, old_pages q, count_one q q refl))))
              | no l ↦ page_used_same w w₅ x (t.pages x k n l ∙ m.pages x b)
            ]
          ]

  -- RECORDS by counts
  old_records : (x : ℕ) → count x (record_places (suc h) (page_here s) ++ s.o.records)
      ≡ count x (before_kids list_records h s.pre) + count x (own_records h s.child) + count x (records_below h s.child) + count x (next_places s.post) + count x (rest_records h s.post) + count x s.o.records
  old_records x =
      omega (arith, count_append x (record_places (suc h) (page_here s)) s.o.records, page_records h q x s.pre s.post s.child, records_parts x h s.child)

  new_records : (x : ℕ) → count x (record_places (suc h) (page_now s m.left m.key m.key' m.right) ++ s.o.records)
      ≡ count x m.fresh + count x (record_places (suc h) (page_here s) ++ s.o.records)
  new_records x =
      omega (
        arith,
        old_records x,
        count_append x (record_places (suc h) (page_now s m.left m.key m.key' m.right)) s.o.records,
        split_records h q x s.pre s.post m.left m.right m.key m.key',
        records_parts x h m.left,
        records_parts x h m.right,
        m.own_records_lem x,
        count_append x (records_below h m.left) (records_below h m.right),
        ap (count x) m.below_records,
      )

  -- every record but those of the child's own keys, of the next key and of the taken ones
  record_stays : (x : ℕ) → 0 < count x (before_kids list_records h s.pre) + count x (records_below h s.child) + count x (rest_records h s.post) + count x s.o.records → SameRecord w w₅ x
  record_stays x g = t.records x ∙ m.records x range.0 (by (count x m.touched) refl)
    where
      e : count x (record_places (suc h) (page_here s) ++ s.o.records) ≡ count x (before_kids list_records h s.pre) + count x (own_records h s.child) + count x (records_below h s.child) + count x (next_places s.post) + count x (rest_records h s.post) + count x s.o.records
      e = old_records x

      range : (1 ≤ x) × (x ≤ 500)
      range = st.records.range x (omega (arith, e))

      by : (n : ℕ) → count x m.touched ≡ n → count x m.touched ≡ 0
      by zero z = z
      by (suc n) z =
          absurd (omega (arith, e, m.own x (omega arith), place_once st.records x, st.records.once x range.0 range.1, m.uses x range.0 range.1, one_at_most (record_used w₂ x)))

  record_uses : (x : ℕ) → 1 ≤ x → x ≤ 500 → cond (record_used w₅ x) 1 0 ≡ cond (record_used w x) 1 0 + count x m.fresh
  record_uses x a b = ap (λ b. cond b 1 0) (record_used_same w₂ w₅ x (t.records x)) ∙ m.uses x a b

  -- HELD
  pages_in_lem : (ps : List ℕ) → ((x : ℕ) → count x ps ≤ count x (before_kids list_pages h s.pre) + count x (pages_below h s.child) + count x (after_kids list_pages h s.post) + count x s.o.pages) → All (SamePage w w₅) ps
  pages_in_lem ps f = all_counted (SamePage w w₅) ps (λ x g. page_stays x (omega (arith, f x)))

  records_in_lem : (ps : List ℕ) → ((x : ℕ) → count x ps ≤ count x (before_kids list_records h s.pre) + count x (records_below h s.child) + count x (rest_records h s.post) + count x s.o.records) → All (SameRecord w w₅) ps
  records_in_lem ps f = all_counted (SameRecord w w₅) ps (λ x g. record_stays x (omega (arith, f x)))

  left_there : Held w₅ h m.left
  left_there =
      held_stored w w₂ w₅ lws h m.left (ap (page_of w₅) m.left_place ∙ t.left_is) t.records
      (pages_in_lem (pages_below h m.left) (λ x. omega (arith, count_append x (pages_below h m.left) (pages_below h m.right), ap (count x) m.below_pages)))
      (records_in_lem (records_below h m.left) (λ x. omega (arith, count_append x (records_below h m.left) (records_below h m.right), ap (count x) m.below_records)))
      m.left_held

  right_there : Held w₅ h m.right
  right_there =
      held_stored w w₂ w₅ rws h m.right (ap (page_of w₅) m.right_place ∙ t.right_is) t.records
      (pages_in_lem (pages_below h m.right) (λ x. omega (arith, count_append x (pages_below h m.left) (pages_below h m.right), ap (count x) m.below_pages)))
      (records_in_lem (records_below h m.right) (λ x. omega (arith, count_append x (records_below h m.left) (records_below h m.right), ap (count x) m.below_records)))
      m.right_held

  held_now : Held w₅ (suc h) (page_now s m.left m.key m.key' m.right)
  held_now = (
    subst (λ ws. PageHeld w₅ ws h (page_now s m.left m.key m.key' m.right)) (sym t.above_is) (words_stay w₂ w₅ pws h (page_now s m.left m.key m.key' m.right) t.records m.above_held),
    held_more w w₅ h s.pre s.post s.child m.left m.right m.key m.key'
        (pages_in_lem (before_kids list_pages h s.pre) (λ x. omega arith)) (pages_in_lem (after_kids list_pages h s.post) (λ x. omega arith))
        (records_in_lem (before_kids list_records h s.pre) (λ x. omega arith)) (records_in_lem (rest_records h s.post) (λ x. omega arith))
        st.held.1 left_there right_there,
  )

  same_now : regions (suc h) (page_now s m.left m.key m.key' m.right) ≡ regions (suc h) (page_here s)
  same_now =
      split_listed list_regions regions_keyless h q s.pre s.post m.left m.right m.key m.key'
      ∙ ap (λ (z : List Region). before_kids list_regions h s.pre ++ (z ++ after_kids list_regions h s.post)) m.same_regions_lem
      ∙ sym (page_listed list_regions regions_keyless h q s.pre s.post s.child)

  links_now : T (linked (s.o.before ++ (leaves (suc h) (page_now s m.left m.key m.key' m.right) ++ s.o.after)))
  links_now =
      let b = before_kids list_leaves h s.pre in
      let d = after_kids list_leaves h s.post in
      subst (λ l. T (linked l))
      (around_child s.o.before b (leaves h m.left ++ leaves h m.right) d s.o.after
      ∙ ap (λ l. s.o.before ++ (l ++ s.o.after)) (sym (split_listed list_leaves leaves_keyless h q s.pre s.post m.left m.right m.key m.key')))
      (m.same_links (s.o.before ++ b) (d ++ s.o.after)
      (subst (λ l. T (linked l))
      (ap (λ l. s.o.before ++ (l ++ s.o.after)) (page_listed list_leaves leaves_keyless h q s.pre s.post s.child)
      ∙ sym (around_child s.o.before b (leaves h s.child) d s.o.after)) st.links))

  one_more : length (page_places (suc h) (page_now s m.left m.key m.key' m.right)) ≡ suc (length (page_places (suc h) (page_here s)))
  one_more =
      omega (
        arith,
        pair_number h q s.pre (rekeyed s.post m.key') m.left m.right m.key,
        page_number h q s.pre s.post s.child,
        ap length (after_rekeyed list_pages pages_keyless h s.post m.key'),
        length-append (pages_below h m.left) (pages_below h m.right),
        ap length m.below_pages,
      )

  pub assemble : Split w w₅ h q i c s
  assemble =
      record {
        left = m.left;
        right = m.right;
        key = m.key;
        key' = m.key';
        key_made = m.key_made;
        next_same = m.next_same;
        stands = record {
          long = t.long ∙ m.long ∙ st.long;
          held = held_now;
          roomy = (m.room, every_more (Roomy h) s.pre s.post s.child m.left m.right m.key m.key' st.roomy.1 m.roomy_left m.roomy_right);
          part = m.part;
          near = subst (Here s.rs s.lo s.hi) (sym same_now) st.near;
          pairs = subst (Pairs Over) (sym same_now) st.pairs;
          well = subst (All (Fits top)) (sym same_now) st.well;
          links = links_now;
          pages = places_more st.pages (page_used w₅) (r ∷ []) _ page_uses (λ x g. elim (ℕ_discrete x r) [ yes e ↦ rw e (r_low, r_high) | no n ↦ absurd (omega (arith, count_not x r n)) ]) new_pages;
          records = places_more st.records (record_used w₅) m.fresh _ record_uses m.fresh_range new_records;
        };
        same = same_now;
        spares = record {
          long = t.long ∙ m.long;
          root = t.root ∙ m.root;
          height = t.height ∙ m.height;
          shares = t.shares ∙ m.shares;
          pages = λ x g. page_stays x (omega arith);
          records = λ x g. record_stays x (omega arith);
        };
        size_left = m.size_left;
        size_right = m.size_right;
        kids_filled = m.kids_filled;
        one_page = one_more;
      }
