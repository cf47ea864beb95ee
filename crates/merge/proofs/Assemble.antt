-- A MERGE PUT TOGETHER, of leaves or of inner pages: the joined page and the page above, made in words of records only, then the two stored and the right page given back.
-- Assumes nothing.
use Prim.Native.Nat.{ℕ, suc, ◌+◌, ◌≤◌, ◌<◌}
use mathlib.Core.Path.{◌≡◌, refl, sym, ap, ◌∙◌, subst}
use mathlib.Core.Logic.{◌≢◌}
use mathlib.Core.Bool.{false, cond, not}
use mathlib.Core.List.{List, [], ◌∷◌, ◌++◌}
use lib.Dec.{T, eqb}
use lib.ListN.{length, length-append}
use native.Mathlib.Omega.{arith}
use native.Mathlib.Decide.{ℕ_discrete}
use Rattle.words.specs.Lists.{All, Pairs, count}
use Rattle.words.proofs.Counted.{one, count_nil, count_append, count_one, count_not}
use Rattle.regions.specs.declared.Region.{Region}
use Rattle.xrtree.specs.Tree.{Key, Leaf, Inner, Tree, list_regions, list_leaves, list_pages, list_records, regions, leaves, page_places, record_places}
use Rattle.xrtree.specs.Rules.{linked}
use Rattle.xrtree.specs.Claims.{Over, Fits}
use Rattle.xrtree.specs.Local.{Here, Part}
use Rattle.xrtree.specs.Holes.{Post, fill_kids, fill}
use Rattle.xrtree.proofs.Holes.{before_kids, after_kids}
use Rattle.xrtree.specs.Holes.Post.{at_key, at_end}
use Rattle.pages.specs.Layout.{root_of, height_of, shares_of, page_of, mark_of, record_of, page_used, record_used}
use Rattle.store.proofs.Kept.{page_used_same, record_used_same}
use Rattle.holding.specs.Held.{place_of, PageHeld, Held}
use Rattle.holding.proofs.Frames.{SamePage, SameRecord}
use Rattle.standing.specs.Stands.{top, Roomy, Stands}
use Rattle.standing.proofs.Counting.{all_counted, place_once, counted_used}
use Rattle.records.specs.Touched.{Touched, Uses}
use Rattle.steps.specs.Steps.{size, KidsFilled, rekeyed, SameKey, moved, PairAt, Merged, next_places}
use Rattle.steps.proofs.Listed.{pair_listed, after_rekeyed, around_child, regions_keyless, leaves_keyless, pages_keyless, rest_records, pair_records}
use Rattle.steps.proofs.Stays.{HeldAs, pages_below, records_below, own_records, page_counts, pair_counts, page_number, pair_number, records_parts, words_stay, held_stored}
use Rattle.merge.proofs.Listed.{joined_listed, joined_records}
use Rattle.merge.proofs.Stays.{every_joined, held_joined, places_less}

-- the two pages before, the one afterwards
abbrev pub page_then : {w : List ℕ} {h q j : ℕ} → PairAt w h q j → Inner (Tree h)
page_then {q = q} s = fill q (s.pre ++ (s.left, s.key) ∷ []) s.post s.right

abbrev pub page_now : {w : List ℕ} {h q j : ℕ} → PairAt w h q j → Tree h → Key → Inner (Tree h)
page_now {q = q} s t k = fill q s.pre (rekeyed s.post k) t

-- two pages were stored, and one given back
pub record Stored (w w' : List ℕ) (p : ℕ) (joined : List ℕ) (q : ℕ) (above : List ℕ) (r : ℕ) : Type 0 where
  pub long : length w' ≡ length w
  pub root : root_of w' ≡ root_of w
  pub height : height_of w' ≡ height_of w
  pub shares : shares_of w' ≡ shares_of w
  pub joined_is : page_of w' p ≡ joined
  pub above_is : page_of w' q ≡ above
  pub free : page_used w' r ≡ false
  pub pages : (x : ℕ) → x ≢ p → x ≢ q → x ≢ r → page_of w' x ≡ page_of w x
  pub records : (x : ℕ) → record_of w' x ≡ record_of w x

-- what is there before that: w₂ is w but for records of the key's list, lws and pws are the words of the joined page and of the page above
pub record Made (w w₂ : List ℕ) (h q j : ℕ) (s : PairAt w h q j) (lws pws : List ℕ) : Type 0 where
  pub joined : Tree h
  pub key' : Key
  pub next_same : SameKey s.post key'
  pub freed : List ℕ
  pub touched : Touched w w₂ s.key.places
  pub uses : Uses w w₂ [] freed
  -- pages
  pub joined_mark : mark_of lws ≡ mark_of (page_of w (place_of h s.left))
  pub above_mark : mark_of pws ≡ mark_of (page_of w q)
  pub joined_place : place_of h joined ≡ place_of h s.left
  pub joined_held : HeldAs w w₂ lws h joined
  pub above_held : PageHeld w₂ pws h (page_now s joined key')
  -- the tree
  pub part : Part s.rs (suc h) s.lo s.hi (page_now s joined key')
  pub same_regions_lem : regions h joined ≡ regions h s.left ++ regions h s.right
  pub same_links : (us vs : List Leaf) → T (linked (us ++ ((leaves h s.left ++ leaves h s.right) ++ vs))) → T (linked (us ++ (leaves h joined ++ vs)))
  pub below_pages : pages_below h joined ≡ pages_below h s.left ++ pages_below h s.right
  pub below_records : records_below h joined ≡ records_below h s.left ++ records_below h s.right
  pub own_records_lem : (x : ℕ) → count x (own_records h joined) + count x (next_places (rekeyed s.post key')) + count x freed
      ≡ count x (own_records h s.left) + count x s.key.places + count x (own_records h s.right) + count x (next_places s.post)
  pub roomy : Roomy h joined
  pub size_joined : size h joined ≡ size h s.left + moved h + size h s.right
  pub kids_filled : KidsFilled h s.left → KidsFilled h s.right → KidsFilled h joined

used_mark : (w w' : List ℕ) (x : ℕ) → mark_of (page_of w' x) ≡ mark_of (page_of w x) → page_used w' x ≡ page_used w x
unfolding page_used
used_mark w w' x e = ap (λ m. not (eqb m 0)) e

-- PLACES OF A PAIR, by counts
module _ {w : List ℕ} {h q j : ℕ} (s : PairAt w h q j) where
  pub pair_pages : (x : ℕ) → count x (page_places (suc h) (page_then s) ++ s.o.pages)
      ≡ count x (q ∷ []) + count x (before_kids list_pages h s.pre) + count x (place_of h s.left ∷ []) + count x (pages_below h s.left) + count x (place_of h s.right ∷ []) + count x (pages_below h s.right)
      + count x (after_kids list_pages h s.post) + count x s.o.pages
  pair_pages x = omega (arith, count_append x (page_places (suc h) (page_then s)) s.o.pages, pair_counts h q s.pre s.post x s.left s.right s.key)

  pub pair_listing : (x : ℕ) → count x (record_places (suc h) (page_then s) ++ s.o.records)
      ≡ count x (before_kids list_records h s.pre) + count x (own_records h s.left) + count x (records_below h s.left) + count x s.key.places + count x (own_records h s.right) + count x (records_below h s.right)
      + count x (next_places s.post) + count x (rest_records h s.post) + count x s.o.records
  pair_listing x =
      omega (arith, count_append x (record_places (suc h) (page_then s)) s.o.records, pair_records h q x s.pre s.post s.left s.right s.key, records_parts x h s.left, records_parts x h s.right)

  -- the three pages are three
  pub record Three : Type 0 where
    pub above_low : 1 ≤ q
    pub above_high : q ≤ 160
    pub left_low : 1 ≤ place_of h s.left
    pub left_high : place_of h s.left ≤ 160
    pub right_low : 1 ≤ place_of h s.right
    pub right_high : place_of h s.right ≤ 160
    pub above_left : place_of h s.left ≢ q
    pub above_right : q ≢ place_of h s.right
    pub left_right : place_of h s.left ≢ place_of h s.right

  pub three : Three
  three =
      let f = s.stands.pages in
      let p = place_of h s.left in
      let r = place_of h s.right in
      let a = f.range q (omega (arith, pair_pages q, count_one q q refl)) in
      let b = f.range p (omega (arith, pair_pages p, count_one p p refl)) in
      let c = f.range r (omega (arith, pair_pages r, count_one r r refl)) in
      record {
        above_low = a.0;
        above_high = a.1;
        left_low = b.0;
        left_high = b.1;
        right_low = c.0;
        right_high = c.1;
        above_left = λ z. omega (arith, pair_pages p, count_one p p refl, count_one p q z, place_once f p);
        above_right = λ z. omega (arith, pair_pages q, count_one q q refl, count_one q r z, place_once f q);
        left_right = λ z. omega (arith, pair_pages p, count_one p p refl, count_one p r z, place_once f p);
      }

module _ {w w₂ w₅ : List ℕ} {h q j : ℕ} {s : PairAt w h q j} {lws pws : List ℕ}
    (m : Made w w₂ h q j s lws pws) (t : Stored w₂ w₅ (place_of h s.left) lws q pws (place_of h s.right)) where
  abbrev p : ℕ
  p = place_of h s.left

  abbrev r : ℕ
  r = place_of h s.right

  st : Stands w s.rs (suc h) s.lo s.hi (page_then s) s.o
  st = s.stands

  -- PAGES
  new_pages : (x : ℕ) → count x (page_places (suc h) (page_now s m.joined m.key') ++ s.o.pages) + count x (r ∷ []) ≡ count x (page_places (suc h) (page_then s) ++ s.o.pages)
  new_pages x =
      omega (
        arith,
        pair_pages s x,
        count_append x (page_places (suc h) (page_now s m.joined m.key')) s.o.pages,
        page_counts h q s.pre (rekeyed s.post m.key') x m.joined,
        ap (count x) (after_rekeyed list_pages pages_keyless h s.post m.key'),
        ap (λ z. count x (z ∷ [])) m.joined_place,
        count_append x (pages_below h s.left) (pages_below h s.right),
        ap (count x) m.below_pages,
      )

  -- every page but the three
  page_stays : (x : ℕ) → 0 < count x (before_kids list_pages h s.pre) + count x (pages_below h s.left) + count x (pages_below h s.right) + count x (after_kids list_pages h s.post) + count x s.o.pages → SamePage w w₅ x
  page_stays x g =
      let e = pair_pages s x in
      let once = place_once st.pages x in
      let range = st.pages.range x (omega arith) in
      t.pages x (λ z. omega (arith, count_one x p z)) (λ z. omega (arith, count_one x q z)) (λ z. omega (arith, count_one x r z)) ∙ m.touched.pages x range.1

  page_uses : (x : ℕ) → 1 ≤ x → x ≤ 160 → cond (page_used w₅ x) 1 0 + count x (r ∷ []) ≡ cond (page_used w x) 1 0
  page_uses x a b =
      elim (ℕ_discrete x r) [
        | yes e ↦ rw e (rw (t.free, counted_used st.pages r (omega (arith, pair_pages s r, count_one r r refl))) (omega (arith, count_one r r refl)))
        | no n ↦ (let z = count_not x r n in omega (arith, ap one (others n)))
      ]
    where
      others : x ≢ r → page_used w₅ x ≡ page_used w x
      others n =
          elim (ℕ_discrete x p) [
            | yes e ↦ rw e (used_mark w w₅ p (ap mark_of t.joined_is ∙ m.joined_mark))
            | no k ↦ elim (ℕ_discrete x q) [
              | yes e ↦ rw e (used_mark w w₅ q (ap mark_of t.above_is ∙ m.above_mark))
              | no l ↦ page_used_same w w₅ x (t.pages x k l n ∙ m.touched.pages x b)
            ]
          ]

  -- RECORDS
  new_records : (x : ℕ) → count x (record_places (suc h) (page_now s m.joined m.key') ++ s.o.records) + count x m.freed ≡ count x (record_places (suc h) (page_then s) ++ s.o.records)
  new_records x =
      omega (
        arith,
        pair_listing s x,
        count_append x (record_places (suc h) (page_now s m.joined m.key')) s.o.records,
        joined_records h q x s.pre s.post m.joined m.key',
        records_parts x h m.joined,
        m.own_records_lem x,
        count_append x (records_below h s.left) (records_below h s.right),
        ap (count x) m.below_records,
      )

  -- every record but those of the key that goes
  record_stays : (x : ℕ) → 0 < count x (before_kids list_records h s.pre) + count x (records_below h s.left) + count x (records_below h s.right) + count x (rest_records h s.post) + count x s.o.records → SameRecord w w₅ x
  record_stays x g =
      let e = pair_listing s x in
      let once = place_once st.records x in
      let range = st.records.range x (omega arith) in
      t.records x ∙ m.touched.records x range.0 (omega arith)

  record_uses : (x : ℕ) → 1 ≤ x → x ≤ 500 → cond (record_used w₅ x) 1 0 + count x m.freed ≡ cond (record_used w x) 1 0
  record_uses x a b = omega (arith, ap one (record_used_same w₂ w₅ x (t.records x)), m.uses.counts x a b, count_nil x)

  -- HELD
  pages_in_lem : (ps : List ℕ) → ((x : ℕ) → count x ps ≤ count x (before_kids list_pages h s.pre) + count x (pages_below h s.left) + count x (pages_below h s.right) + count x (after_kids list_pages h s.post) + count x s.o.pages) → All (SamePage w w₅) ps
  pages_in_lem ps f = all_counted (SamePage w w₅) ps (λ x g. page_stays x (omega (arith, f x)))

  records_in_lem : (ps : List ℕ) → ((x : ℕ) → count x ps ≤ count x (before_kids list_records h s.pre) + count x (records_below h s.left) + count x (records_below h s.right) + count x (rest_records h s.post) + count x s.o.records) → All (SameRecord w w₅) ps
  records_in_lem ps f = all_counted (SameRecord w w₅) ps (λ x g. record_stays x (omega (arith, f x)))

  joined_there : Held w₅ h m.joined
  joined_there =
      held_stored w w₂ w₅ lws h m.joined (ap (page_of w₅) m.joined_place ∙ t.joined_is) t.records
      (pages_in_lem (pages_below h m.joined) (λ x. omega (arith, count_append x (pages_below h s.left) (pages_below h s.right), ap (count x) m.below_pages)))
      (records_in_lem (records_below h m.joined) (λ x. omega (arith, count_append x (records_below h s.left) (records_below h s.right), ap (count x) m.below_records)))
      m.joined_held

  held_now : Held w₅ (suc h) (page_now s m.joined m.key')
  held_now = (
    subst (λ ws. PageHeld w₅ ws h (page_now s m.joined m.key')) (sym t.above_is) (words_stay w₂ w₅ pws h (page_now s m.joined m.key') t.records m.above_held),
    held_joined w w₅ h s.pre s.post s.left s.right m.joined s.key m.key'
        (pages_in_lem (before_kids list_pages h s.pre) (λ x. omega arith)) (pages_in_lem (after_kids list_pages h s.post) (λ x. omega arith))
        (records_in_lem (before_kids list_records h s.pre) (λ x. omega arith)) (records_in_lem (rest_records h s.post) (λ x. omega arith))
        st.held.1 joined_there,
  )

  same_now : regions (suc h) (page_now s m.joined m.key') ≡ regions (suc h) (page_then s)
  same_now =
      joined_listed list_regions regions_keyless h q s.pre s.post m.joined m.key'
      ∙ ap (λ (z : List Region). before_kids list_regions h s.pre ++ (z ++ after_kids list_regions h s.post)) m.same_regions_lem
      ∙ sym (pair_listed list_regions regions_keyless h q s.pre s.post s.left s.right s.key)

  links_now : T (linked (s.o.before ++ (leaves (suc h) (page_now s m.joined m.key') ++ s.o.after)))
  links_now =
      let b = before_kids list_leaves h s.pre in
      let d = after_kids list_leaves h s.post in
      subst (λ l. T (linked l))
      (around_child s.o.before b (leaves h m.joined) d s.o.after
      ∙ ap (λ l. s.o.before ++ (l ++ s.o.after)) (sym (joined_listed list_leaves leaves_keyless h q s.pre s.post m.joined m.key')))
      (m.same_links (s.o.before ++ b) (d ++ s.o.after)
      (subst (λ l. T (linked l))
      (ap (λ l. s.o.before ++ (l ++ s.o.after)) (pair_listed list_leaves leaves_keyless h q s.pre s.post s.left s.right s.key)
      ∙ sym (around_child s.o.before b (leaves h s.left ++ leaves h s.right) d s.o.after)) st.links))

  one_less : suc (length (page_places (suc h) (page_now s m.joined m.key'))) ≡ length (page_places (suc h) (page_then s))
  one_less =
      omega (
        arith,
        pair_number h q s.pre s.post s.left s.right s.key,
        page_number h q s.pre (rekeyed s.post m.key') m.joined,
        ap length (after_rekeyed list_pages pages_keyless h s.post m.key'),
        length-append (pages_below h s.left) (pages_below h s.right),
        ap length m.below_pages,
      )

  room_now : length (fill_kids s.pre (rekeyed s.post m.key') m.joined) ≤ 9
  room_now = fewer s.post st.roomy.0
    where
      fewer : (post : Post (Tree h)) → length (fill_kids (s.pre ++ (s.left, s.key) ∷ []) post s.right) ≤ 9 → length (fill_kids s.pre (rekeyed post m.key') m.joined) ≤ 9
      fewer (at_key k cs last) g = omega (arith, length-append (s.pre ++ (s.left, s.key) ∷ []) ((s.right, k) ∷ cs), length-append s.pre ((s.left, s.key) ∷ []), length-append s.pre ((m.joined, m.key') ∷ cs))
      fewer at_end g = omega (arith, length-append s.pre ((s.left, s.key) ∷ []))

  pub assemble : Merged w w₅ h q j s
  assemble =
      record {
        joined = m.joined;
        key' = m.key';
        next_same = m.next_same;
        stands = record {
          long = t.long ∙ m.touched.long ∙ st.long;
          held = held_now;
          roomy = (room_now, every_joined (Roomy h) s.pre s.post s.left s.right m.joined s.key m.key' st.roomy.1 m.roomy);
          part = m.part;
          near = subst (Here s.rs s.lo s.hi) (sym same_now) st.near;
          pairs = subst (Pairs Over) (sym same_now) st.pairs;
          well = subst (All (Fits top)) (sym same_now) st.well;
          links = links_now;
          pages = places_less st.pages (page_used w₅) (r ∷ []) _ page_uses new_pages;
          records = places_less st.records (record_used w₅) m.freed _ record_uses new_records;
        };
        same = same_now;
        spares = record {
          long = t.long ∙ m.touched.long;
          root = t.root ∙ m.touched.root;
          height = t.height ∙ m.touched.height;
          shares = t.shares ∙ m.touched.shares;
          pages = λ x g. page_stays x (omega arith);
          records = λ x g. record_stays x (omega arith);
        };
        size_joined = m.size_joined;
        kids_filled = m.kids_filled;
        one_page = one_less;
      }
