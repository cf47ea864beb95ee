-- Two inner pages as one: what `inners` asks its callees for, and what it leaves.
-- Assumes nothing.
use Prim.Native.Nat.{ℕ, suc, ◌+◌, ◌≤◌}
use mathlib.Core.Path.{◌≡◌, refl, sym, ap, ap₂, ◌∙◌, subst}
use mathlib.Core.Bool.{Bool}
use mathlib.Core.List.{List, [], ◌∷◌, ◌++◌, append_assoc}
use lib.Dec.{T}
use lib.ListN.{length, length-append}
use native.Mathlib.Omega.{arith}
use Rattle.words.specs.Lists.{count, take_while, drop_while}
use Rattle.words.proofs.Tests.{and_left, and_right, and_both}
use Rattle.words.proofs.Counted.{count_append}
use Rattle.regions.specs.Positions.{stabs}
use Rattle.regions.specs.declared.Region.{Region}
use Rattle.pages.specs.Layout.{page_of, fill_of, mark_of, next_of, child_in}
use Rattle.xrtree.specs.Tree.{Key, Leaf, Inner, Tree, weave, listed, list_regions, list_leaves, list_pages, list_records, regions, leaves, all_kids}
use Rattle.xrtree.specs.Rules.{linked, filled_below}
use Rattle.xrtree.specs.Claims.{page_at}
use Rattle.xrtree.specs.Moves.{key_with, moved_places, kept_places, sunk, left_over, over_places}
use Rattle.xrtree.specs.Local.{Part}
use Rattle.store.specs.Store.{put_page, free_page}
use Rattle.newpages.specs.Pages.{keys_of, children_of, IsInner}
use Rattle.holding.specs.Held.{KeysHeld, kid_places, EveryKid, place_of, PageHeld, Held, key_records}
use Rattle.records.specs.Touched.{Touched}
use Rattle.records.proofs.Marks.{touched_in, touched_then, uses_then}
use Rattle.standing.specs.Stands.{Roomy}
use Rattle.standing.proofs.Counting.{place_once}
use Rattle.steps.specs.Steps.{PairAt, Merged}
use Rattle.handing.specs.declared.Handed.{Handed}
use Rattle.handing.specs.Moves.{next_took, rest_list, rest_places, Leaving, HandedOn, Sinking, Sank}
use Rattle.handing.proofs.Keys.{keys_join, keys_touched, records_append}
use Rattle.handing.proofs.Sinking.{count_cut}
use Rattle.merge.specs.Moves.{InnersFit}
use Rattle.merge.proofs.Stays.{every_pair}
use Rattle.merge.proofs.Assemble.{page_then, page_now, Made, pair_listing, three, assemble}
use Rattle.merge.proofs.Parts.{inner_part}
use Rattle.merge.proofs.Pairs.{stored, page_facts, part_back, leaving_pair, rest_fewer, took_same, took_records, above_made, left_is, right_is}

-- KEYS THAT TOOK PARTS OF A LIST: the children are the same, the records in all
module _ {A : Type 0} where
  sunk_long : (ls : List (A × Key)) (l : List Region) (ps : List ℕ) → length (sunk ls l ps) ≡ length ls
  unfolding sunk
  sunk_long [] l ps = refl
  sunk_long (c ∷ ls) l ps = ap suc (sunk_long ls (drop_while (stabs c.1.key) l) (kept_places c.1.key l ps))

  sunk_records : (x : ℕ) (ls : List (A × Key)) (l : List Region) (ps : List ℕ) → count x (key_records (sunk ls l ps)) + count x (over_places ls l ps) ≡ count x (key_records ls) + count x ps
  unfolding sunk over_places count
  sunk_records x [] l ps = refl
  sunk_records x (c ∷ ls) l ps =
      let k = c.1.key in
      let m = moved_places k l ps in
      let r = kept_places k l ps in
      omega (
        arith,
        sunk_records x ls (drop_while (stabs k) l) r,
        count_cut x (length (take_while (stabs k) l)) ps,
        count_append x (m ++ c.1.places) (key_records (sunk ls (drop_while (stabs k) l) r)),
        count_append x m c.1.places,
        count_append x c.1.places (key_records ls),
      )

  sunk_places : (place : A → ℕ) (ls : List (A × Key)) (l : List Region) (ps : List ℕ) (m : A) (k : Key) (bs : List (A × Key)) (z : A)
      → kid_places place (sunk ls l ps ++ (m, k) ∷ bs) z ≡ kid_places place ls m ++ kid_places place bs z
  unfolding sunk
  sunk_places place [] l ps m k bs z = refl
  sunk_places place (c ∷ ls) l ps m k bs z = ap (place c.0 ∷◌) (sunk_places place ls (drop_while (stabs c.1.key) l) (kept_places c.1.key l ps) m k bs z)

  sunk_every : (P : A → Type 0) (ls : List (A × Key)) (l : List Region) (ps : List ℕ) (m : A) (k : Key) (bs : List (A × Key)) (z : A)
      → EveryKid P ls m → EveryKid P bs z → EveryKid P (sunk ls l ps ++ (m, k) ∷ bs) z
  unfolding sunk
  sunk_every P [] l ps m k bs z f g = (f, g)
  sunk_every P (c ∷ ls) l ps m k bs z f g = (f.0, sunk_every P ls (drop_while (stabs c.1.key) l) (kept_places c.1.key l ps) m k bs z f.1 g)

  sunk_all : (p : A → Bool) (ls : List (A × Key)) (l : List Region) (ps : List ℕ) (m : A) (k : Key) (bs : List (A × Key)) (z : A)
      → T (all_kids p ls m) → T (all_kids p bs z) → T (all_kids p (sunk ls l ps ++ (m, k) ∷ bs) z)
  unfolding sunk all_kids
  sunk_all p [] l ps m k bs z f g = and_both (p m) (all_kids p bs z) f g
  sunk_all p (c ∷ ls) l ps m k bs z f g =
      and_both (p c.0) _ (and_left (p c.0) _ f) (sunk_all p ls (drop_while (stabs c.1.key) l) (kept_places c.1.key l ps) m k bs z (and_right (p c.0) _ f) g)

  -- a listing of the children alone
  sunk_weave : {B : Type 0} (f : A → List B) (ls : List (A × Key)) (l : List Region) (ps : List ℕ) (m : A) (k : Key) (bs : List (A × Key)) (z : A)
      → weave f (λ (k : Key). []) (sunk ls l ps ++ (m, k) ∷ bs) z ≡ weave f (λ (k : Key). []) ls m ++ weave f (λ (k : Key). []) bs z
  unfolding sunk weave
  sunk_weave f [] l ps m k bs z = refl
  sunk_weave {B} f (c ∷ ls) l ps m k bs z =
      ap (λ (y : List B). f c.0 ++ y) (sunk_weave f ls (drop_while (stabs c.1.key) l) (kept_places c.1.key l ps) m k bs z)
      ∙ sym (append_assoc (f c.0) (weave f (λ (k : Key). []) ls m) (weave f (λ (k : Key). []) bs z))

module _ {w : List ℕ} {h q j : ℕ} (s : PairAt w (suc h) q j) where
  -- what is left of the key's list comes down with it
  abbrev rest_now : List Region
  rest_now = rest_list s.post s.key

  abbrev places_now : List ℕ
  places_now = rest_places s.post s.key

  abbrev key_now : Key
  key_now = key_with s.key.key (over_places s.left.kids rest_now places_now) (left_over s.left.kids rest_now)

  abbrev pub inner_now : Inner (Tree h)
  inner_now = page_at s.left.place (sunk s.left.kids rest_now places_now ++ (s.left.last, key_now) ∷ s.right.kids) s.right.last

  pub inners_held : Held w (suc h) s.left × Held w (suc h) s.right
  inners_held = every_pair (Held w (suc h)) s.pre s.post s.left s.right s.key s.stands.held.1

  inners_roomy : Roomy (suc h) s.left × Roomy (suc h) s.right
  inners_roomy = every_pair (Roomy (suc h)) s.pre s.post s.left s.right s.key s.stands.roomy.1

  pub inner_left : fill_of (page_of w s.left.place) ≡ length s.left.kids
  inner_left = inners_held.0.0.fill_is

  pub inner_right : fill_of (page_of w s.right.place) ≡ length s.right.kids
  inner_right = inners_held.1.0.fill_is

  pub inner_left_room : fill_of (page_of w s.left.place) ≤ 9
  inner_left_room = omega (arith, inner_left, inners_roomy.0.0)

  pub records_apart : (x : ℕ) → count x places_now + count x (key_records s.left.kids) + count x (key_records s.right.kids) ≤ 1
  records_apart x = omega (arith, pair_listing s x, place_once s.stands.records x, rest_fewer x s.post s.key)

  -- what `sink` asks for
  abbrev pub sinking_pair : {w₁ : List ℕ} {r : Handed} → HandedOn w w₁ (page_of w q) j (leaving_pair s) r → Sinking w₁ (page_of w s.left.place) r.rest
  sinking_pair {w₁} {r} m =
      record {
        h = h;
        ls = s.left.kids;
        n = s.key.key;
        ps = places_now;
        l = rest_now;
        keys_held = keys_touched m.touched (keys_of (page_of w s.left.place)) s.left.kids (λ x. omega (arith, pair_listing s x, place_once s.stands.records x)) inners_held.0.0.keys_held;
        key_held = m.rest_held;
        once = λ x. omega (arith, records_apart x);
      }

  regions_now : regions (suc h) inner_now ≡ regions (suc h) s.left ++ regions (suc h) s.right
  unfolding listed
  regions_now = sunk_weave (listed list_regions h) s.left.kids rest_now places_now s.left.last key_now s.right.kids s.right.last

  leaves_now : leaves (suc h) inner_now ≡ leaves (suc h) s.left ++ leaves (suc h) s.right
  unfolding listed
  leaves_now = sunk_weave (listed list_leaves h) s.left.kids rest_now places_now s.left.last key_now s.right.kids s.right.last

  part_now : Part s.rs (suc (suc h)) s.lo s.hi (page_now s inner_now (next_took s.post s.key))
  part_now =
      part_back s inner_now (next_took s.post s.key) regions_now
      (inner_part (regions (suc (suc h)) (page_then s)) s.stands.pairs h s.lo s.hi q s.left.place s.left.place s.right.place s.pre s.left.kids s.right.kids
      s.left.last s.right.last s.key places_now (over_places s.left.kids rest_now places_now) s.post (page_facts s).part)

  long_now : length inner_now.kids ≡ length s.left.kids + 1 + length s.right.kids
  long_now =
      omega (arith, length-append (sunk s.left.kids rest_now places_now) ((s.left.last, key_now) ∷ s.right.kids), sunk_long s.left.kids rest_now places_now)

  own_now : (x : ℕ) → count x (key_records inner_now.kids) ≡ count x (key_records s.left.kids) + count x places_now + count x (key_records s.right.kids)
  own_now x =
      omega (
        arith,
        records_append x (sunk s.left.kids rest_now places_now) ((s.left.last, key_now) ∷ s.right.kids),
        count_append x key_now.places (key_records s.right.kids),
        sunk_records x s.left.kids rest_now places_now,
      )

  -- THE JOINED PAGE
  page_now_lem : {w₁ w₂ : List ℕ} {r low : Handed} (joined : List ℕ) (m : HandedOn w w₁ (page_of w q) j (leaving_pair s) r) → Sank w₁ w₂ (page_of w s.left.place) r.rest (sinking_pair m) low
      → IsInner joined (mark_of low.page) (suc (fill_of low.page + fill_of (page_of w s.right.place))) (next_of low.page) (keys_of low.page ++ low.rest ∷ keys_of (page_of w s.right.place))
      (children_of low.page ++ children_of (page_of w s.right.place))
      → PageHeld w₂ joined h inner_now
  page_now_lem {w₁} {w₂} {r} {low} joined m k i =
      let ls = sunk s.left.kids rest_now places_now in
      let t : Touched w w₂ s.key.places = touched_in (touched_then m.touched k.touched) s.key.places (λ x a z. omega (arith, count_append x s.key.places places_now, rest_fewer x s.post s.key)) in
      record {
        fill_is = i.fill_is ∙ omega (arith, k.fill_is, inner_left, inner_right, long_now);
        children_are =
            i.children_are ∙ ap₂ ◌++◌ (k.children_are ∙ inners_held.0.0.children_are) inners_held.1.0.children_are
            ∙ sym (sunk_places (place_of h) s.left.kids rest_now places_now s.left.last key_now s.right.kids s.right.last);
        keys_held =
            subst (λ ks. KeysHeld w₂ ks inner_now.kids) (sym i.keys_are)
            (keys_join w₂ (keys_of low.page) (low.rest ∷ keys_of (page_of w s.right.place)) ls ((s.left.last, key_now) ∷ s.right.kids) k.keys_held
            (k.rest_held, keys_touched t (keys_of (page_of w s.right.place)) s.right.kids (λ x. omega (arith, pair_listing s x, place_once s.stands.records x)) inners_held.1.0.keys_held));
      }

  pub inner_made : (w₁ w₂ joined : List ℕ) (r low : Handed) (m : HandedOn w w₁ (page_of w q) j (leaving_pair s) r) → Sank w₁ w₂ (page_of w s.left.place) r.rest (sinking_pair m) low
      → fill_of (page_of w s.left.place) + fill_of (page_of w s.right.place) ≤ 8
      → IsInner joined (mark_of low.page) (suc (fill_of low.page + fill_of (page_of w s.right.place))) (next_of low.page) (keys_of low.page ++ low.rest ∷ keys_of (page_of w s.right.place))
      (children_of low.page ++ children_of (page_of w s.right.place))
      → Made w w₂ (suc h) q j s joined r.page
  unfolding count
  inner_made w₁ w₂ joined r low m k fit i =
      record {
        joined = inner_now;
        key' = next_took s.post s.key;
        next_same = took_same s.post s.key;
        freed = [];
        touched = touched_in (touched_then m.touched k.touched) s.key.places (λ x a z. omega (arith, count_append x s.key.places places_now, rest_fewer x s.post s.key));
        uses = uses_then m.uses k.uses;
        joined_mark = i.mark_is ∙ k.mark_is;
        above_mark = m.mark_is;
        joined_place = refl;
        joined_held = (page_now_lem joined m k i, sunk_every (Held w h) s.left.kids rest_now places_now s.left.last key_now s.right.kids s.right.last inners_held.0.1 inners_held.1.1);
        above_held = above_made s m k.touched inner_now refl;
        part = part_now;
        same_regions_lem = regions_now;
        same_links = λ us vs t. subst (λ (z : List Leaf). T (linked (us ++ (z ++ vs)))) (sym leaves_now) t;
        below_pages = sunk_weave (listed list_pages h) s.left.kids rest_now places_now s.left.last key_now s.right.kids s.right.last;
        below_records = sunk_weave (listed list_records h) s.left.kids rest_now places_now s.left.last key_now s.right.kids s.right.last;
        own_records_lem = λ x. omega (arith, took_records x s.post s.key, own_now x);
        roomy = (omega (arith, long_now, inner_left, inner_right), sunk_every (Roomy h) s.left.kids rest_now places_now s.left.last key_now s.right.kids s.right.last inners_roomy.0.1 inners_roomy.1.1);
        size_joined = long_now;
        kids_filled = λ f g. sunk_all (filled_below h) s.left.kids rest_now places_now s.left.last key_now s.right.kids s.right.last f g;
      }

-- THE CALLEES of `inners`: both pages and the key fit into one
pub inners_fit : {w : List ℕ} {q j : ℕ} → InnersFit w q j → {page a b : List ℕ} {left right : ℕ} → page ≡ page_of w q
    → left ≡ child_in page j → right ≡ child_in page (j + 1) → a ≡ page_of w left → b ≡ page_of w right → fill_of a + fill_of b ≤ 8
inners_fit {w} f e el er ea eb =
    let s = f.pair in
    omega (arith, f.fit, ap fill_of (ea ∙ ap (page_of w) (left_is s e el)), ap fill_of (eb ∙ ap (page_of w) (right_is s e er)), inner_left s, inner_right s)

-- what `sink` asks for, at the page as it was loaded
pub few_left : {w : List ℕ} {h q j : ℕ} (s : PairAt w (suc h) q j) {page a : List ℕ} {left : ℕ} → page ≡ page_of w q → left ≡ child_in page j → a ≡ page_of w left → fill_of a ≤ 9
few_left {w} s e el ea = omega (arith, ap fill_of (ea ∙ ap (page_of w) (left_is s e el)), inner_left_room s)

pub sinking_loaded : {w w₁ : List ℕ} {h q j : ℕ} (s : PairAt w (suc h) q j) {page a : List ℕ} {left : ℕ} {r : Handed} → page ≡ page_of w q → left ≡ child_in page j → a ≡ page_of w left
    → ((s : Leaving w page j) → HandedOn w w₁ page j s r) → Sinking w₁ a r.rest
sinking_loaded {w} {w₁} {j = j} s {r = r} e el ea g =
    subst (λ v. Sinking w₁ v r.rest) (sym (ea ∙ ap (page_of w) (left_is s e el))) (sinking_pair s (subst (λ ws. (s : Leaving w ws j) → HandedOn w w₁ ws j s r) e g (leaving_pair s)))

pub inners_law : (w w₁ w₂ w₅ page a b joined : List ℕ) (q j left right : ℕ) (r low : Handed) → InnersFit w q j
    → page ≡ page_of w q → left ≡ child_in page j → right ≡ child_in page (j + 1) → a ≡ page_of w left → b ≡ page_of w right
    → ((s : Leaving w page j) → HandedOn w w₁ page j s r)
    → ((s : Sinking w₁ a r.rest) → Sank w₁ w₂ a r.rest s low)
    → IsInner joined (mark_of low.page) (suc (fill_of low.page + fill_of b)) (next_of low.page) (keys_of low.page ++ low.rest ∷ keys_of b) (children_of low.page ++ children_of b)
    → length w₂ ≡ 12288 → length joined ≡ 57
    → w₅ ≡ free_page (put_page (put_page w₂ left joined) q r.page) right
    → (h : ℕ) (s : PairAt w (suc h) q j) → Merged w w₅ (suc h) q j s
inners_law w w₁ w₂ w₅ page a b joined q j left right r low f e el er ea eb g k i l n e₅ h s =
    let x = left_is s e el in
    let y = right_is s e er in
    let a' : a ≡ page_of w s.left.place = ea ∙ ap (page_of w) x in
    let b' : b ≡ page_of w s.right.place = eb ∙ ap (page_of w) y in
    let m = subst (λ ws. (s : Leaving w ws j) → HandedOn w w₁ ws j s r) e g (leaving_pair s) in
    let t = three s in
    let made = inner_made s w₁ w₂ joined r low m
    (subst (λ v. (s : Sinking w₁ v r.rest) → Sank w₁ w₂ v r.rest s low) a' k (sinking_pair s m))
    (subst (λ v. fill_of (page_of w s.left.place) + fill_of v ≤ 8) b' (subst (λ v. fill_of v + fill_of b ≤ 8) a' (inners_fit f e el er ea eb)))
    (subst (λ v. IsInner joined (mark_of low.page) (suc (fill_of low.page + fill_of v)) (next_of low.page) (keys_of low.page ++ low.rest ∷ keys_of v) (children_of low.page ++ children_of v)) b' i) in
    assemble made
    (stored w₂ w₅ s.left.place q s.right.place joined r.page l n m.long t.left_low t.left_high t.above_low t.above_high t.right_low t.right_high
    t.above_left t.above_right t.left_right (e₅ ∙ ap₂ (λ p k. free_page (put_page (put_page w₂ p joined) q r.page) k) x y))
