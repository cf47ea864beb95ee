-- A region comes into a key's list: in front, or into its place by start.
-- Assumes nothing.
use Prim.Native.Nat.{ℕ, ◌+◌, ◌≤◌, ◌<◌}
use mathlib.Core.Path.{◌≡◌, refl, sym, ap, ap₂, ◌∙◌, subst}
use mathlib.Core.Logic.{◌≢◌}
use mathlib.Core.Bool.{false}
use mathlib.Core.List.{List, [], ◌∷◌, ◌++◌, map}
use lib.ListN.{length, take-append-drop}
use native.Mathlib.Omega.{arith}
use native.Mathlib.Decide.{ℕ_discrete}
use Rattle.words.specs.Lists.{All, count, take_while, last_or}
use Rattle.words.proofs.Listed.{all_right, all_mono, map_append}
use Rattle.words.proofs.Counted.{count_append, count_same, count_other, count_more, all_off}
use Rattle.regions.specs.declared.Region.{Region}
use Rattle.xrtree.specs.Tree.{Key}
use Rattle.xrtree.specs.Moves.{put}
use Rattle.pages.specs.Layout.{record_of, record_used, region_in}
use Rattle.pages.specs.declared.KeyWords.{KeyWords}
use Rattle.image.specs.Read.{record_region}
use Rattle.holding.specs.Held.{Chain, KeyHeld}
use Rattle.holding.specs.Held.Chain.{link}
use Rattle.holding.proofs.Chains.{chain_frame, regions_frame, chain_range}
use Rattle.holding.proofs.Frames.{SameRecord}
use Rattle.store.specs.Store.{put_record}
use Rattle.store.proofs.Frames.{put_record_long, put_record_other, put_record_used, put_record_used_other, put_record_region, put_record_next}
use Rattle.store.proofs.Places.{counted_has}
use Rattle.records.specs.Touched.{Touched, Uses, AllUsed}
use Rattle.records.specs.Ways.{before, LastOf, behind, linked_words, linked_head, key_from}
use Rattle.records.specs.Kept.{Came, pushed_key, front_places, back_places, entered_key}
use Rattle.records.proofs.Chains.{chain_once, behind_chain, last_else}
use Rattle.records.proofs.Marks.{none_in, touched_in, touched_then, touched_put, uses_same, uses_then, uses_taken, free_off}
use Rattle.records.proofs.Splices.{Linked, linked, linked_list, splice, renewed_held, Cut, cut}

-- the last place of a beginning stands in no list that is apart from it
last_in : (x : ℕ) (xs : List ℕ) → 0 < count (last_or x xs) (x ∷ xs)
unfolding last_or
last_in x [] = omega (arith, count_same x [])
last_in x (y ∷ xs) = omega (arith, last_in y xs, count_more (last_or y xs) x (y ∷ xs))

pub last_apart : (xs zs : List ℕ) → ((x : ℕ) → count x xs + count x zs ≤ 1) → All (λ z. 1 ≤ z) zs → count (last_or 0 xs) zs ≡ 0
unfolding last_or
last_apart [] zs f a =
    elim (ℕ_discrete (count 0 zs) 0) [
      | yes e ↦ e
      | no n ↦ absurd (omega (arith, counted_has (λ z. 1 ≤ z) 0 zs a (omega arith)))
    ]
last_apart (x ∷ xs) zs f a = omega (arith, f (last_or x xs), last_in x xs)

-- a record that only the last place of a beginning names
pub touched_last : {w w' : List ℕ} {p : ℕ} → Touched w w' (p ∷ []) → (xs ys : List ℕ) → p ≡ last_or 0 xs → Touched w w' (xs ++ ys)
touched_last {p = p} t xs ys e =
    touched_in t (xs ++ ys)
    (λ x l z.
    let d = last_else x xs l (omega (arith, count_append x xs ys)) in
    count_other x p [] (λ q. d (sym (q ∙ e))) ∙ none_in x)

pub map_same : {B : Type 0} (f g : ℕ → B) (qs : List ℕ) → All (λ q. f q ≡ g q) qs → map f qs ≡ map g qs
map_same f g [] a = refl
map_same f g (q ∷ qs) a = ap₂ ◌∷◌ a.0 (map_same f g qs a.1)

pub low_of : {w : List ℕ} {h : ℕ} {ps : List ℕ} → Chain w h ps → All (λ p. 1 ≤ p) ps
low_of {ps = ps} c = all_mono (λ p (m : (1 ≤ p) × (p ≤ 500)). m.0) ps (chain_range c)

-- IN FRONT
pub pushed_at : (w : List ℕ) (k : KeyWords) (r : Region) (q : ℕ) (key : Key) → length w ≡ 12288 → (1 ≤ q) × (q ≤ 500) × (record_used w q ≡ false) → 1 ≤ r.end
    → KeyHeld w k key → AllUsed w key.places → Came w (put_record w q r k.head) [] (pushed_key key r) (key_from (put_record w q r k.head) k.key q)
pushed_at w k r q key l f e h a =
    let n = k.head in
    let w' = put_record w q r n in
    let z = free_off w q key.places f.2 a in
    let same : All (SameRecord w w') key.places = all_off (SameRecord w w') q key.places z (λ y d. put_record_other w q r n y (λ e. d (sym e))) in
    record {
      place = q;
      low = f.0;
      high = f.1;
      touched = touched_put w q r n;
      uses = uses_taken f.2 (put_record_used w q r n l f.1 (λ z. omega arith)) (put_record_used_other w q r n);
      held =
          renewed_held k.key key.key (r ∷ key.list) h.key_is
          (link {ps = key.places} f.0 f.1 (subst (λ x. Chain w' x key.places) (sym (put_record_next w q r n l f.1)) (chain_frame h.chain same)))
          (ap₂ ◌∷◌ (sym (put_record_region w q r n l f.1)) (h.list_is ∙ sym (regions_frame w w' key.places same)));
    }

pub pushed_law : (w w' : List ℕ) (k : KeyWords) (r : Region) (q : ℕ) (t : KeyWords) → length w ≡ 12288 → (1 ≤ q) × (q ≤ 500) × (record_used w q ≡ false) → 1 ≤ r.end
    → w' ≡ put_record w q r k.head → t ≡ key_from w' k.key q → (key : Key) → KeyHeld w k key → AllUsed w key.places → Came w w' [] (pushed_key key r) t
pushed_law w w' k r q t l f e i j key h a =
    subst (λ x. Came w w' [] (pushed_key key r) x) (sym j)
    (subst (λ x. Came w x [] (pushed_key key r) (key_from x k.key q)) (sym i) (pushed_at w k r q key l f e h a))

-- INTO ITS PLACE, between the two parts of the list
pub region_of_lem : (w w' : List ℕ) (q : ℕ) → record_of w' q ≡ record_of w q → record_region w' q ≡ record_region w q
unfolding record_region
region_of_lem w w' q e = ap (λ (x : List ℕ). region_in x 0) e

module _ (w : List ℕ) (h p q : ℕ) (r : Region) (xs ys : List ℕ) (l : List Region) (long : length w ≡ 12288) (small : p ≤ 500)
    (fresh : (1 ≤ q) × (q ≤ 500) × (record_used w q ≡ false)) (c : Cut (before r.start) w h p xs ys l) (off : count q (xs ++ ys) ≡ 0) where
  abbrev mid : List ℕ
  mid = put_record w q r (behind w h p)

  abbrev after : List ℕ
  after = linked_words mid p q

  other : (y : ℕ) → y ≢ q → record_of mid y ≡ record_of w y
  other y d = put_record_other w q r (behind w h p) y (λ e. d (sym e))

  goes_on : Linked mid after p q
  goes_on = linked mid p q (put_record_long w q r (behind w h p) ∙ long) small

  same : All (SameRecord w mid) (xs ++ ys)
  same = all_off (SameRecord w mid) q (xs ++ ys) off other

  back_mid : Chain mid (behind w h p) ys
  back_mid =
      chain_frame (subst (λ z. Chain w (behind w h z) ys) (sym c.last) (behind_chain w h xs ys c.chain)) (all_right (SameRecord w mid) xs ys same)

  new_mid : Chain mid q (q ∷ ys)
  new_mid =
      link {ps = ys} fresh.0 fresh.1 (subst (λ z. Chain mid z ys) (sym (put_record_next w q r (behind w h p) long fresh.1)) back_mid)

  apart : (x : ℕ) → count x xs + count x (q ∷ ys) ≤ 1
  apart x =
      elim (ℕ_discrete x q) [
        | yes e ↦ rw e (omega (arith, count_append q xs ys, count_same q ys))
        | no n ↦ omega (arith, count_append x xs ys, count_other x q ys n, chain_once c.chain x)
      ]

  entered_chain : Chain after (linked_head h p q) (xs ++ q ∷ ys)
  entered_chain =
      splice goes_on h xs ys (q ∷ ys) c.last (chain_frame c.chain same)
      (linked_list goes_on (ap (λ z. count z (q ∷ ys)) c.last ∙ last_apart xs (q ∷ ys) apart (low_of new_mid)) new_mid)

  regions_after : (zs : List ℕ) → count q zs ≡ 0 → map (record_region after) zs ≡ map (record_region w) zs
  regions_after zs z =
      map_same (record_region after) (record_region w) zs
      (all_off (λ y. record_region after y ≡ record_region w y) q zs z (λ y d. goes_on.region y ∙ region_of_lem w mid y (other y d)))

  entered_list : put r l ≡ map (record_region after) (xs ++ q ∷ ys)
  unfolding put
  entered_list =
      let f = regions_after xs (omega (arith, count_append q xs ys)) ∙ c.front in
      let g = regions_after ys (omega (arith, count_append q xs ys)) ∙ c.back in
      let m = goes_on.region q ∙ put_record_region w q r (behind w h p) long fresh.1 in
      sym (map_append (record_region after) xs (q ∷ ys) ∙ ap₂ ◌++◌ f (ap₂ ◌∷◌ m g))

  entered_touched : Touched w after (q ∷ (xs ++ ys))
  entered_touched = touched_then (touched_put w q r (behind w h p)) (touched_last goes_on.touched xs ys c.last)

  entered_uses : 1 ≤ r.end → Uses w after (q ∷ []) []
  entered_uses e =
      uses_then (uses_taken fresh.2 (put_record_used w q r (behind w h p) long fresh.1 (λ z. omega arith)) (put_record_used_other w q r (behind w h p))) (uses_same goes_on.used)

pub entered_at : (w : List ℕ) (k : KeyWords) (r : Region) (p q : ℕ) (key : Key) → length w ≡ 12288 → LastOf (before r.start) w k.head p → (1 ≤ q) × (q ≤ 500) × (record_used w q ≡ false) → 1 ≤ r.end
    → KeyHeld w k key → AllUsed w key.places
    → Came w (linked_words (put_record w q r (behind w k.head p)) p q) key.places (entered_key key r) (key_from (linked_words (put_record w q r (behind w k.head p)) p q) k.key (linked_head k.head p q))
entered_at w k r p q key l o f e h a =
    let xs = front_places r.start key in
    let ys = back_places r.start key in
    let c = cut k key p o h in
    let j : xs ++ ys ≡ key.places = take-append-drop (length (take_while (before r.start) key.list)) key.places in
    let z : count q (xs ++ ys) ≡ 0 = ap (count q) j ∙ free_off w q key.places f.2 a in
    let w' = linked_words (put_record w q r (behind w k.head p)) p q in
    record {
      place = q;
      low = f.0;
      high = f.1;
      touched = subst (λ zs. Touched w w' (q ∷ zs)) j (entered_touched w k.head p q r xs ys key.list l o.high f c z);
      uses = entered_uses w k.head p q r xs ys key.list l o.high f c z e;
      held =
          renewed_held k.key key.key (put r key.list) h.key_is (entered_chain w k.head p q r xs ys key.list l o.high f c z)
          (entered_list w k.head p q r xs ys key.list l o.high f c z);
    }

pub entered_law : (w w₁ w₂ : List ℕ) (k : KeyWords) (r : Region) (p q n d : ℕ) (t : KeyWords) → length w ≡ 12288 → LastOf (before r.start) w k.head p → (1 ≤ q) × (q ≤ 500) × (record_used w q ≡ false) → 1 ≤ r.end
    → n ≡ behind w k.head p → w₁ ≡ put_record w q r n → d ≡ linked_head k.head p q → w₂ ≡ linked_words w₁ p q → t ≡ key_from w₂ k.key d
    → (key : Key) → KeyHeld w k key → AllUsed w key.places → Came w w₂ key.places (entered_key key r) t
entered_law w w₁ w₂ k r p q n d t l o f e en e₁ ed e₂ et key h a =
    let g : w₂ ≡ linked_words (put_record w q r (behind w k.head p)) p q = e₂ ∙ ap (λ x. linked_words x p q) (e₁ ∙ ap (put_record w q r) en) in
    subst (λ x. Came w w₂ key.places (entered_key key r) x) (sym (et ∙ ap (key_from w₂ k.key) ed))
    (subst (λ x. Came w x key.places (entered_key key r) (key_from x k.key (linked_head k.head p q))) (sym g) (entered_at w k r p q key l o f e h a))
