-- The two halves of a save and of a delete: the leaf's words, and the owner's list with its page's words.
-- Assumes nothing.
use Rattle.std.specs.Prelude.{Option, Some}
use Rattle.std.specs.Option.{unwrap_or}
use Prim.Native.Nat.{ℕ, suc, ◌+◌, ◌*◌, ◌-◌, ◌≤◌, ◌<◌}
use mathlib.Core.Path.{◌≡◌, refl, sym, ap, ap₂, ◌∙◌, subst}
use mathlib.Core.Bool.{Bool, true, false, cond}
use mathlib.Core.List.{List, [], ◌∷◌, ◌++◌}
use lib.Dec.{ltb}
use lib.ListN.{length, get_or, take, drop, take-append-drop, length-append}
use lib.Seq.{sets, length-sets, drop-drop}
use native.Mathlib.Omega.{arith}
use native.Mathlib.Decide.{ℕ_discrete}
use Rattle.words.specs.Lists.{count, take_while, drop_while}
use Rattle.words.proofs.Listed.{while_join}
use Rattle.words.proofs.Counted.{count_append, count_same, count_other, one_at_most}
use Rattle.regions.specs.declared.Region.{Region}
use Rattle.pages.specs.Layout.{page_of, mark_of, fill_of, next_of, entry_word, key_word, record_used}
use Rattle.pages.specs.declared.KeyWords.{KeyWords}
use Rattle.xrtree.specs.Tree.{Entry, Key, Leaf, record_places}
use Rattle.xrtree.specs.Claims.{page_at}
use Rattle.xrtree.specs.Moves.{key_with, put, out, own}
use Rattle.image.specs.Read.{entries_from}
use Rattle.image.specs.Decode.{key_words_at}
use Rattle.image.proofs.Listings.{entries_long}
use Rattle.owners.specs.declared.Spot.{Spot}
use Rattle.pagewords.specs.Words.{copied_in, entry_words, key_list}
use Rattle.store.specs.Store.{put_page, put_entry_at, put_key_at, set_fill}
use Rattle.store.proofs.Frames.{put_page_record_used}
use Rattle.store.proofs.Within.{page_long, page_own, move_within, entry_within, fill_within, key_own}
use Rattle.newpages.specs.Pages.{put_in, taken_out, put_for, new_entry, entries_of, spares_of, keys_of, children_of, IsLeaf, IsInner}
use Rattle.newpages.proofs.Runs.{copy_long}
use Rattle.newpages.proofs.Leaves.{leaf_with, leaf_with_long, leaf_with_is}
use Rattle.newpages.proofs.Inners.{set_key_is}
use Rattle.holding.specs.Held.{KeyHeld}
use Rattle.records.specs.Touched.{Touched, in_use, Uses, AllUsed, Ends}
use Rattle.records.specs.Kept.{Came, Went, front_places, back_places, entered_key}
use Rattle.records.proofs.Marks.{held_ends}
use Rattle.standing.specs.Stands.{Roomy}
use Rattle.standing.proofs.Counting.{all_counted}
use Rattle.entries.specs.Ways.{within, leaf_on, at_leaf, renew}
use Rattle.entries.specs.Owners.{spot_of, starts_before, entries_before, put_entry, out_entry, flag_at}
use Rattle.entries.specs.Lies.{Lies, Stepped, LeafReady, LeafStep, OwnerReady, ListStep}
use Rattle.entries.proofs.Holes.{roomy_within}
use Rattle.entries.proofs.Leafs.{way_of}
use Rattle.entries.proofs.Cuts.{take_while_lem, drop_while_lem}
use Rattle.entries.proofs.Leafstep.{leaf_range, leaf_held, leaf_step}
use Rattle.entries.proofs.Putting.{long_put}
use Rattle.entries.proofs.Owning.{Owner, Owns, owner_of}
use Rattle.entries.proofs.Owning.Owns.{none, some}
use Rattle.entries.proofs.Ownstep.{key_words, page_range, key_below, page_fill, page_places_lem, own_step_lem}

-- A LEAF in the words
pub before_most : (ws : List ℕ) (s : ℕ) → entries_before ws s ≤ fill_of ws
unfolding entries_before
before_most ws s =
    let es = entries_from ws 0 (fill_of ws) in
    omega (arith, ap length (while_join (starts_before s) es), length-append (take_while (starts_before s) es) (drop_while (starts_before s) es), entries_long ws 0 (fill_of ws))

module _ (w : List ℕ) (p s : ℕ) (a : LeafReady w p s) where
  abbrev l : Leaf
  l = leaf_on s a.h a.t

  pub ready_range : (1 ≤ p) × (p ≤ 160)
  ready_range = let r = leaf_range (λ es. es) s a.h a.t a.lies.pages in (omega (arith, a.place_is, r.0), omega (arith, a.place_is, r.1))

  pub ready_entries : entries_of (page_of w p) ≡ l.entries
  ready_entries = ap (λ q. entries_of (page_of w q)) a.place_is ∙ (leaf_held (λ es. es) s a.h a.t w a.lies.held).entries_are

  ready_next : next_of (page_of w p) ≡ l.next
  ready_next = ap (λ q. next_of (page_of w q)) a.place_is ∙ (leaf_held (λ es. es) s a.h a.t w a.lies.held).next_is

  pub ready_fill : fill_of (page_of w p) ≡ length l.entries
  ready_fill = sym (entries_long (page_of w p) 0 (fill_of (page_of w p))) ∙ ap length ready_entries

  pub ready_few : fill_of (page_of w p) ≤ 9
  ready_few =
      let v = way_of s a.h a.t in
      subst (λ n. n ≤ 9) (sym ready_fill) (roomy_within v.around l (subst (Roomy a.h) v.was a.lies.roomy)).0

  ready_rank : entries_before (page_of w p) s ≡ length (take_while (starts_before s) l.entries)
  unfolding entries_before
  ready_rank = ap (λ es. length (take_while (starts_before s) es)) ready_entries

  -- stored with other entries
  module _ (g : List Entry → List Entry) (ws : List ℕ) (fill : ℕ) (es : List Entry) (spares : List ℕ) (is : IsLeaf ws (mark_of (page_of w p)) fill (next_of (page_of w p)) es spares)
      (same : es ≡ g l.entries) (fits : length ws ≡ 57) (room : length (g l.entries) ≤ 9) where
    pub leaf_done : LeafStep w (put_page w p ws) (renew g) s a.h a.t
    leaf_done =
        record {
          step = subst (λ q. Stepped w (put_page w q ws) a.h a.t (at_leaf (renew g) s a.h a.t)) (sym a.place_is)
              (leaf_step g s a.h a.t w ws a.lies fits (is.mark_is ∙ ap (λ q. mark_of (page_of w q)) a.place_is)
              (record { entries_are = is.entries_are ∙ same; next_is = is.next_is ∙ ready_next }) room);
          used = λ q. put_page_record_used w p ws fits ready_range.1 q;
        }

put_is : (e : Entry) (es : List Entry) → put_in (length (take_while (starts_before e.region.start) es)) e es ≡ put_entry e es
unfolding put_entry
put_is e es = ap₂ (λ x y. x ++ e ∷ y) (take_while_lem (starts_before e.region.start) es) (drop_while_lem (starts_before e.region.start) es)

out_is : (s : ℕ) (es : List Entry) → taken_out (length (take_while (starts_before s) es)) es ≡ out_entry s es
unfolding out_entry
out_is s es =
    let i = length (take_while (starts_before s) es) in
    let n : i + 1 ≡ suc i = omega arith in
    ap₂ (λ x y. x ++ y) (take_while_lem (starts_before s) es) (ap (λ k. drop k es) (sym n) ∙ sym (drop-drop 1 i es) ∙ ap (drop 1) (drop_while_lem (starts_before s) es))

out_short : (s : ℕ) (es : List Entry) → length (out_entry s es) ≤ length es
unfolding out_entry
out_short s es =
    let Q = starts_before s in
    omega (arith, length-append (take_while Q es) (drop 1 (drop_while Q es)), length-append (take_while Q es) (drop_while Q es), ap length (while_join Q es), less (drop_while Q es))
  where
    less : (xs : List Entry) → length (drop 1 xs) ≤ length xs
    less [] = omega arith
    less (x ∷ xs) = omega arith

-- an entry put in place: the page is stored with it
in_place : (w : List ℕ) (p i : ℕ) (r : Region) (flag : ℕ) → length w ≡ 12288 → p ≤ 160 → fill_of (page_of w p) ≤ 8 → i ≤ fill_of (page_of w p)
    → set_fill (put_entry_at (copied_in w (57 * p + (entry_word i + 6)) w (57 * p + entry_word i) (6 * (fill_of (page_of w p) - i))) p i r flag) p (suc (fill_of (page_of w p)))
    ≡ put_page w p (leaf_with (page_of w p) i r flag)
in_place w p i r flag long high few h =
    ap (λ v. set_fill (put_entry_at v p i r flag) p (suc n)) (ap (λ v. copied_in v (57 * p + (entry_word i + 6)) v (57 * p + entry_word i) m) (sym (page_own w p long high)) ∙ move_within w p ws fits long high (entry_word i) m 6 (omega arith))
    ∙ ap (λ v. set_fill v p (suc n)) (entry_within w p moved moved_fits i r flag (omega arith))
    ∙ fill_within w p (sets moved (entry_word i) (entry_words r flag)) (length-sets moved (entry_word i) (entry_words r flag) ∙ moved_fits) (suc n)
  where
    ws : List ℕ
    ws = page_of w p

    n : ℕ
    n = fill_of ws

    m : ℕ
    m = 6 * (n - i)

    moved : List ℕ
    moved = copied_in ws (entry_word i + 6) ws (entry_word i) m

    fits : length ws ≡ 57
    fits = page_long w p long high

    moved_fits : length moved ≡ 57
    moved_fits = copy_long ws (entry_word i + 6) ws (entry_word i) m ∙ fits

-- there is room for it, and its page is one of the image
pub room_for : (w : List ℕ) (p s i : ℕ) → i ≡ entries_before (page_of w p) s → LeafReady w p s × (fill_of (page_of w p) ≤ 8) → (i ≤ fill_of (page_of w p)) × (fill_of (page_of w p) ≤ 8) × (1 ≤ p) × (p ≤ 160)
room_for w p s i e a = let r = ready_range w p s a.0 in (omega (arith, before_most (page_of w p) s), a.1, r.0, r.1)

-- b is the entry's first word, m how many words were moved, j and n the number of the entry and the fill that were written
pub put_leaf_done : (w w₁ w₂ w₃ : List ℕ) (p i b m j n flag : ℕ) (r : Region) → i ≡ entries_before (page_of w p) r.start → fill_of (page_of w p) ≤ 8
    → b ≡ 57 * p + entry_word i → m ≡ 6 * (fill_of (page_of w p) - i) → w₁ ≡ copied_in w (b + 6) w b m → j ≡ i → w₂ ≡ put_entry_at w₁ p j r flag → n ≡ suc (fill_of (page_of w p)) → w₃ ≡ set_fill w₂ p n
    → (a : LeafReady w p r.start) → LeafStep w w₃ (renew (put_entry (new_entry r flag))) r.start a.h a.t
put_leaf_done w w₁ w₂ w₃ p i b m j n flag r e few eb em e₁ ej e₂ en e₃ a =
    let s = r.start in
    let ws = page_of w p in
    let es = (leaf_on s a.h a.t).entries in
    let high = (ready_range w p s a).1 in
    let h : i ≤ fill_of ws = omega (arith, before_most ws s) in
    let c : b + 6 ≡ 57 * p + (entry_word i + 6) = omega arith in
    let fits = page_long w p a.lies.long high in
    let st : w₃ ≡ put_page w p (leaf_with ws i r flag) = e₃ ∙ ap₂ (λ v k. set_fill v p k) (e₂ ∙ ap₂ (λ v k. put_entry_at v p k r flag) (e₁ ∙ rw (c, eb, em)) ej) en ∙ in_place w p i r flag a.lies.long high few h in
    subst (λ v. LeafStep w v (renew (put_entry (new_entry r flag))) s a.h a.t) (sym st)
    (leaf_done w p s a (put_entry (new_entry r flag)) (leaf_with ws i r flag) _ _ _ (leaf_with_is ws fits i r flag few h)
    (ap₂ (λ n x. put_in n (new_entry r flag) x) (e ∙ ready_rank w p s a) (ready_entries w p s a) ∙ put_is (new_entry r flag) es)
    (leaf_with_long ws i r flag ∙ fits)
    (omega (arith, long_put (new_entry r flag) es, ready_fill w p s a)))

pub take_leaf_done : (w w₁ : List ℕ) (p s i : ℕ) (ws without : List ℕ) → i ≡ entries_before (page_of w p) s → ws ≡ page_of w p
    → IsLeaf without (mark_of ws) (fill_of ws - 1) (next_of ws) (taken_out i (entries_of ws)) (taken_out i (spares_of ws)) → length without ≡ 57 → w₁ ≡ put_page w p without
    → (a : LeafReady w p s) → LeafStep w w₁ (renew (out_entry s)) s a.h a.t
take_leaf_done w w₁ p s i ws without e k is fits st a =
    let es = (leaf_on s a.h a.t).entries in
    let is' = subst (λ v. IsLeaf without (mark_of v) (fill_of v - 1) (next_of v) (taken_out i (entries_of v)) (taken_out i (spares_of v))) k is in
    subst (λ v. LeafStep w v (renew (out_entry s)) s a.h a.t) (sym st)
    (leaf_done w p s a (out_entry s) without _ _ _ is'
    (ap₂ (λ n x. taken_out n x) (e ∙ ready_rank w p s a) (ready_entries w p s a) ∙ out_is s es) fits
    (omega (arith, out_short s es, ready_fill w p s a, ready_few w p s a)))

-- THE OWNER, where there is one
pub owner_at : (w : List ℕ) (spot : Option Spot) (r : Region) (a : OwnerReady w spot r) (x : Spot) → spot ≡ Some x → Owner r a.h a.t x.page x.key
owner_at w spot r a x n = go (owner_of r a.h a.t)
  where
    go : Owns r a.h a.t (spot_of r.start r.end a.h a.t) → Owner r a.h a.t x.page x.key
    go (none e f) = absurd (omega (arith, ap flag_at (sym n ∙ a.spot_is ∙ e)))
    go (some q i e o) =
        let z : x ≡ record { page = q; key = i } = ap (λ (y : Option Spot). unwrap_or y x) (sym n ∙ a.spot_is ∙ e) in
        subst (λ (y : Spot). Owner r a.h a.t y.page y.key) (sym z) o

-- and where there is none
pub nobody_done : (w : List ℕ) (spot : Option Spot) (r : Region) (g : List Region → List Region) → ((x : Spot) → spot ≡ Some x → ⊥) → (a : OwnerReady w spot r) → ListStep w w g r a.h a.t
nobody_done w spot r g n a = go (owner_of r a.h a.t)
  where
    still : Stepped w w a.h a.t a.t
    still = record { lies = a.lies; place = refl; pages = refl; root = refl; height = refl; shares = refl }

    go : Owns r a.h a.t (spot_of r.start r.end a.h a.t) → ListStep w w g r a.h a.t
    go (none e f) = record { places = λ k. []; step = subst (Stepped w w a.h a.t) (sym (f g (λ k. []))) still }
    go (some q i e o) = absurd (n (record { page = q; key = i }) (a.spot_is ∙ e))

used_of : (n : ℕ) (b : Bool) → n ≡ cond b 1 0 → 0 < n → b ≡ true
used_of n true e l = refl
used_of n false e l = absurd (omega arith)

module _ (w : List ℕ) (spot : Option Spot) (r : Region) (a : OwnerReady w spot r) (x : Spot) (n : spot ≡ Some x) where
  abbrev o : Owner r a.h a.t x.page x.key
  o = owner_at w spot r a x n

  lies_there : Lies w a.h (within o.around (page_at x.page (o.pre ++ (o.kid, o.key) ∷ o.post) o.last))
  lies_there = subst (Lies w a.h) o.was a.lies

  pub spot_range : (1 ≤ x.page) × (x.page ≤ 160)
  spot_range = page_range o.around x.page o.pre o.kid o.post o.last w o.key lies_there

  pub spot_fill : (fill_of (page_of w x.page) ≤ 9) × (x.key < fill_of (page_of w x.page))
  spot_fill = (
    page_fill o.around x.page o.pre o.kid o.post o.last w o.key lies_there,
    subst (λ i. i < fill_of (page_of w x.page)) o.index (key_below o.around x.page o.pre o.kid o.post o.last w o.key lies_there),
  )

  pub spot_words : KeyHeld w (key_words_at (page_of w x.page) x.key) o.key
  spot_words = subst (λ i. KeyHeld w (key_words_at (page_of w x.page) i) o.key) o.index (key_words o.around x.page o.pre o.kid o.post o.last w o.key lies_there)

  abbrev records : List ℕ
  records = record_places a.h (within o.around (page_at x.page (o.pre ++ (o.kid, o.key) ∷ o.post) o.last))

  listed_places : (y : ℕ) → count y o.key.places ≤ count y records
  listed_places y = page_places_lem o.around x.page o.pre o.kid o.post o.last o.key y

  pub spot_used : AllUsed w o.key.places
  spot_used =
      all_counted (λ q. record_used w q ≡ true) o.key.places
      (λ y l.
      let u = lies_there.records.range y (omega (arith, listed_places y)) in
      used_of (count y records) (record_used w y) (lies_there.records.once y u.0 u.1) (omega (arith, listed_places y)))

  -- the key's words as they were read
  module _ (k : KeyWords) (is : (k.key ≡ get_or (page_of w x.page) (key_word x.key) 0) × (k.start ≡ get_or (page_of w x.page) (key_word x.key + 1) 0)
      × (k.end ≡ get_or (page_of w x.page) (key_word x.key + 2) 0) × (k.head ≡ get_or (page_of w x.page) (key_word x.key + 3) 0)) where
    pub read_words : KeyHeld w k o.key
    read_words =
        let e : k ≡ key_words_at (page_of w x.page) x.key = (λ i. record { key = is.0 i; start = is.1 i; end = is.2 i; head = is.3 i }) in
        subst (λ z. KeyHeld w z o.key) (sym e) spot_words

    pub read_ends : Ends w k.head
    read_ends = held_ends w k o.key read_words

    -- its list is changed, its words are written
    module _ (w₁ ts taken freed : List ℕ) (t : KeyWords) (g : List Region → List Region) (places : Key → List ℕ)
        (touched : Touched w w₁ ts) (clear : (y : ℕ) → 0 < count y records → count y o.key.places ≡ 0 → count y ts ≡ 0) (uses : Uses w w₁ taken freed)
        (moves : (y : ℕ) → count y (places o.key) + count y freed ≡ count y o.key.places + count y taken) (inside : (y : ℕ) → 0 < count y taken → (1 ≤ y) × (y ≤ 500))
        (held : KeyHeld w₁ t (key_with o.key.key (places o.key) (g o.key.list))) where
      abbrev ws : List ℕ
      ws = page_of w x.page

      abbrev new : List ℕ
      new = sets ws (key_word x.key) (key_list t)

      ws_long : length ws ≡ 57
      ws_long = page_long w x.page a.lies.long spot_range.1

      written : put_key_at w₁ x.page x.key t ≡ put_page w₁ x.page new
      written =
          key_own w₁ x.page (touched.long ∙ a.lies.long) spot_range.1 x.key t (omega (arith, spot_fill))
          ∙ ap (λ v. put_page w₁ x.page (sets v (key_word x.key) (key_list t))) (touched.pages x.page spot_range.1)

      page_is : IsInner new (mark_of ws) (fill_of ws) (next_of ws) (put_for (length o.pre) t (keys_of ws)) (children_of ws)
      page_is = subst (λ i. IsInner new (mark_of ws) (fill_of ws) (next_of ws) (put_for i t (keys_of ws)) (children_of ws)) (sym o.index) (set_key_is ws ws_long x.key t spot_fill.0 spot_fill.1)

      list_done : ListStep w (put_key_at w₁ x.page x.key t) g r a.h a.t
      list_done =
          let st = own_step_lem o.around x.page o.pre o.kid o.post o.last w o.key lies_there w₁ new ts taken freed t
          (key_with o.key.key (places o.key) (g o.key.list)) touched clear uses moves inside held (length-sets ws (key_word x.key) (key_list t) ∙ ws_long) page_is in
          subst (λ v. ListStep w v g r a.h a.t) (sym written)
          (record {
            places = places;
            step = subst (λ u. Stepped w (put_page w₁ x.page new) a.h u (own g places r a.h a.t)) (sym o.was)
                (subst (Stepped w (put_page w₁ x.page new) a.h _) (sym (o.becomes g places)) st);
          })

-- 1 for a record in use, at most
used_one : (w : List ℕ) (y : ℕ) → in_use w y ≤ 1
used_one w y = one_at_most (record_used w y)

-- the places of a list's two parts
parts_count : (s : ℕ) (k : Key) (y : ℕ) → count y (front_places s k) + count y (back_places s k) ≡ count y k.places
parts_count s k y =
    let i = length (take_while (λ (x : Region). ltb x.start s) k.list) in
    sym (count_append y (take i k.places) (drop i k.places)) ∙ ap (count y) (take-append-drop i k.places)

first_count : (l : List ℕ) (y : ℕ) → count y (take 1 l) + count y (drop 1 l) ≡ count y l
first_count l y = sym (count_append y (take 1 l) (drop 1 l)) ∙ ap (count y) (take-append-drop 1 l)

no_count : (y : ℕ) → count y [] ≡ 0
unfolding count
no_count y = refl

one_count : (y p : ℕ) → 0 < count y (p ∷ []) → y ≡ p
one_count y p l = elim (ℕ_discrete y p) [ yes e ↦ e | no e ↦ absurd (omega (arith, count_other y p [] e, no_count y)) ]

module _ (w w₁ w₂ : List ℕ) (spot : Option Spot) (r : Region) (a : OwnerReady w spot r) (x : Spot) (n : spot ≡ Some x) (k t : KeyWords)
    (is : (k.key ≡ get_or (page_of w x.page) (key_word x.key) 0) × (k.start ≡ get_or (page_of w x.page) (key_word x.key + 1) 0)
    × (k.end ≡ get_or (page_of w x.page) (key_word x.key + 2) 0) × (k.head ≡ get_or (page_of w x.page) (key_word x.key + 3) 0))
    (st : w₂ ≡ put_key_at w₁ x.page x.key t) where
  -- SAVE
  pub enter_done : ((key : Key) → KeyHeld w k key → AllUsed w key.places → Came w w₁ key.places (entered_key key r) t) → ListStep w w₂ (put r) r a.h a.t
  enter_done f = go (f (o w spot r a x n).key (read_words w spot r a x n k is) (spot_used w spot r a x n))
    where
      go : Came w w₁ (o w spot r a x n).key.places (entered_key (o w spot r a x n).key r) t → ListStep w w₂ (put r) r a.h a.t
      go m =
          let q = m.place in
          let p = (lies_there w spot r a x n).records in
          let free : count q (records w spot r a x n) ≡ 0 = omega (arith, p.once q m.low m.high, m.uses.counts q m.low m.high, count_same q [], no_count q, used_one w₁ q) in
          subst (λ v. ListStep w v (put r) r a.h a.t) (sym st)
          (list_done w spot r a x n k is w₁ (q ∷ (o w spot r a x n).key.places) (q ∷ []) [] t (put r) (λ k. front_places r.start k ++ q ∷ back_places r.start k) m.touched
          (λ y l z. count_other y q (o w spot r a x n).key.places (λ e. omega (arith, ap (λ i. count i (records w spot r a x n)) e)) ∙ z)
          m.uses
          (λ y. omega (
            arith,
            count_append y (front_places r.start (o w spot r a x n).key) (q ∷ back_places r.start (o w spot r a x n).key),
            count_append y (q ∷ []) (back_places r.start (o w spot r a x n).key),
            parts_count r.start (o w spot r a x n).key y,
            no_count y,
          ))
          (λ y l. let e = one_count y q l in (omega (arith, m.low), omega (arith, m.high)))
          m.held)

  -- DELETE
  pub leave_done : ((key : Key) → KeyHeld w k key → AllUsed w key.places → Went w w₁ key r.start t) → ListStep w w₂ (out r.start) r a.h a.t
  leave_done f = go (f (o w spot r a x n).key (read_words w spot r a x n k is) (spot_used w spot r a x n))
    where
      go : Went w w₁ (o w spot r a x n).key r.start t → ListStep w w₂ (out r.start) r a.h a.t
      go m =
          let b = back_places r.start (o w spot r a x n).key in
          subst (λ v. ListStep w v (out r.start) r a.h a.t) (sym st)
          (list_done w spot r a x n k is w₁ (o w spot r a x n).key.places [] (take 1 b) t (out r.start) (λ k. front_places r.start k ++ drop 1 (back_places r.start k)) m.touched
          (λ y l z. z) m.uses
          (λ y. omega (arith, count_append y (front_places r.start (o w spot r a x n).key) (drop 1 b), parts_count r.start (o w spot r a x n).key y, first_count b y, no_count y))
          (λ y l. absurd (omega (arith, no_count y)))
          m.held)

-- WHAT THE CALLS ASK, of a page as it was loaded
pub loaded_entry : (w ws : List ℕ) (p s i : ℕ) → ws ≡ page_of w p → LeafReady w p s → i < fill_of (page_of w p) → (fill_of ws ≤ 9) × (i < fill_of ws)
loaded_entry w ws p s i e a l = let f = ap fill_of e in (omega (arith, ready_few w p s a), omega arith)
