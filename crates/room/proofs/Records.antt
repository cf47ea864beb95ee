-- A region stands in at most one list, and one in no list waits: the records in lists and the entries in none are together no more than the regions. So free records suffice.
-- The law is local: between the bounds of a part; and it goes down with them.
-- Assumes nothing.
use Prim.Native.Nat.{ℕ, zero, suc, ◌+◌, ◌≤◌, ◌<◌}
use mathlib.Core.Path.{◌≡◌, refl, sym, ap, ◌∙◌}
use mathlib.Core.Bool.{Bool, true, false, ◌&&◌, cond}
use mathlib.Core.List.{List, [], ◌∷◌, ◌++◌, map}
use lib.Dec.{T, leb, ltb, leb→le, ltb→lt}
use lib.ListN.{length, length-append, length-map}
use native.Mathlib.Omega.{arith}
use Rattle.words.specs.Lists.{All, filter, count}
use Rattle.words.proofs.Tests.{by_test, eq_of, and_left, and_right, of_T}
use Rattle.words.proofs.Counted.{sum_count, pigeon, filter_short}
use Rattle.regions.specs.declared.Region.{Region}
use Rattle.xrtree.specs.Tree.{Entry, Key, Leaf, Tree, weave, listed, list_records, region_of, regions, page_places, record_places}
use Rattle.xrtree.specs.Claims.{regions_in, Between, Within, InKids, In, flag_of}
use Rattle.xrtree.specs.Local.{boxb, box, ListIs, LocalKids, Local, FlagKids, FlagsAre, LocalFlags, Here}
use Rattle.xrtree.proofs.Box.{to_box}
use Rattle.xrtree.proofs.Count.{inner_three}
use Rattle.xrtree.proofs.Here.{here_child, here_next}
use Rattle.xrtree.specs.Holes.{lo_after, Post, fill_kids, fill_last, hi_post, up, Ctx, plug, lo_at, hi_at}
use Rattle.xrtree.proofs.Holes.{before, after, before_kids, after_kids, hole_page}
use Rattle.xrtree.specs.Holes.Post.{at_key, at_end}
use Rattle.pages.specs.declared.KeyWords.{KeyWords}
use Rattle.pages.specs.Layout.{page_of, fill_of, page_used, record_used}
use Rattle.image.specs.Read.{record_region}
use Rattle.image.specs.Decode.{keys_from}
use Rattle.holding.specs.Held.{KeysHeld, EveryKid, Held}
use Rattle.holding.proofs.Reading.{AllKeys}
use Rattle.holding.proofs.Holes.{every_hole}
use Rattle.standing.specs.Stands.{Around, nothing_around, Places, Stands}
use Rattle.standing.proofs.Child.{around_hole}
use Rattle.standing.proofs.Counting.{all_counted}
use Rattle.room.specs.Ways.{idle_in, idle, between, RecordRoom, PageRoom}

pub between_few : (lo hi : ℕ) (rs : List Region) → length (between lo hi rs) ≤ length rs
unfolding box
between_few lo hi rs = filter_short (boxb lo hi 0 hi) rs

-- a list is as long as its records
abbrev Even : Key → Type 0
Even k = length k.places ≡ length k.list

keys_even : {A : Type 0} (w : List ℕ) (xs : List KeyWords) (cs : List (A × Key)) → KeysHeld w xs cs → All (λ c. Even c.1) cs
keys_even w [] [] h = tt
keys_even w [] (c ∷ cs) h = absurd h
keys_even w (x ∷ xs) [] h = tt
keys_even w (x ∷ xs) (c ∷ cs) h = (sym (length-map c.1.places (record_region w)) ∙ sym (ap length h.0.list_is), keys_even w xs cs h.1)

every_even : (w : List ℕ) (h : ℕ) → ((t : Tree h) → Held w h t → AllKeys Even h t) → (cs : List (Tree h × Key)) (last : Tree h) → EveryKid (Held w h) cs last → EveryKid (AllKeys Even h) cs last
every_even w h f [] last e = f last e
every_even w h f (c ∷ cs) last e = (f c.0 e.0, every_even w h f cs last e.1)

pub held_even : (w : List ℕ) (h : ℕ) (t : Tree h) → Held w h t → AllKeys Even h t
held_even w zero t g = tt
held_even w (suc h) t g =
    (keys_even w (keys_from (page_of w t.place) 0 (fill_of (page_of w t.place))) t.kids g.0.keys_held, every_even w h (λ u x. held_even w h u x) t.kids t.last g.1)

-- the records of a page's children and keys
abbrev records_in : (h : ℕ) → List (Tree h × Key) → Tree h → List ℕ
records_in h cs z = weave (record_places h) (λ (k : Key). k.places) cs z

more_records : (h : ℕ) (c : Tree h × Key) (cs : List (Tree h × Key)) (last : Tree h)
    → length (records_in h (c ∷ cs) last) ≡ length (record_places h c.0) + (length c.1.places + length (records_in h cs last))
unfolding weave
more_records h c cs last = length-append (record_places h c.0) (c.1.places ++ records_in h cs last) ∙ ap (λ n. length (record_places h c.0) + n) (length-append c.1.places (records_in h cs last))

abbrev idle_kids : (h : ℕ) → List (Tree h × Key) → Tree h → List Region
idle_kids h cs z = weave (idle h) (λ (k : Key). []) cs z

more_idle : (h : ℕ) (c : Tree h × Key) (cs : List (Tree h × Key)) (last : Tree h) → length (idle_kids h (c ∷ cs) last) ≡ length (idle h c.0) + length (idle_kids h cs last)
unfolding weave
more_idle h c cs last = length-append (idle h c.0) (idle_kids h cs last)

before_more : (h : ℕ) (c : Tree h × Key) (pre : List (Tree h × Key))
    → length (before_kids list_records h (c ∷ pre)) ≡ length (record_places h c.0) + (length c.1.places + length (before_kids list_records h pre))
before_more h c pre =
    length-append (record_places h c.0) (c.1.places ++ before_kids list_records h pre) ∙ ap (λ n. length (record_places h c.0) + n) (length-append c.1.places (before_kids list_records h pre))

module _ (rs : List Region) where
  -- RECORDS of a part: no more than the regions between its bounds
  records_kids : (h : ℕ) → ((lo hi : ℕ) (c : Tree h) → In h lo hi c → Local h rs lo hi c → AllKeys Even h c → length (record_places h c) ≤ length (between lo hi rs)) → (lo hi : ℕ) (cs : List (Tree h × Key)) (last : Tree h)
      → InKids (In h) lo hi cs last → LocalKids rs (Local h rs) lo hi cs last → All (λ c. Even c.1) cs → EveryKid (AllKeys Even h) cs last → length (records_in h cs last) ≤ length (between lo hi rs)
  records_kids h ih lo hi [] last i l e a = last_is (ih lo hi last i l a)
    where
      last_is : length (record_places h last) ≤ length (between lo hi rs) → length (records_in h [] last) ≤ length (between lo hi rs)
      last_is n = unfold weave in n
  records_kids h ih lo hi (c ∷ cs) last i l e a =
      let k = c.1.key in
      omega (arith, more_records h c cs last, e.0, ap length l.0, ih lo k c.0 i.1 l.1 a.0, records_kids h ih (suc k) hi cs last i.2 l.2 e.1 a.1, inner_three rs lo k hi i.0.0 i.0.1)

  pub records_few : (h : ℕ) (lo hi : ℕ) (t : Tree h) → In h lo hi t → Local h rs lo hi t → AllKeys Even h t → length (record_places h t) ≤ length (between lo hi rs)
  unfolding listed
  records_few zero lo hi t i l a = omega arith
  records_few (suc h) lo hi t i l a = records_kids h (λ lo hi c i l a. records_few h lo hi c i l a) lo hi t.kids t.last i l a.0 a.1

  -- AND ENTRIES IN NO LIST: they too lie between the bounds, and no key stabs them
  idle_leaf : (lo hi : ℕ) (es : List Entry) → Within lo hi es → FlagsAre lo hi es → length (map region_of (filter idle_in es)) ≤ length (between lo hi (map region_of es))
  unfolding box filter
  idle_leaf lo hi [] i f = omega arith
  idle_leaf lo hi (e ∷ es) i f =
      let n = idle_leaf lo hi es i.1 f.1 in
      by_test (idle_in e)
      (λ z.
      let b : T (boxb lo hi 0 hi e.region) = inside (eq_of e.flag 0 z) in
      rw (z, of_T (boxb lo hi 0 hi e.region) b) (omega arith))
      (λ z. rw z (by_test (boxb lo hi 0 hi e.region) (λ y. rw y (omega arith)) (λ y. rw y n)))
    where
      off : (b : Bool) → flag_of b ≡ 0 → T b
      off true q = tt
      off false q = absurd (let z : ◌≡◌ {A = ℕ} 1 0 = q in omega arith)

      inside : e.flag ≡ 0 → T (boxb lo hi 0 hi e.region)
      inside z =
          let b = off (leb lo e.region.start && ltb e.region.end hi) (sym f.0 ∙ z) in
          to_box lo hi 0 hi e.region
          (leb→le lo e.region.start (and_left (leb lo e.region.start) _ b), i.0.1, omega arith, ltb→lt e.region.end hi (and_right (leb lo e.region.start) _ b))

  both_kids : (h : ℕ) → ((lo hi : ℕ) (c : Tree h) → In h lo hi c → Local h rs lo hi c → LocalFlags h lo hi c → Here rs lo hi (regions h c) → AllKeys Even h c
      → length (record_places h c) + length (idle h c) ≤ length (between lo hi rs)) → (lo hi : ℕ) (cs : List (Tree h × Key)) (last : Tree h)
      → InKids (In h) lo hi cs last → LocalKids rs (Local h rs) lo hi cs last → FlagKids (LocalFlags h) lo hi cs last → Here rs lo hi (regions_in h cs last)
      → All (λ c. Even c.1) cs → EveryKid (AllKeys Even h) cs last → length (records_in h cs last) + length (idle_kids h cs last) ≤ length (between lo hi rs)
  both_kids h ih lo hi [] last i l f n e a = last_is (ih lo hi last i l f (one_child n) a)
    where
      one_child : Here rs lo hi (regions_in h [] last) → Here rs lo hi (regions h last)
      one_child m = unfold weave in m

      last_is : length (record_places h last) + length (idle h last) ≤ length (between lo hi rs) → length (records_in h [] last) + length (idle_kids h [] last) ≤ length (between lo hi rs)
      last_is n = unfold weave in n
  both_kids h ih lo hi (c ∷ cs) last i l f n e a =
      let k = c.1.key in
      omega (
        arith,
        more_records h c cs last,
        more_idle h c cs last,
        e.0,
        ap length l.0,
        ih lo k c.0 i.1 l.1 f.1 (here_child h lo hi c cs last n i) a.0,
        both_kids h ih (suc k) hi cs last i.2 l.2 f.2 (here_next h lo hi c cs last n i) e.1 a.1,
        inner_three rs lo k hi i.0.0 i.0.1,
      )

  pub both_few : (h : ℕ) (lo hi : ℕ) (t : Tree h) → In h lo hi t → Local h rs lo hi t → LocalFlags h lo hi t → Here rs lo hi (regions h t) → AllKeys Even h t
      → length (record_places h t) + length (idle h t) ≤ length (between lo hi rs)
  unfolding listed
  both_few zero lo hi t i l f n a =
      omega (arith, idle_leaf lo hi t.entries i f, ap length (n.same lo hi 0 hi (omega arith) (omega arith)))
  both_few (suc h) lo hi t i l f n a =
      both_kids h (λ lo hi c i l f n a. both_few h lo hi c i l f n a) lo hi t.kids t.last i l f n a.0 a.1

  -- DOWN TO A HOLE: the records left and right of it, and the regions between its own bounds
  hole_kids : (h lo hi : ℕ) (pre : List (Tree h × Key)) (post : Post (Tree h)) (t : Tree h) → InKids (In h) lo hi (fill_kids pre post t) (fill_last post t)
      → LocalKids rs (Local h rs) lo hi (fill_kids pre post t) (fill_last post t) → All (λ c. Even c.1) (fill_kids pre post t) → EveryKid (AllKeys Even h) (fill_kids pre post t) (fill_last post t)
      → length (before_kids list_records h pre) + length (after_kids list_records h post) + length (between (lo_after lo pre) (hi_post hi post) rs) ≤ length (between lo hi rs)
  unfolding lo_after
  hole_kids h lo hi [] (at_key k cs last) t i l e a =
      omega (
        arith,
        length-append k.places (records_in h cs last),
        e.0,
        ap length l.0,
        records_kids h (λ lo hi c i l a. records_few h lo hi c i l a) (suc k.key) hi cs last i.2 l.2 e.1 a.1,
        inner_three rs lo k.key hi i.0.0 i.0.1,
      )
  hole_kids h lo hi [] at_end t i l e a = omega arith
  hole_kids h lo hi (c ∷ pre) (at_key k cs last) t i l e a =
      omega (
        arith,
        before_more h c pre,
        e.0,
        ap length l.0,
        records_few h lo c.1.key c.0 i.1 l.1 a.0,
        hole_kids h (suc c.1.key) hi pre (at_key k cs last) t i.2 l.2 e.1 a.1,
        inner_three rs lo c.1.key hi i.0.0 i.0.1,
      )
  hole_kids h lo hi (c ∷ pre) at_end t i l e a =
      omega (
        arith,
        before_more h c pre,
        e.0,
        ap length l.0,
        records_few h lo c.1.key c.0 i.1 l.1 a.0,
        hole_kids h (suc c.1.key) hi pre at_end t i.2 l.2 e.1 a.1,
        inner_three rs lo c.1.key hi i.0.0 i.0.1,
      )

  hole_records : (d m lo hi : ℕ) (c : Ctx d m) (t : Tree m) → In (up d m) lo hi (plug d m c t) → Local (up d m) rs lo hi (plug d m c t) → AllKeys Even (up d m) (plug d m c t)
      → length (before list_records d m c) + length (after list_records d m c) + length (between (lo_at d m lo c) (hi_at d m hi c) rs) ≤ length (between lo hi rs)
  hole_records zero m lo hi c t i l a = omega arith
  hole_records (suc d) m lo hi c t i l a =
      let u = plug d m c.3 t in
      let n = hole_records d m (lo_after lo c.1) (hi_post hi c.2) c.3 t
      (hole_page Between (In (up d m)) lo hi c.1 c.2 u i).0 (hole_page (ListIs rs) (Local (up d m) rs) lo hi c.1 c.2 u l).0 (every_hole (AllKeys Even (up d m)) c.1 c.2 u a.1) in
      omega (
        arith,
        hole_kids (up d m) lo hi c.1 c.2 u i l a.0 a.1,
        length-append (before_kids list_records (up d m) c.1) (before list_records d m c.3),
        length-append (after list_records d m c.3) (after_kids list_records (up d m) c.2),
      )

-- ROOM. Of a whole tree; down to a page below; and what it says of free records
pub room_whole : (rs : List Region) (lo hi : ℕ) → length rs ≤ 500 → RecordRoom rs lo hi nothing_around
room_whole rs lo hi l = omega (arith, between_few lo hi rs)

module _ (w : List ℕ) (rs : List Region) where
  pub room_hole : (d m lo hi : ℕ) (c : Ctx d m) (t : Tree m) (o : Around) → Stands w rs (up d m) lo hi (plug d m c t) o → RecordRoom rs lo hi o
      → RecordRoom rs (lo_at d m lo c) (hi_at d m hi c) (around_hole d m c o)
  room_hole d m lo hi c t o s r =
      omega (
        arith,
        hole_records rs d m lo hi c t s.part.order s.part.lists (held_even w (up d m) (plug d m c t) s.held),
        length-append (before list_records d m c) (after list_records d m c ++ o.records),
        length-append (after list_records d m c) o.records,
      )

  pub stands_few : (h lo hi : ℕ) (t : Tree h) (o : Around) → Stands w rs h lo hi t o → length (record_places h t) + length (idle h t) ≤ length (between lo hi rs)
  stands_few h lo hi t o s = both_few rs h lo hi t s.part.order s.part.lists s.part.flags s.near (held_even w h t s.held)

  -- all records in use, and one for each entry of the part that is in no list: at most 500
  pub room_idle : (h lo hi : ℕ) (t : Tree h) (o : Around) → Stands w rs h lo hi t o → RecordRoom rs lo hi o → length (record_places h t ++ o.records) + length (idle h t) ≤ 500
  room_idle h lo hi t o s r = omega (arith, stands_few h lo hi t o s, length-append (record_places h t) o.records)

  -- of a whole tree: the records in use are no more than the regions
  pub whole_few : (h lo hi : ℕ) (t : Tree h) (o : Around) → Stands w rs h lo hi t o → length (record_places h t) + length (idle h t) ≤ length rs
  whole_few h lo hi t o s = omega (arith, stands_few h lo hi t o s, between_few lo hi rs)

-- of a leaf: its entries with flag 0
pub idle_long : (t : Leaf) → length (idle 0 t) ≡ length (filter idle_in t.entries)
unfolding listed
idle_long t = length-map (filter idle_in t.entries) region_of

-- FEWER PLACES LISTED THAN THERE ARE: one is free
pub place_free : (used : ℕ → Bool) (n : ℕ) (ps : List ℕ) → Places used n ps → length ps < n → (q : ℕ) × (1 ≤ q) × (q ≤ n) × (used q ≡ false)
place_free used n ps p l =
    let r = all_counted (λ q. (1 ≤ q) × (q ≤ n)) ps p.range in
    let z = pigeon (λ i. count i ps) n (omega (arith, sum_count ps n r)) in
    (z.0, z.1, z.2, bit (used z.0) (sym (p.once z.0 z.1 z.2) ∙ z.3))
  where
    bit : (b : Bool) → ◌≡◌ {A = ℕ} (cond b 1 0) 0 → b ≡ false
    bit true e = absurd (let z : ◌≡◌ {A = ℕ} 1 0 = e in omega arith)
    bit false e = refl

pub page_free : (w : List ℕ) (rs : List Region) (h lo hi : ℕ) (t : Tree h) (o : Around) → Stands w rs h lo hi t o → PageRoom 1 h t o → (q : ℕ) × (1 ≤ q) × (q ≤ 160) × (page_used w q ≡ false)
page_free w rs h lo hi t o s r = place_free (page_used w) 160 (page_places h t ++ o.pages) s.pages (omega arith)

pub record_free : (w : List ℕ) (rs : List Region) (h lo hi : ℕ) (t : Tree h) (o : Around) → Stands w rs h lo hi t o → length (record_places h t ++ o.records) < 500
    → (q : ℕ) × (1 ≤ q) × (q ≤ 500) × (record_used w q ≡ false)
record_free w rs h lo hi t o s r = place_free (record_used w) 500 (record_places h t ++ o.records) s.records r
