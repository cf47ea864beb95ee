-- Two neighbours in a page that stands: what the steps of a merge ask for, and the page above once their key has left it.
-- Assumes nothing.
use Prim.Native.Nat.{ℕ, suc, ◌+◌, ◌≤◌, ◌<◌}
use mathlib.Core.Path.{◌≡◌, refl, sym, ap, ◌∙◌, subst}
use mathlib.Core.Logic.{◌≢◌}
use mathlib.Core.Bool.{Bool, true, false}
use mathlib.Core.List.{List, [], ◌∷◌, ◌++◌}
use lib.ListN.{length, get_or, length-append}
use native.Mathlib.Omega.{arith}
use native.Mathlib.Numerals.{add-one}
use Rattle.words.specs.Lists.{Pairs, count, take_while}
use Rattle.words.proofs.Counted.{one, count_append}
use Rattle.regions.specs.Positions.{stabs}
use Rattle.regions.specs.declared.Region.{Region}
use Rattle.xrtree.specs.Tree.{Key, Tree, listed, list_regions, regions, record_places}
use Rattle.xrtree.specs.Claims.{Page, pair_is, Over}
use Rattle.xrtree.specs.Local.{Here, Part, FirstIs}
use Rattle.xrtree.proofs.Here.{here_all}
use Rattle.xrtree.specs.Moves.{moved_places}
use Rattle.xrtree.specs.Holes.{Post, fill_kids, fill_last}
use Rattle.xrtree.proofs.Holes.{before_kids, after_kids}
use Rattle.xrtree.proofs.Split.{Facts}
use Rattle.xrtree.specs.Holes.Post.{at_key, at_end}
use Rattle.pages.specs.Layout.{page_of, fill_of, child_in, record_used}
use Rattle.holding.specs.Held.{kid_places, place_of, PageHeld, key_records}
use Rattle.standing.specs.Stands.{top}
use Rattle.standing.proofs.Counting.{all_counted, place_once, counted_used}
use Rattle.store.specs.Store.{put_page, free_page}
use Rattle.store.proofs.Frames.{put_page_long, put_page_here, put_page_other, put_page_record, put_page_head, free_page_long, free_page_other, free_page_record, free_page_head, free_page_used}
use Rattle.newpages.specs.Pages.{taken_out, keys_of}
use Rattle.newpages.proofs.Read.{child_in_lem}
use Rattle.records.specs.Touched.{Touched, Uses, AllUsed, Ends}
use Rattle.steps.specs.Steps.{SameKey, rekeyed, PairAt, next_places}
use Rattle.steps.proofs.Listed.{pair_listed, regions_keyless}
use Rattle.steps.proofs.Stays.{records_parts}
use Rattle.handing.specs.declared.Handed.{Handed}
use Rattle.handing.specs.Moves.{next_took, rest_places, Leaving, HandedOn}
use Rattle.handing.proofs.Keys.{kids_more, keys_touched, records_append}
use Rattle.handing.proofs.Sinking.{count_cut}
use Rattle.merge.proofs.Listed.{joined_listed}
use Rattle.merge.proofs.Parts.{part_among}
use Rattle.merge.proofs.Assemble.{page_then, page_now, three, Stored, pair_listing}

-- THE STORES of a merge
pub stored : (w w₅ : List ℕ) (p q r : ℕ) (joined above : List ℕ) → length w ≡ 12288 → length joined ≡ 57 → length above ≡ 57
    → 1 ≤ p → p ≤ 160 → 1 ≤ q → q ≤ 160 → 1 ≤ r → r ≤ 160 → p ≢ q → q ≢ r → p ≢ r
    → w₅ ≡ free_page (put_page (put_page w p joined) q above) r → Stored w w₅ p joined q above r
stored w w₅ p q r joined above l m n a b c d e f x y z e₅ =
    let v = put_page w p joined in
    let u = put_page v q above in
    let hr = free_page_head u r e in
    let hq = put_page_head v q above n c in
    let hp = put_page_head w p joined m a in
    let long-v : length v ≡ 12288 = put_page_long w p joined m ∙ l in
    let long-u : length u ≡ 12288 = put_page_long v q above n ∙ long-v in
    rw e₅
    (record {
      long = free_page_long u r ∙ long-u ∙ sym l;
      root = hr.root ∙ hq.root ∙ hp.root;
      height = hr.height ∙ hq.height ∙ hp.height;
      shares = hr.shares ∙ hq.shares ∙ hp.shares;
      joined_is = free_page_other u r p (λ k. z (sym k)) ∙ put_page_other v q above n p (λ k. x (sym k)) ∙ put_page_here w p joined m l b;
      above_is = free_page_other u r q (λ k. y (sym k)) ∙ put_page_here v q above n long-v d;
      free = free_page_used u r long-u f;
      pages = λ k i j o. free_page_other u r k (λ g. o (sym g)) ∙ put_page_other v q above n k (λ g. j (sym g)) ∙ put_page_other w p joined m k (λ g. i (sym g));
      records = λ k. free_page_record u r f k ∙ put_page_record v q above n d k ∙ put_page_record w p joined m b k;
    })

pub stores_are : (w w₃ w₄ w₅ : List ℕ) (p q r : ℕ) (joined above : List ℕ) → w₃ ≡ put_page w p joined → w₄ ≡ put_page w₃ q above → w₅ ≡ free_page w₄ r → w₅ ≡ free_page (put_page (put_page w p joined) q above) r
stores_are w w₃ w₄ w₅ p q r joined above a b c = c ∙ ap (λ z. free_page z r) (b ∙ ap (λ z. put_page z q above) a)

-- LISTS OF A PAGE without the key
module _ {A : Type 0} (place : A → ℕ) where
  pub places_joined : (pre : List (A × Key)) (post : Post A) (l r t : A) (k a : Key) → place t ≡ place l
      → taken_out (suc (length pre)) (kid_places place (fill_kids (pre ++ (l, k) ∷ []) post r) (fill_last post r)) ≡ kid_places place (fill_kids pre (rekeyed post a) t) (fill_last (rekeyed post a) t)
  places_joined [] (at_key b cs last) l r t k a e = ap (λ x. x ∷ kid_places place cs last) (sym e)
  places_joined [] at_end l r t k a e = ap (λ x. x ∷ []) (sym e)
  places_joined (c ∷ pre) (at_key b cs last) l r t k a e = ap (place c.0 ∷◌) (places_joined pre (at_key b cs last) l r t k a e)
  places_joined (c ∷ pre) at_end l r t k a e = ap (place c.0 ∷◌) (places_joined pre at_end l r t k a e)

  -- the two children's places
  pub place_left : (pre : List (A × Key)) (post : Post A) (l r : A) (k : Key) → get_or (kid_places place (fill_kids (pre ++ (l, k) ∷ []) post r) (fill_last post r)) (length pre) 0 ≡ place l
  place_left [] (at_key b cs last) l r k = refl
  place_left [] at_end l r k = refl
  place_left (c ∷ pre) (at_key b cs last) l r k = place_left pre (at_key b cs last) l r k
  place_left (c ∷ pre) at_end l r k = place_left pre at_end l r k

  pub place_right : (pre : List (A × Key)) (post : Post A) (l r : A) (k : Key) → get_or (kid_places place (fill_kids (pre ++ (l, k) ∷ []) post r) (fill_last post r)) (suc (length pre)) 0 ≡ place r
  place_right [] (at_key b cs last) l r k = refl
  place_right [] at_end l r k = refl
  place_right (c ∷ pre) (at_key b cs last) l r k = place_right pre (at_key b cs last) l r k
  place_right (c ∷ pre) at_end l r k = place_right pre at_end l r k

module _ {A : Type 0} where
  pub long_joined : (pre : List (A × Key)) (post : Post A) (l r t : A) (k a : Key) → length (fill_kids (pre ++ (l, k) ∷ []) post r) ≡ suc (length (fill_kids pre (rekeyed post a) t))
  long_joined [] (at_key b cs last) l r t k a = refl
  long_joined [] at_end l r t k a = refl
  long_joined (c ∷ pre) (at_key b cs last) l r t k a = ap suc (long_joined pre (at_key b cs last) l r t k a)
  long_joined (c ∷ pre) at_end l r t k a = ap suc (long_joined pre at_end l r t k a)

  pub first_pair : (P : ℕ → ℕ → A → Type 0) (lo hi : ℕ) (pre : List (A × Key)) (post : Post A) (l r : A) (k : Key)
      → Page FirstIs P lo hi (fill_kids (pre ++ (l, k) ∷ []) post r) (fill_last post r) → pair_is k k.list
  first_pair P lo hi [] (at_key b cs last) l r k g = g.0
  first_pair P lo hi [] at_end l r k g = g.0
  first_pair P lo hi (c ∷ pre) (at_key b cs last) l r k g = first_pair P (suc c.1.key) hi pre (at_key b cs last) l r k g.2
  first_pair P lo hi (c ∷ pre) at_end l r k g = first_pair P (suc c.1.key) hi pre at_end l r k g.2

  -- records: the next key's and what is left of the key's are those of both
  pub took_records : (x : ℕ) (post : Post A) (k : Key) → count x (next_places (rekeyed post (next_took post k))) + count x (rest_places post k) ≡ count x k.places + count x (next_places post)
  unfolding count
  took_records x (at_key j cs last) k =
      omega (arith, count_append x (moved_places j.key k.list k.places) j.places, count_cut x (length (take_while (stabs j.key) k.list)) k.places)
  took_records x at_end k = omega arith

  -- the next key stays the one it was
  pub took_same : (post : Post A) (k : Key) → SameKey post (next_took post k)
  took_same (at_key j cs last) k = refl
  took_same at_end k = tt

  pub rest_fewer : (x : ℕ) (post : Post A) (k : Key) → count x (rest_places post k) ≤ count x k.places
  rest_fewer x (at_key j cs last) k = omega (arith, count_cut x (length (take_while (stabs j.key) k.list)) k.places)
  rest_fewer x at_end k = omega arith

  pub left_records : (x : ℕ) (pre : List (A × Key)) (post : Post A) (l r t : A) (k : Key)
      → count x (rest_places post k) + count x (key_records (fill_kids pre (rekeyed post (next_took post k)) t)) ≡ count x (key_records (fill_kids (pre ++ (l, k) ∷ []) post r))
  unfolding count
  left_records x pre (at_key j cs last) l r t k =
      let n = next_took {A = A} (at_key j cs last) k in
      omega (
        arith,
        took_records x (at_key j cs last) k,
        records_append x pre ((t, n) ∷ cs),
        count_append x n.places (key_records cs),
        records_append x (pre ++ (l, k) ∷ []) ((r, j) ∷ cs),
        records_append x pre ((l, k) ∷ []),
        count_append x k.places [],
        count_append x j.places (key_records cs),
      )
  left_records x pre at_end l r t k = omega (arith, records_append x pre ((l, k) ∷ []), count_append x k.places [])

-- THE RULES of a page that stands, over its own regions
-- a page from the pair on
abbrev pub kids_from : {w : List ℕ} {h q j : ℕ} → PairAt w h q j → List (Tree h × Key)
kids_from s = s.pre ++ (s.left, s.key) ∷ fill_kids [] s.post s.right

-- the facts of a page that stands, over its own regions
pub page_facts : {w : List ℕ} {h q j : ℕ} (s : PairAt w h q j) → Facts top (regions (suc h) (page_then s)) h s.lo s.hi q (kids_from s) (fill_last s.post s.right)
unfolding listed
page_facts {h = h} {q = q} s =
    let t = s.stands in
    let rs = regions (suc h) (page_then s) in
    let e = kids_more s.pre s.post s.left s.right s.key in
    subst (λ (z : List (Tree h × Key)). Facts top rs h s.lo s.hi q z (fill_last s.post s.right)) e
    (record {
      part = part_among s.rs rs (suc h) s.lo s.hi (page_then s) t.near (here_all rs s.lo s.hi) t.pairs t.part;
      near = here_all rs s.lo s.hi;
      pairs = t.pairs;
      well = t.well;
    })

-- a part of the page's own regions that has the same regions is a part of the set
pub part_back : {w : List ℕ} {h q j : ℕ} (s : PairAt w h q j) (t : Tree h) (k : Key) → regions h t ≡ regions h s.left ++ regions h s.right
    → Part (regions (suc h) (page_then s)) (suc h) s.lo s.hi (page_now s t k) → Part s.rs (suc h) s.lo s.hi (page_now s t k)
part_back {h = h} {q = q} s t k e p =
    let rs = regions (suc h) (page_then s) in
    let same : rs ≡ regions (suc h) (page_now s t k) =
    pair_listed list_regions regions_keyless h q s.pre s.post s.left s.right s.key
    ∙ ap (λ (z : List Region). before_kids list_regions h s.pre ++ (z ++ after_kids list_regions h s.post)) (sym e)
    ∙ sym (joined_listed list_regions regions_keyless h q s.pre s.post t k) in
    part_among rs s.rs (suc h) s.lo s.hi (page_now s t k) (subst (Here rs s.lo s.hi) same (here_all rs s.lo s.hi))
    (subst (Here s.rs s.lo s.hi) same s.stands.near) (subst (Pairs Over) same s.stands.pairs) p

same_use : (a b : Bool) → one a ≡ one b → b ≡ true → a ≡ true
same_use true b e t = refl
same_use false true e t = absurd (omega arith)
same_use false false e t = t

module _ {w : List ℕ} {h q j : ℕ} (s : PairAt w h q j) where
  pub pair_once : (x : ℕ) → count x (key_records (page_then s).kids) ≤ 1
  pair_once x =
      omega (arith, records_parts x (suc h) (page_then s), count_append x (record_places (suc h) (page_then s)) s.o.records, place_once s.stands.records x)

  abbrev pub leaving_pair : Leaving w (page_of w q) j
  leaving_pair =
      record {
        h = h;
        pre = s.pre;
        post = s.post;
        left = s.left;
        key = s.key;
        right = s.right;
        index = s.index;
        held = s.stands.held.0.keys_held;
        first = first_pair _ s.lo s.hi s.pre s.post s.left s.right s.key s.stands.part.firsts;
        once = pair_once;
      }

  -- the page's words: its fill, and the places of the two
  pub pair_fill : fill_of (page_of w q) ≤ 9
  pair_fill = omega (arith, s.stands.held.0.fill_is, s.stands.roomy.0)

  pub pair_index : j < fill_of (page_of w q)
  pair_index = omega (arith, s.stands.held.0.fill_is, long_joined s.pre s.post s.left s.right s.right s.key s.key, more s.post, s.index)
    where
      more : (post : Post (Tree h)) → length s.pre ≤ length (fill_kids s.pre (rekeyed post s.key) s.right)
      more (at_key k cs last) = omega (arith, length-append s.pre ((s.right, s.key) ∷ cs))
      more at_end = omega arith

  child_at : (i : ℕ) → i ≤ fill_of (page_of w q) → child_in (page_of w q) i ≡ get_or (kid_places (place_of h) (page_then s).kids (page_then s).last) i 0
  child_at i g =
      let e : 0 + i ≡ i = omega arith in
      ap (child_in (page_of w q)) (sym e) ∙ sym (child_in_lem (page_of w q) 0 (suc (fill_of (page_of w q))) i (omega arith)) ∙ ap (λ l. get_or l i 0) s.stands.held.0.children_are

  pub pair_left_lem : child_in (page_of w q) j ≡ place_of h s.left
  pair_left_lem =
      child_at j (omega (arith, pair_index))
      ∙ ap (λ i. get_or (kid_places (place_of h) (page_then s).kids (page_then s).last) i 0) (sym s.index) ∙ place_left (place_of h) s.pre s.post s.left s.right s.key

  pub pair_right_lem : child_in (page_of w q) (suc j) ≡ place_of h s.right
  pair_right_lem =
      child_at (suc j) (omega (arith, pair_index))
      ∙ ap (λ i. get_or (kid_places (place_of h) (page_then s).kids (page_then s).last) (suc i) 0) (sym s.index) ∙ place_right (place_of h) s.pre s.post s.left s.right s.key

  -- what is left of the key's list is in use, and shares no record with the keys that stay
  pub rest_used : {w₁ : List ℕ} → Uses w w₁ [] [] → AllUsed w₁ (rest_places s.post s.key)
  unfolding count
  rest_used {w₁} u =
      all_counted (λ x. record_used w₁ x ≡ true) (rest_places s.post s.key) (λ x g.
      let c : 0 < count x (record_places (suc h) (page_then s) ++ s.o.records) = omega (arith, pair_listing s x, rest_fewer x s.post s.key) in
      let r = s.stands.records.range x c in
      same_use (record_used w₁ x) (record_used w x) (omega (arith, u.counts x r.0 r.1)) (counted_used s.stands.records x c))

  -- THE PAGE ABOVE
  pub above_made : {w₁ w₂ : List ℕ} {r : Handed} → HandedOn w w₁ (page_of w q) j leaving_pair r → Touched w₁ w₂ (rest_places s.post s.key) → (t : Tree h) → place_of h t ≡ place_of h s.left
      → PageHeld w₂ r.page h (page_now s t (next_took s.post s.key))
  above_made {w₁} {w₂} {r} m u t e =
      let g = s.stands.held.0 in
      let k' = next_took s.post s.key in
      let f : suc (fill_of r.page) ≡ fill_of (page_of w q) = omega (arith, m.fill_is, pair_index) in
      record {
        fill_is = omega (arith, f, g.fill_is, long_joined s.pre s.post s.left s.right t s.key k');
        children_are =
            m.children_are ∙ ap (taken_out (suc j)) g.children_are
            ∙ ap (λ i. taken_out (suc i) (kid_places (place_of h) (page_then s).kids (page_then s).last)) (sym s.index) ∙ places_joined (place_of h) s.pre s.post s.left s.right t s.key k' e;
        keys_held = keys_touched u (keys_of r.page) (fill_kids s.pre (rekeyed s.post k') t)
            (λ x. omega (arith, left_records x s.pre s.post s.left s.right t s.key, pair_once x)) (m.keys_held t);
      }

-- A PAGE LOADED, with the two children that it names
pub record Loaded (w page : List ℕ) (q j left right : ℕ) : Type 0 where
  pub long : length w ≡ 12288
  pub above_low : 1 ≤ q
  pub above_high : q ≤ 160
  pub left_low : 1 ≤ left
  pub left_high : left ≤ 160
  pub right_low : 1 ≤ right
  pub right_high : right ≤ 160
  pub few : fill_of page ≤ 9
  pub leaving : Leaving w page j

module _ {w : List ℕ} {h q j : ℕ} (s : PairAt w h q j) {page : List ℕ} (e : page ≡ page_of w q) where
  pub left_is : {left : ℕ} → left ≡ child_in page j → left ≡ place_of h s.left
  left_is l = l ∙ ap (λ ws. child_in ws j) e ∙ pair_left_lem s

  pub right_is : {right : ℕ} → right ≡ child_in page (j + 1) → right ≡ place_of h s.right
  right_is r = r ∙ ap (λ ws. child_in ws (j + 1)) e ∙ ap (child_in (page_of w q)) (add-one j) ∙ pair_right_lem s

  pub loaded : {left right : ℕ} → left ≡ child_in page j → right ≡ child_in page (j + 1) → Loaded w page q j left right
  loaded l r =
      let t = three s in
      record {
        long = s.stands.long;
        above_low = t.above_low;
        above_high = t.above_high;
        left_low = omega (arith, t.left_low, left_is l);
        left_high = omega (arith, t.left_high, left_is l);
        right_low = omega (arith, t.right_low, right_is r);
        right_high = omega (arith, t.right_high, right_is r);
        few = omega (arith, ap fill_of e, pair_fill s);
        leaving = subst (λ ws. Leaving w ws j) (sym e) (leaving_pair s);
      }

-- what is left of the key's list ends
pub rest_ends : {w w₁ ws : List ℕ} {j : ℕ} {s : Leaving w ws j} {r : Handed} → HandedOn w w₁ ws j s r → Ends w₁ r.rest.head
rest_ends {s = s} m = record { places = rest_places s.post s.key; chain = m.rest_held.chain }
