-- A valid image's tree stands, with nothing around it; and a tree that stands, with right fills and shares, makes the image valid and is what it means.
-- Assumes nothing.
use Prim.Native.Nat.{ℕ, zero, suc, ◌-◌, ◌≤◌, ◌<◌}
use mathlib.Core.Path.{◌≡◌, sym, ap, ◌∙◌, subst}
use mathlib.Core.Bool.{Bool}
use mathlib.Core.List.{List, [], ◌∷◌, ◌++◌, append-nil}
use lib.Dec.{T, leb, leb→le}
use lib.ListN.{length, length-append}
use native.Mathlib.Omega.{arith}
use Rattle.words.specs.Lists.{All, Pairs, all, all_pairs, count, sum_to}
use Rattle.words.proofs.Tests.{and_left, and_right}
use Rattle.words.proofs.Listed.{all_left, all_right}
use Rattle.words.proofs.Counted.{sum_count, sum_at_most}
use Rattle.regions.specs.Positions.{well_formed, nested, leveled}
use Rattle.regions.specs.declared.Region.{Region}
use Rattle.xrtree.specs.Tree.{Key, Tree, weave, listed, list_records, regions, leaves, page_places, record_places, all_kids}
use Rattle.xrtree.specs.Rules.{within, filled, filled_below, linked, starts_first, rule2, rule3, rule4, rule5, rule6, shares_kept, placed}
use Rattle.xrtree.specs.Claims.{Good, Over, Fits}
use Rattle.xrtree.proofs.Here.{here_all}
use Rattle.xrtree.specs.Local.{Sound}
use Rattle.xrtree.proofs.Holes.{good_sound, sound_good}
use Rattle.xrtree.proofs.Rules.{rules_good, good_rules}
use Rattle.pages.specs.Layout.{root_of, height_of, shares_of, page_used, record_used}
use Rattle.image.specs.Read.{read_tree, depth_of, tree_of, set_of}
use Rattle.image.specs.Valid.{valid}
use Rattle.image.proofs.Small.{Small, small_keys, small_ends}
use Rattle.image.proofs.Facts.{Facts, valid_facts, facts_valid}
use Rattle.holding.specs.Held.{EveryKid, place_of}
use Rattle.holding.proofs.Reading.{Ends, Short, AllKeys, read_held, held_read}
use Rattle.standing.specs.Stands.{top, nothing_around, Places, Roomy, Stands}
use Rattle.standing.proofs.Counting.{all_counted, placed_places, places_placed, place_once}

-- LISTS ARE SHORT, since no record stands twice
pub few : (used : ℕ → Bool) (ps : List ℕ) → Places used 500 ps → length ps ≤ 500
few used ps p =
    let r = all_counted (λ q. (1 ≤ q) × (q ≤ 500)) ps p.range in
    let a = sum_count ps 500 r in
    let b : sum_to (λ i. count i ps) 500 ≤ 500 = sum_at_most (λ i. count i ps) 500 (place_once p) in
    omega arith

-- every key's own places, of all records of a tree
module _ (P : Key → Type 0) (Q : List ℕ → Type 0) (left : (a b : List ℕ) → Q (a ++ b) → Q a) (right : (a b : List ℕ) → Q (a ++ b) → Q b) (own : (k : Key) → Q k.places → P k) where
  keys_kids : (h : ℕ) → ((t : Tree h) → Q (record_places h t) → AllKeys P h t) → (cs : List (Tree h × Key)) (last : Tree h)
      → Q (weave (listed list_records h) (λ (k : Key). k.places) cs last) → All (λ c. P c.1) cs × EveryKid (AllKeys P h) cs last
  unfolding weave
  keys_kids h f [] last q = (tt, f last q)
  keys_kids h f (c ∷ cs) last q =
      let r = right (listed list_records h c.0) _ q in
      let k = keys_kids h f cs last (right c.1.places _ r) in
      ((own c.1 (left c.1.places _ r), k.0), (f c.0 (left (listed list_records h c.0) _ q), k.1))

  all_keys : (h : ℕ) (t : Tree h) → Q (record_places h t) → AllKeys P h t
  unfolding listed
  all_keys zero t q = tt
  all_keys (suc h) t q = keys_kids h (λ u x. all_keys h u x) t.kids t.last q

-- a list of so many places in range, and its parts
abbrev Brief : List ℕ → Type 0
Brief ps = (length ps < 501) × All (λ p. (1 ≤ p) × (p ≤ 500)) ps

brief_left : (a b : List ℕ) → Brief (a ++ b) → Brief a
brief_left a b h = (omega (arith, length-append a b), all_left (λ p. (1 ≤ p) × (p ≤ 500)) a b h.1)

brief_right : (a b : List ℕ) → Brief (a ++ b) → Brief b
brief_right a b h = (omega (arith, length-append a b), all_right (λ p. (1 ≤ p) × (p ≤ 500)) a b h.1)

brief_of : (used : ℕ → Bool) (ps : List ℕ) → Places used 500 ps → Brief ps
brief_of used ps p = (omega (arith, few used ps p), all_counted (λ q. (1 ≤ q) × (q ≤ 500)) ps p.range)

pub keys_end : (used : ℕ → Bool) (h : ℕ) (t : Tree h) → Places used 500 (record_places h t) → AllKeys Ends h t
keys_end used h t p = all_keys Ends Brief brief_left brief_right (λ k b. b) h t (brief_of used (record_places h t) p)

pub keys_short : (used : ℕ → Bool) (h : ℕ) (t : Tree h) → Places used 500 (record_places h t) → AllKeys Short h t
keys_short used h t p = all_keys Short Brief brief_left brief_right (λ k b. b.0) h t (brief_of used (record_places h t) p)

-- FILLS of at most eight leave room
kids_roomy : (h : ℕ) (f : Tree h → Bool) → ((t : Tree h) → T (f t) → Roomy h t) → (cs : List (Tree h × Key)) (last : Tree h) → T (all_kids f cs last) → EveryKid (Roomy h) cs last
unfolding all_kids
kids_roomy h f g [] last t = g last t
kids_roomy h f g (c ∷ cs) last t = (g c.0 (and_left (f c.0) _ t), kids_roomy h f g cs last (and_right (f c.0) _ t))

upper : (least n : ℕ) → T (within least 8 n) → n ≤ 9
upper least n t = let u = leb→le n 8 (and_right (leb least n) _ t) in omega arith

below_roomy : (h : ℕ) (t : Tree h) → T (filled_below h t) → Roomy h t
unfolding filled_below
below_roomy zero t f = upper 4 (length t.entries) f
below_roomy (suc h) t f =
    (upper 4 (length t.kids) (and_left (within 4 8 (length t.kids)) _ f), kids_roomy h (filled_below h) (λ u x. below_roomy h u x) t.kids t.last (and_right (within 4 8 (length t.kids)) _ f))

pub filled_roomy : (h : ℕ) (t : Tree h) → T (filled h t) → Roomy h t
unfolding filled
filled_roomy zero t f = upper 0 (length t.entries) f
filled_roomy (suc h) t f =
    (upper 1 (length t.kids) (and_left (within 1 8 (length t.kids)) _ f), kids_roomy h (filled_below h) (λ u x. below_roomy h u x) t.kids t.last (and_right (within 1 8 (length t.kids)) _ f))

-- A VALID IMAGE'S TREE STANDS: all keys and ends are words, so below 2^32
module _ (w : List ℕ) (small : Small w) where
  facts_good : Facts w → Good top (depth_of w) (tree_of w)
  unfolding set_of
  facts_good f =
      rules_good top (depth_of w) (tree_of w) (small_keys w small (depth_of w) (root_of w)) (small_ends w small (depth_of w) (root_of w)) f.fills f.formed
      (record { ascend = f.ascend; second = f.second; third = f.third; fourth = f.fourth; fifth = f.fifth; nest = f.nest })

  pub valid_stands : T (valid w) → Stands w (set_of w).regions (depth_of w) 0 top (tree_of w) nothing_around
  unfolding set_of
  valid_stands v =
      let f = valid_facts w v in
      let s = good_sound top (depth_of w) (tree_of w) (facts_good f) in
      let p = placed_places (record_used w) 500 (record_places (depth_of w) (tree_of w)) f.records in
      record {
        long = f.long;
        held = read_held (depth_of w) w (root_of w) (keys_end (record_used w) (depth_of w) (tree_of w) p);
        roomy = filled_roomy (depth_of w) (tree_of w) f.fills;
        part = s.part;
        near = here_all (regions (depth_of w) (tree_of w)) 0 top;
        pairs = s.set.pairs;
        well = s.set.well;
        links = subst (λ l. T (linked l)) (sym (append-nil (leaves (depth_of w) (tree_of w)))) f.links;
        pages = subst (Places (page_used w) 160) (sym (append-nil (page_places (depth_of w) (tree_of w)))) (placed_places (page_used w) 160 (page_places (depth_of w) (tree_of w)) f.pages);
        records = subst (Places (record_used w) 500) (sym (append-nil (record_places (depth_of w) (tree_of w)))) p;
      }

-- A TREE THAT STANDS, with right fills, and regions and shares that keep rule 6
module _ (w : List ℕ) (rs : List Region) (h : ℕ) (t : Tree h) (s : Stands w rs h 0 top t nothing_around) (same : regions h t ≡ rs) (root : root_of w ≡ place_of h t) (height : height_of w ≡ suc h) where
  own_records_lem : Places (record_used w) 500 (record_places h t)
  own_records_lem = subst (Places (record_used w) 500) (append-nil (record_places h t)) s.records

  pub tree_is : read_tree h w (root_of w) ≡ t
  tree_is = ap (read_tree h w) root ∙ held_read h w t s.held (keys_short (record_used w) h t own_records_lem)

  -- whatever is said of t is said of the image's own tree
  at_tree : (P : (k : ℕ) → Tree k → Type 0) → P h t → P (depth_of w) (tree_of w)
  at_tree P x =
      let d : h ≡ depth_of w = let e : height_of w - 1 ≡ h = omega arith in sym e in
      subst (λ k. P k (read_tree k w (root_of w))) d (subst (λ u. P h u) (sym tree_is) x)

  pub set_is : set_of w ≡ record { shares = shares_of w; regions = rs }
  unfolding set_of
  set_is = λ i. record { shares = shares_of w; regions = at_tree (λ k u. regions k u ≡ rs) same i }

  sound : Sound top rs h t
  sound = record { part = s.part; held = same; set = record { pairs = subst (Pairs Over) same s.pairs; well = subst (All (Fits top)) same s.well } }

  pub stands_valid : h < 4 → T (filled h t) → T (rule6 (record { shares = shares_of w; regions = rs })) → T (valid w)
  unfolding rule6
  stands_valid u f six =
      let g = good_rules top h t (sound_good top rs h t sound) in
      let six' : T (rule6 (set_of w)) = subst (λ S. T (rule6 S)) (sym set_is) six in
      let a = and_right (all well_formed (set_of w).regions) _ six' in
      let b = and_right (all_pairs nested (set_of w).regions) _ a in
      let c = and_right (all_pairs leveled (set_of w).regions) _ b in
      facts_valid w
      (record {
        long = s.long;
        low = omega arith;
        high = omega arith;
        fills = at_tree (λ k x. T (filled k x)) f;
        links = at_tree (λ k x. T (linked (leaves k x))) (subst (λ l. T (linked l)) (append-nil (leaves h t)) s.links);
        ascend = at_tree (λ k x. T (all_pairs starts_first (regions k x))) g.ascend;
        second = at_tree (λ k x. T (rule2 k x)) g.second;
        third = at_tree (λ k x. T (rule3 k x)) g.third;
        fourth = at_tree (λ k x. T (rule4 k x)) g.fourth;
        fifth = at_tree (λ k x. T (rule5 k x)) g.fifth;
        formed = and_left (all well_formed (set_of w).regions) _ six';
        nest = and_left (all_pairs nested (set_of w).regions) _ a;
        level = and_left (all_pairs leveled (set_of w).regions) _ b;
        kept = and_left (shares_kept 16 (set_of w)) _ c;
        sums = and_right (shares_kept 16 (set_of w)) _ c;
        pages = at_tree (λ k x. T (placed (page_used w) 160 (page_places k x)))
            (places_placed (page_used w) 160 (page_places h t) (subst (Places (page_used w) 160) (append-nil (page_places h t)) s.pages));
        records = at_tree (λ k x. T (placed (record_used w) 500 (record_places k x))) (places_placed (record_used w) 500 (record_places h t) own_records_lem);
      })
