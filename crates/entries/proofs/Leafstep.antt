-- The leaf at the end of a start's way is stored with other entries: all else is as it was.
-- Assumes nothing.
use Prim.Native.Nat.{ℕ, ◌+◌, ◌≤◌}
use mathlib.Core.Path.{◌≡◌, refl, sym, ap, ap₂, ◌∙◌, subst}
use mathlib.Core.Bool.{Bool, ◌&&◌, not}
use mathlib.Core.List.{List, [], ◌∷◌, ◌++◌}
use lib.Dec.{T, eqb}
use lib.ListN.{length}
use native.Mathlib.Omega.{arith}
use native.Mathlib.Decide.{ℕ_discrete}
use Rattle.words.specs.Lists.{All, count}
use Rattle.words.proofs.Listed.{all_every}
use Rattle.words.proofs.Counted.{count_same, all_off}
use Rattle.xrtree.specs.Tree.{Entry, Leaf, Tree, Listing, listed, list_pages, list_records, list_leaves, leaves, page_places, record_places}
use Rattle.xrtree.specs.Rules.{linked, first_place}
use Rattle.pages.specs.Layout.{page_of, mark_of, page_used}
use Rattle.holding.specs.Held.{place_of, LeafHeld, Held}
use Rattle.holding.proofs.Frames.{SamePage, SameRecord}
use Rattle.standing.specs.Stands.{Places, Roomy}
use Rattle.standing.proofs.Counting.{places_same}
use Rattle.standing.proofs.Counting.{place_once}
use Rattle.store.specs.Store.{put_page}
use Rattle.store.proofs.Frames.{put_page_long, put_page_here, put_page_other, put_page_record, put_page_head, put_page_record_used}
use Rattle.entries.specs.Ways.{Below, leaf_on, at_leaf, renew}
use Rattle.entries.proofs.Holes.{ahead, behind, listed_within, place_within, held_within, roomy_within, count_within}
use Rattle.entries.proofs.Leafs.{way_of}
use Rattle.entries.specs.Lies.{Lies, Stepped}

-- links do not mind a leaf's entries
same_first : (xs ys : List Leaf) (l l' : Leaf) → l'.place ≡ l.place → first_place (xs ++ l' ∷ ys) ≡ first_place (xs ++ l ∷ ys)
unfolding first_place
same_first [] ys l l' e = e
same_first (x ∷ xs) ys l l' e = refl

same_links : (xs ys : List Leaf) (l l' : Leaf) → l'.place ≡ l.place → l'.next ≡ l.next → linked (xs ++ l' ∷ ys) ≡ linked (xs ++ l ∷ ys)
unfolding linked
same_links [] ys l l' e n = ap (λ m. eqb m (first_place ys) && linked ys) n
same_links (x ∷ xs) ys l l' e n = ap₂ ◌&&◌ (ap (eqb x.next) (same_first xs ys l l' e)) (same_links xs ys l l' e n)

-- a page that is stored again with its mark is in use as before
pub stored_used : (w : List ℕ) (p : ℕ) (ws : List ℕ) → length w ≡ 12288 → length ws ≡ 57 → p ≤ 160 → mark_of ws ≡ mark_of (page_of w p) → (i : ℕ) → page_used (put_page w p ws) i ≡ page_used w i
unfolding page_used
stored_used w p ws l f h m i =
    elim (ℕ_discrete p i) [
      | yes e ↦ subst (λ j. not (eqb (mark_of (page_of (put_page w p ws) j)) 0) ≡ not (eqb (mark_of (page_of w j)) 0)) e (ap (λ x. not (eqb x 0)) (ap mark_of (put_page_here w p ws f l h) ∙ m))
      | no e ↦ ap (λ x. not (eqb (mark_of x) 0)) (put_page_other w p ws f i e)
    ]

module _ (g : List Entry → List Entry) (x h : ℕ) (t : Tree h) where
  -- LISTINGS that do not look into a leaf
  at_listed : {B : Type 0} (L : Listing B) → ((l : Leaf) → L.on_leaf (renew g l) ≡ L.on_leaf l) → listed L h (at_leaf (renew g) x h t) ≡ listed L h t
  at_listed L same =
      let v = way_of x h t in
      let l = leaf_on x h t in
      ap (listed L h) (v.becomes (renew g)) ∙ listed_within L v.around (renew g l) ∙ ap (λ z. ahead L v.around ++ (z ++ behind L v.around)) (leaf L same l)
      ∙ sym (ap (listed L h) v.was ∙ listed_within L v.around l)
    where
      leaf : {B : Type 0} (L : Listing B) → ((l : Leaf) → L.on_leaf (renew g l) ≡ L.on_leaf l) → (l : Leaf) → listed L 0 (renew g l) ≡ listed L 0 l
      leaf L same l = unfold listed in same l

  pub at_pages : page_places h (at_leaf (renew g) x h t) ≡ page_places h t
  at_pages = at_listed list_pages (λ l. refl)

  at_records : record_places h (at_leaf (renew g) x h t) ≡ record_places h t
  at_records = at_listed list_records (λ l. refl)

  at_links : linked (leaves h (at_leaf (renew g) x h t)) ≡ linked (leaves h t)
  at_links =
      let v = way_of x h t in
      let l = leaf_on x h t in
      ap linked (ap (leaves h) (v.becomes (renew g)) ∙ listed_within list_leaves v.around (renew g l))
      ∙ links v.around l
      ∙ sym (ap linked (ap (leaves h) v.was ∙ listed_within list_leaves v.around l))
    where
      links : (c : Below 0 h) (l : Leaf) → linked (ahead list_leaves c ++ (leaves 0 (renew g l) ++ behind list_leaves c)) ≡ linked (ahead list_leaves c ++ (leaves 0 l ++ behind list_leaves c))
      links c l = unfold listed in same_links (ahead list_leaves c) (behind list_leaves c) l (renew g l) refl refl

  at_place : place_of h (at_leaf (renew g) x h t) ≡ place_of h t
  at_place =
      let v = way_of x h t in
      ap (place_of h) (v.becomes (renew g)) ∙ place_within v.around (leaf_on x h t) (renew g (leaf_on x h t)) refl ∙ sym (ap (place_of h) v.was)

  at_roomy : Roomy h t → length (g (leaf_on x h t).entries) ≤ 9 → Roomy h (at_leaf (renew g) x h t)
  at_roomy r m =
      let v = way_of x h t in
      subst (Roomy h) (sym (v.becomes (renew g))) ((roomy_within v.around (leaf_on x h t) (subst (Roomy h) v.was r)).1 (renew g (leaf_on x h t)) m)

  -- the leaf's place is among the pages, once
  leaf_counts : (q : ℕ) → count q (page_places h t) ≡ count q (ahead list_pages (way_of x h t).around) + count q ((leaf_on x h t).place ∷ []) + count q (behind list_pages (way_of x h t).around)
  unfolding listed
  leaf_counts q = let v = way_of x h t in ap (λ u. count q (page_places h u)) v.was ∙ count_within list_pages v.around (leaf_on x h t) q

  pub leaf_range : {used : ℕ → Bool} → Places used 160 (page_places h t) → (1 ≤ (leaf_on x h t).place) × ((leaf_on x h t).place ≤ 160)
  leaf_range p = let q = (leaf_on x h t).place in p.range q (omega (arith, leaf_counts q, count_same q []))

  pub leaf_held : (w : List ℕ) → Held w h t → LeafHeld (page_of w (leaf_on x h t).place) (leaf_on x h t)
  leaf_held w a =
      let v = way_of x h t in
      (held_within w w v.around (leaf_on x h t) (all_every {P = SamePage w w} (λ q. refl) (ahead list_pages v.around)) (all_every {P = SamePage w w} (λ q. refl) (behind list_pages v.around))
      (all_every {P = SameRecord w w} (λ q. refl) (ahead list_records v.around)) (all_every {P = SameRecord w w} (λ q. refl) (behind list_records v.around)) (subst (Held w h) v.was a)).part

  module _ (w ws : List ℕ) (a : Lies w h t) (fits : length ws ≡ 57) (mark : mark_of ws ≡ mark_of (page_of w (leaf_on x h t).place))
      (is : LeafHeld ws (renew g (leaf_on x h t))) (room : length (g (leaf_on x h t).entries) ≤ 9) where
    abbrev p : ℕ
    p = (leaf_on x h t).place

    abbrev w' : List ℕ
    w' = put_page w p ws

    off : (ps : List ℕ) → count p ps ≡ 0 → All (SamePage w w') ps
    off ps z = all_off (SamePage w w') p ps z (λ y n. put_page_other w p ws fits y (λ e. n (sym e)))

    at_held : Held w' h (at_leaf (renew g) x h t)
    at_held =
        let v = way_of x h t in
        let r = leaf_range a.pages in
        let u = place_once a.pages p in
        subst (Held w' h) (sym (v.becomes (renew g)))
        ((held_within w w' v.around (leaf_on x h t)
        (off (ahead list_pages v.around) (omega (arith, leaf_counts p, count_same p []))) (off (behind list_pages v.around) (omega (arith, leaf_counts p, count_same p [])))
        (all_every {P = SameRecord w w'} (λ q. put_page_record w p ws fits r.1 q) (ahead list_records v.around)) (all_every {P = SameRecord w w'} (λ q. put_page_record w p ws fits r.1 q) (behind list_records v.around))
        (subst (Held w h) v.was a.held)).again (renew g (leaf_on x h t)) refl
        (subst (λ z. LeafHeld z (renew g (leaf_on x h t))) (sym (put_page_here w p ws fits a.long r.1)) is))

    pub leaf_step : Stepped w (put_page w (leaf_on x h t).place ws) h t (at_leaf (renew g) x h t)
    leaf_step =
        let r = leaf_range a.pages in
        let k = put_page_head w p ws fits r.0 in
        record {
          lies = record {
            long = put_page_long w p ws fits ∙ a.long;
            held = at_held;
            roomy = at_roomy a.roomy room;
            links = subst T (sym at_links) a.links;
            pages = places_same (λ q. ap (count q) at_pages) (λ i l u. stored_used w p ws a.long fits r.1 mark i) a.pages;
            records = places_same (λ q. ap (count q) at_records) (λ i l u. put_page_record_used w p ws fits r.1 i) a.records;
          };
          place = at_place;
          pages = at_pages;
          root = k.root;
          height = k.height;
          shares = k.shares;
        }
