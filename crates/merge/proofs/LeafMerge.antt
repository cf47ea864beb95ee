-- Two leaves as one: what `leaves` asks its callees for, and what it leaves.
-- Assumes nothing.
use Prim.Native.Nat.{ℕ, ◌+◌, ◌≤◌}
use mathlib.Core.Path.{◌≡◌, refl, sym, ap, ap₂, ◌∙◌, subst}
use mathlib.Core.List.{List, ◌++◌, map}
use lib.Dec.{T}
use lib.ListN.{length, length-append, length-map}
use native.Mathlib.Omega.{arith}
use Rattle.words.specs.Lists.{count}
use Rattle.words.proofs.Listed.{map_append}
use Rattle.words.proofs.Counted.{count_append}
use Rattle.regions.specs.declared.Region.{Region}
use Rattle.pages.specs.Layout.{page_of, fill_of, mark_of, next_of, child_in}
use Rattle.xrtree.specs.Tree.{Leaf, listed, region_of, regions, leaves}
use Rattle.xrtree.specs.Rules.{linked}
use Rattle.xrtree.specs.Claims.{leaf_at}
use Rattle.xrtree.specs.Local.{Part}
use Rattle.xrtree.specs.Moves.{clear}
use Rattle.xrtree.proofs.Merge.{regions_clear}
use Rattle.image.specs.Read.{record_region}
use Rattle.store.specs.Store.{put_page, free_page}
use Rattle.newpages.specs.Pages.{entries_of, spares_of, IsLeaf}
use Rattle.holding.specs.Held.{Chain, LeafHeld, Held}
use Rattle.records.specs.Touched.{AllUsed}
use Rattle.records.specs.Kept.{Dropped}
use Rattle.records.proofs.Chains.{places_are}
use Rattle.records.proofs.Marks.{touched_in, touched_then, uses_then}
use Rattle.standing.specs.Stands.{top}
use Rattle.steps.specs.Steps.{PairAt, Merged}
use Rattle.handing.specs.declared.Handed.{Handed}
use Rattle.handing.specs.Moves.{next_took, rest_list, rest_places, Leaving, HandedOn}
use Rattle.handing.proofs.Clearing.{list_at, entries_long}
use Rattle.merge.specs.Moves.{LeavesFit}
use Rattle.merge.proofs.Stays.{every_pair, linked_one}
use Rattle.merge.proofs.Assemble.{page_then, page_now, Made, three, assemble}
use Rattle.merge.proofs.Parts.{leaf_part}
use Rattle.merge.proofs.Pairs.{stored, page_facts, part_back, leaving_pair, rest_used, rest_fewer, took_same, took_records, above_made, left_is, right_is}

module _ {w : List ℕ} {q j : ℕ} (s : PairAt w 0 q j) where
  abbrev pub leaf_now : Leaf
  leaf_now = leaf_at s.left.place s.right.next (map (clear (rest_list s.post s.key)) (s.left.entries ++ s.right.entries))

  leaves_held : LeafHeld (page_of w s.left.place) s.left × LeafHeld (page_of w s.right.place) s.right
  leaves_held = every_pair (Held w 0) s.pre s.post s.left s.right s.key s.stands.held.1

  pub fill_left : fill_of (page_of w s.left.place) ≡ length s.left.entries
  fill_left = sym (entries_long (page_of w s.left.place) 0 (fill_of (page_of w s.left.place))) ∙ ap length leaves_held.0.entries_are

  pub fill_right : fill_of (page_of w s.right.place) ≡ length s.right.entries
  fill_right = sym (entries_long (page_of w s.right.place) 0 (fill_of (page_of w s.right.place))) ∙ ap length leaves_held.1.entries_are

  regions_now : regions 0 leaf_now ≡ regions 0 s.left ++ regions 0 s.right
  unfolding listed
  regions_now = regions_clear (rest_list s.post s.key) (s.left.entries ++ s.right.entries) ∙ map_append region_of s.left.entries s.right.entries

  links_joined : (us vs : List Leaf) → T (linked (us ++ ((leaves 0 s.left ++ leaves 0 s.right) ++ vs))) → T (linked (us ++ (leaves 0 leaf_now ++ vs)))
  unfolding listed
  links_joined us vs t =
      linked_one s.left.place s.right.next s.left.next s.right.place leaf_now.entries s.left.entries s.right.entries us vs t

  part_now : Part s.rs 1 s.lo s.hi (page_now s leaf_now (next_took s.post s.key))
  part_now =
      part_back s leaf_now (next_took s.post s.key) regions_now
      (leaf_part top (regions 1 (page_then s)) s.stands.pairs s.lo s.hi q s.left.place s.right.next s.left.place s.left.next s.right.place s.right.next
      s.pre s.left.entries s.right.entries s.key s.post (page_facts s))

  long_now : length leaf_now.entries ≡ length s.left.entries + length s.right.entries
  long_now = length-map (s.left.entries ++ s.right.entries) (clear (rest_list s.post s.key)) ∙ length-append s.left.entries s.right.entries

  pub leaf_made : (w₁ w₂ joined leaf : List ℕ) (r : Handed) → HandedOn w w₁ (page_of w q) j (leaving_pair s) r
      → fill_of (page_of w s.left.place) + fill_of (page_of w s.right.place) ≤ 9
      → IsLeaf joined (mark_of (page_of w s.left.place)) (fill_of (page_of w s.left.place) + fill_of (page_of w s.right.place)) (next_of (page_of w s.right.place))
      (entries_of (page_of w s.left.place) ++ entries_of (page_of w s.right.place)) (spares_of (page_of w s.left.place) ++ spares_of (page_of w s.right.place))
      → IsLeaf leaf (mark_of joined) (fill_of joined) (next_of joined) (map (clear (list_at w₁ r.rest.head)) (entries_of joined)) (spares_of joined)
      → ((qs : List ℕ) → Chain w₁ r.rest.head qs → AllUsed w₁ qs → Dropped w₁ w₂ qs)
      → Made w w₂ 0 q j s leaf r.page
  unfolding count
  leaf_made w₁ w₂ joined leaf r m fit a b c =
      let k = m.rest_held in
      let d = c (rest_places s.post s.key) k.chain (rest_used s m.uses) in
      let l : list_at w₁ r.rest.head ≡ rest_list s.post s.key = ap (map (record_region w₁)) (places_are k.chain) ∙ sym k.list_is in
      record {
        joined = leaf_now;
        key' = next_took s.post s.key;
        next_same = took_same s.post s.key;
        freed = rest_places s.post s.key;
        touched = touched_in (touched_then m.touched d.touched) s.key.places (λ x a z. omega (arith, count_both x, rest_fewer x s.post s.key));
        uses = uses_then m.uses d.uses;
        joined_mark = b.mark_is ∙ a.mark_is;
        above_mark = m.mark_is;
        joined_place = refl;
        joined_held = record {
          entries_are = b.entries_are ∙ ap (λ (z : List Region). map (clear z) (entries_of joined)) l
              ∙ ap (map (clear (rest_list s.post s.key))) (a.entries_are ∙ ap₂ ◌++◌ leaves_held.0.entries_are leaves_held.1.entries_are);
          next_is = b.next_is ∙ a.next_is ∙ leaves_held.1.next_is;
        };
        above_held = above_made s m d.touched leaf_now refl;
        part = part_now;
        same_regions_lem = regions_now;
        same_links = links_joined;
        below_pages = refl;
        below_records = refl;
        own_records_lem = λ x. omega (arith, took_records x s.post s.key);
        roomy = omega (arith, long_now, fill_left, fill_right);
        size_joined = omega (arith, long_now);
        kids_filled = λ f g. tt;
      }
    where
      count_both : (x : ℕ) → count x (s.key.places ++ rest_places s.post s.key) ≡ count x s.key.places + count x (rest_places s.post s.key)
      count_both x = count_append x s.key.places (rest_places s.post s.key)

-- THE CALLEES of `leaves`: both leaves fit into one
pub leaves_fit : {w : List ℕ} {q j : ℕ} → LeavesFit w q j → {page a b : List ℕ} {left right : ℕ} → page ≡ page_of w q
    → left ≡ child_in page j → right ≡ child_in page (j + 1) → a ≡ page_of w left → b ≡ page_of w right → fill_of a + fill_of b ≤ 9
leaves_fit {w} f e el er ea eb =
    let s = f.pair in
    omega (arith, f.fit, ap fill_of (ea ∙ ap (page_of w) (left_is s e el)), ap fill_of (eb ∙ ap (page_of w) (right_is s e er)), fill_left s, fill_right s)

pub leaves_law : (w w₁ w₂ w₅ page a b joined leaf : List ℕ) (q j left right : ℕ) (r : Handed) → LeavesFit w q j
    → page ≡ page_of w q → left ≡ child_in page j → right ≡ child_in page (j + 1) → a ≡ page_of w left → b ≡ page_of w right
    → IsLeaf joined (mark_of a) (fill_of a + fill_of b) (next_of b) (entries_of a ++ entries_of b) (spares_of a ++ spares_of b)
    → ((s : Leaving w page j) → HandedOn w w₁ page j s r)
    → IsLeaf leaf (mark_of joined) (fill_of joined) (next_of joined) (map (clear (list_at w₁ r.rest.head)) (entries_of joined)) (spares_of joined)
    → ((qs : List ℕ) → Chain w₁ r.rest.head qs → AllUsed w₁ qs → Dropped w₁ w₂ qs)
    → length w₂ ≡ 12288 → length leaf ≡ 57
    → w₅ ≡ free_page (put_page (put_page w₂ left leaf) q r.page) right
    → (s : PairAt w 0 q j) → Merged w w₅ 0 q j s
leaves_law w w₁ w₂ w₅ page a b joined leaf q j left right r f e el er ea eb i g k d l n e₅ s =
    let x = left_is s e el in
    let y = right_is s e er in
    let a' : a ≡ page_of w s.left.place = ea ∙ ap (page_of w) x in
    let b' : b ≡ page_of w s.right.place = eb ∙ ap (page_of w) y in
    let m = subst (λ ws. (s : Leaving w ws j) → HandedOn w w₁ ws j s r) e g (leaving_pair s) in
    let t = three s in
    let made = leaf_made s w₁ w₂ joined leaf r m
    (subst (λ v. fill_of (page_of w s.left.place) + fill_of v ≤ 9) b' (subst (λ v. fill_of v + fill_of b ≤ 9) a' (leaves_fit f e el er ea eb)))
    (subst (λ v. IsLeaf joined (mark_of (page_of w s.left.place)) (fill_of (page_of w s.left.place) + fill_of v) (next_of v) (entries_of (page_of w s.left.place) ++ entries_of v) (spares_of (page_of w s.left.place) ++ spares_of v)) b'
    (subst (λ v. IsLeaf joined (mark_of v) (fill_of v + fill_of b) (next_of b) (entries_of v ++ entries_of b) (spares_of v ++ spares_of b)) a' i)) k d in
    assemble made
    (stored w₂ w₅ s.left.place q s.right.place leaf r.page l n m.long t.left_low t.left_high t.above_low t.above_high t.right_low t.right_high
    t.above_left t.above_right t.left_right (e₅ ∙ ap₂ (λ p k. free_page (put_page (put_page w₂ p leaf) q r.page) k) x y))
