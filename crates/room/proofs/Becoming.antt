-- A part that becomes another: one after the other, below a page and back up to it, and by the steps that split and merge its children.
-- Assumes nothing.
use Prim.Native.Nat.{ℕ, suc, ◌+◌, ◌≤◌}
use mathlib.Core.Path.{◌≡◌, refl, ap, ◌∙◌}
use mathlib.Core.List.{List, [], ◌∷◌, ◌++◌}
use lib.ListN.{length, length-append}
use native.Mathlib.Omega.{arith}
use Rattle.regions.specs.declared.Region.{Region}
use Rattle.xrtree.specs.Tree.{Key, Leaf, Tree, list_regions, list_pages, page_places, record_places}
use Rattle.xrtree.specs.Holes.{lo_after, Post, fill, hi_post}
use Rattle.xrtree.proofs.Holes.{before, after, listed_parts, listed_plug}
use Rattle.standing.specs.Stands.{Around, Stands, Spares}
use Rattle.standing.proofs.Child.{around_hole, stands_hole, stands_again, spares_whole}
use Rattle.steps.specs.Steps.{rekeyed, ChildAt, page_here, Split, PairAt, Merged}
use Rattle.room.specs.Ways.{idle, RecordRoom, Becomes}
use Rattle.room.proofs.Pages.{pages_hole, records_hole}
use Rattle.room.proofs.Records.{room_hole, room_idle}

pub spares_none : (w : List ℕ) (o : Around) → Spares w w o
spares_none w o = record { long = refl; root = refl; height = refl; shares = refl; pages = λ q h. refl; records = λ q h. refl }

pub spares_both : {w w' w'' : List ℕ} {o : Around} → Spares w w' o → Spares w' w'' o → Spares w w'' o
spares_both a b =
    record {
      long = b.long ∙ a.long;
      root = b.root ∙ a.root;
      height = b.height ∙ a.height;
      shares = b.shares ∙ a.shares;
      pages = λ q h. b.pages q h ∙ a.pages q h;
      records = λ q h. b.records q h ∙ a.records q h;
    }

module _ {rs : List Region} {h lo hi : ℕ} {o : Around} where
  pub becomes_none : {w : List ℕ} {t : Tree h} → Stands w rs h lo hi t o → Becomes w w rs h lo hi o t t
  becomes_none {w} s = record { stands = s; place = refl; same = refl; spares = spares_none w o }

  pub becomes_both : {w w' w'' : List ℕ} {t t' t'' : Tree h} → Becomes w w' rs h lo hi o t t' → Becomes w' w'' rs h lo hi o t' t'' → Becomes w w'' rs h lo hi o t t''
  becomes_both a b = record { stands = b.stands; place = b.place ∙ a.place; same = b.same ∙ a.same; spares = spares_both a.spares b.spares }

-- WHAT STANDS AROUND A CHILD of a page
abbrev pub beside : (h q : ℕ) → List (Tree h × Key) → Post (Tree h) → Around → Around
beside h q pre post o = around_hole 1 h (q, pre, post, tt) o

module _ (w : List ℕ) (rs : List Region) (h lo hi q : ℕ) (pre : List (Tree h × Key)) (post : Post (Tree h)) (o : Around) where
  pub stands_child : (t : Tree h) → Stands w rs (suc h) lo hi (fill q pre post t) o → Stands w rs h (lo_after lo pre) (hi_post hi post) t (beside h q pre post o)
  stands_child t s = stands_hole w rs 1 h lo hi (q, pre, post, tt) t o s

  pub room_child : (t : Tree h) → Stands w rs (suc h) lo hi (fill q pre post t) o → RecordRoom rs lo hi o → RecordRoom rs (lo_after lo pre) (hi_post hi post) (beside h q pre post o)
  room_child t s r = room_hole w rs 1 h lo hi (q, pre, post, tt) t o s r

  -- a child becomes another: so does the page
  pub becomes_page : (w' : List ℕ) (t t' : Tree h) → Stands w rs (suc h) lo hi (fill q pre post t) o → Becomes w w' rs h (lo_after lo pre) (hi_post hi post) (beside h q pre post o) t t'
      → Becomes w w' rs (suc h) lo hi o (fill q pre post t) (fill q pre post t')
  becomes_page w' t t' s b =
      record {
        stands = stands_again w rs 1 h lo hi (q, pre, post, tt) t o s w' t' b.spares b.place b.same b.stands;
        place = refl;
        same = listed_plug list_regions 1 h (q, pre, post, tt) t' t b.same;
        spares = spares_whole w rs 1 h lo hi (q, pre, post, tt) t o s w' b.spares;
      }

-- the pages of a page, with another child in the hole; the records of a page and around it, from a child
pub pages_swap : (h q : ℕ) (pre : List (Tree h × Key)) (post : Post (Tree h)) (t t' : Tree h)
    → length (page_places (suc h) (fill q pre post t')) + length (page_places h t) ≡ length (page_places (suc h) (fill q pre post t)) + length (page_places h t')
pages_swap h q pre post t t' =
    let b = before list_pages 1 h (q, pre, post, tt) in
    let a = after list_pages 1 h (q, pre, post, tt) in
    omega (
      arith,
      ap length (listed_parts list_pages 1 h (q, pre, post, tt) t),
      ap length (listed_parts list_pages 1 h (q, pre, post, tt) t'),
      length-append b (page_places h t ++ a),
      length-append b (page_places h t' ++ a),
      length-append (page_places h t) a,
      length-append (page_places h t') a,
    )

pub pages_child : (h q : ℕ) (pre : List (Tree h × Key)) (post : Post (Tree h)) (t : Tree h) (o : Around)
    → length (page_places h t ++ (beside h q pre post o).pages) ≡ length (page_places (suc h) (fill q pre post t) ++ o.pages)
pages_child h q pre post t o = pages_hole 1 h (q, pre, post, tt) t o

pub records_child : (h q : ℕ) (pre : List (Tree h × Key)) (post : Post (Tree h)) (t : Tree h) (o : Around)
    → length (record_places h t ++ (beside h q pre post o).records) ≡ length (record_places (suc h) (fill q pre post t) ++ o.records)
records_child h q pre post t o = records_hole 1 h (q, pre, post, tt) t o

-- A LEAF'S SPLIT FINDS ITS RECORDS: those in use, and one for each of the leaf's entries that is in no list
pub split_records : (w : List ℕ) (rs : List Region) (lo hi q : ℕ) (pre : List (Leaf × Key)) (post : Post Leaf) (t : Leaf) (o : Around)
    → Stands w rs 1 lo hi (fill q pre post t) o → RecordRoom rs lo hi o → length (record_places 1 (fill q pre post t) ++ o.records) + length (idle 0 t) ≤ 500
split_records w rs lo hi q pre post t o s r =
    omega (
      arith,
      records_child 0 q pre post t o,
      room_idle w rs 0 (lo_after lo pre) (hi_post hi post) t (beside 0 q pre post o) (stands_child w rs 0 lo hi q pre post o t s) (room_child w rs 0 lo hi q pre post o t s r),
    )

-- BY A SPLIT, BY A MERGE
abbrev pub split_page : {w w' : List ℕ} {h q i c : ℕ} (s : ChildAt w h q i) → Split w w' h q i c s → Tree (suc h)
split_page {q = q} s n = fill q (s.pre ++ (n.left, n.key) ∷ []) (rekeyed s.post n.key') n.right

pub split_becomes : {w w' : List ℕ} {h q i c : ℕ} (s : ChildAt w h q i) (n : Split w w' h q i c s) → Becomes w w' s.rs (suc h) s.lo s.hi s.o (page_here s) (split_page s n)
split_becomes s n = record { stands = n.stands; place = refl; same = n.same; spares = n.spares }

abbrev pub pair_page : {w : List ℕ} {h q j : ℕ} → PairAt w h q j → Tree (suc h)
pair_page {q = q} s = fill q (s.pre ++ (s.left, s.key) ∷ []) s.post s.right

abbrev pub merged_page : {w w' : List ℕ} {h q j : ℕ} (s : PairAt w h q j) → Merged w w' h q j s → Tree (suc h)
merged_page {q = q} s n = fill q s.pre (rekeyed s.post n.key') n.joined

pub merged_becomes : {w w' : List ℕ} {h q j : ℕ} (s : PairAt w h q j) (n : Merged w w' h q j s) → Becomes w w' s.rs (suc h) s.lo s.hi s.o (pair_page s) (merged_page s n)
merged_becomes s n = record { stands = n.stands; place = refl; same = n.same; spares = n.spares }
