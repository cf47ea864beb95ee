-- The leaves left and right of the one where x belongs: what starts there.
-- Assumes nothing.
use Prim.Native.Nat.{ℕ, zero, suc, ◌≤◌, ◌<◌}
use mathlib.Core.Path.{◌≡◌, sym, ap, ◌∙◌}
use mathlib.Core.List.{List, [], ◌∷◌, ◌++◌, flat_map, append_assoc}
use lib.Dec.{ltb}
use lib.ListN.{get_or}
use native.Mathlib.Omega.{arith}
use Rattle.words.specs.Lists.{All, Pairs}
use Rattle.words.proofs.Tests.{by_test, lt_of, nlt_of}
use Rattle.words.proofs.Listed.{all_mono, all_append, flat_append, pairs_left, pairs_right_lem, pairs_across}
use Rattle.xrtree.specs.Tree.{Entry, Item, list_items}
use Rattle.xrtree.specs.Tree.Item.{key}
use Rattle.xrtree.proofs.Order.{Apart}
use Rattle.pages.specs.Layout.{page_of, fill_of, key_word, child_in}
use Rattle.image.proofs.Listings.{listed_at, listed_from, listed_leaf, listed_inner}
use Rattle.path.specs.Path.{rank_from, rank_in, down_to}
use Rattle.leaves.specs.Cursors.{list_entries, entries_in}
use Rattle.leaves.proofs.Rows.{list_places, entries_read, entries_read_from, starts_at, starts_from_lem}

abbrev pub Before : ℕ → Entry → Type 0
Before x e = e.region.start < x

abbrev pub Behind : ℕ → Entry → Type 0
Behind x e = x < e.region.start

-- places of leaves, with the one where x belongs
pub record Parted (w : List ℕ) (x : ℕ) (ps : List ℕ) (q : ℕ) : Type 0 where
  pub before : List ℕ
  pub behind : List ℕ
  pub is : ps ≡ before ++ q ∷ behind
  pub low : All (Before x) (flat_map (entries_in w) before)
  pub high : All (Behind x) (flat_map (entries_in w) behind)

module _ (w : List ℕ) (x : ℕ) where
  more_behind : (ps rs : List ℕ) (q : ℕ) → Parted w x ps q → All (Behind x) (flat_map (entries_in w) rs) → Parted w x (ps ++ rs) q
  more_behind ps rs q d a =
      record {
        before = d.before;
        behind = d.behind ++ rs;
        is = ap (◌++ rs) d.is ∙ append_assoc d.before (q ∷ d.behind) rs;
        low = d.low;
        high = rw (flat_append (entries_in w) d.behind rs) (all_append (Behind x) (flat_map (entries_in w) d.behind) (flat_map (entries_in w) rs) d.high a);
      }

  more_before : (rs ps : List ℕ) (q : ℕ) → Parted w x ps q → All (Before x) (flat_map (entries_in w) rs) → Parted w x (rs ++ ps) q
  more_before rs ps q d a =
      record {
        before = rs ++ d.before;
        behind = d.behind;
        is = ap (rs ++◌) d.is ∙ sym (append_assoc rs d.before (q ∷ d.behind));
        low = rw (flat_append (entries_in w) rs d.before) (all_append (Before x) (flat_map (entries_in w) rs) (flat_map (entries_in w) d.before) a d.low);
        high = d.high;
      }

  abbrev Parts : ℕ → ℕ → Type 0
  Parts h p = Pairs Apart (listed_at list_items w h p) → Parted w x (listed_at list_places w h p) (down_to h w x p)

  -- right of a key that is greater, left of a key that is not
  right_of : (h : ℕ) (ws : List ℕ) (i m k : ℕ) → x < k → All (Apart (key k)) (listed_from list_items w h ws i m) → All (Behind x) (flat_map (entries_in w) (listed_from list_places w h ws i m))
  right_of h ws i m k l a =
      rw entries_read_from at
      (all_mono {P = λ (e : Entry). k ≤ e.region.start} {Q = Behind x} (λ e b. omega arith) (listed_from list_entries w h ws i m) (starts_from_lem w (Apart (key k)) h ws i m a))

  left_of : (h p k : ℕ) (rest : List Item) → k ≤ x → All (λ (i : Item). All (Apart i) (key k ∷ rest)) (listed_at list_items w h p)
      → All (Before x) (flat_map (entries_in w) (listed_at list_places w h p))
  left_of h p k rest l a =
      rw entries_read at
      (all_mono {P = λ (e : Entry). e.region.start < k} {Q = Before x} (λ e b. omega arith) (listed_at list_entries w h p)
      (starts_at w (λ (i : Item). Apart i (key k)) h p (all_mono (λ i b. b.0) (listed_at list_items w h p) a)))

  parted_from : (h : ℕ) → ((q : ℕ) → Parts h q) → (ws : List ℕ) (i m : ℕ) → Pairs Apart (listed_from list_items w h ws i m)
      → Parted w x (listed_from list_places w h ws i m) (down_to h w x (child_in ws (rank_from ws x i m)))
  unfolding listed_from rank_from
  parted_from h ih ws i zero a = ih (child_in ws i) a
  parted_from h ih ws i (suc m) a =
      let k = get_or ws (key_word i) 0 in
      let c = child_in ws i in
      let here = listed_at list_items w h c in
      let rest = listed_from list_items w h ws (suc i) m in
      let r = pairs_right_lem Apart here (key k ∷ rest) a in
      by_test (ltb x k)
      (λ t.
      rw t
      (more_behind (listed_at list_places w h c) (listed_from list_places w h ws (suc i) m) (down_to h w x c) (ih c (pairs_left Apart here (key k ∷ rest) a))
      (right_of h ws (suc i) m k (lt_of x k t) r.0)))
      (λ t.
      rw t
      (more_before (listed_at list_places w h c) (listed_from list_places w h ws (suc i) m) (down_to h w x (child_in ws (rank_from ws x (suc i) m))) (parted_from h ih ws (suc i) m r.1)
      (left_of h c k rest (nlt_of x k t) (pairs_across Apart here (key k ∷ rest) a))))

  pub parted : (h p : ℕ) → Parts h p
  unfolding down_to rank_in flat_map
  parted zero p a = record { before = []; behind = []; is = listed_leaf list_places w p; low = tt; high = tt }
  parted (suc h) p a =
      rw (listed_inner list_places w h p) (parted_from h (λ q b. parted h q b) (page_of w p) 0 (fill_of (page_of w p)) (rw (listed_inner list_items w h p) at a))
