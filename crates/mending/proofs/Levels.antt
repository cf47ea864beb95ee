-- A split and a merge of leaves or of inner pages: which of the two it is, the height says.
-- Assumes nothing.
use Prim.Native.Nat.{ℕ, zero, suc, ◌+◌, ◌≤◌, ◌<◌}
use mathlib.Core.Path.{◌≡◌}
use mathlib.Core.List.{List}
use lib.ListN.{length}
use native.Mathlib.Omega.{arith}
use Rattle.steps.specs.Steps.{size, moved, ChildAt, page_here, Split, PairAt, Merged}
use Rattle.room.proofs.Becoming.{split_records}
use Rattle.room.proofs.Records.{idle_long}
use Rattle.split.specs.Ready.{LeafReady, InnerReady}
use Rattle.merge.specs.Moves.{LeavesFit, InnersFit}
use Rattle.mending.specs.Mends.{Room, SplitAsk, MergeAsk}

module _ (w : List ℕ) (q j inner : ℕ) where
  -- MERGE
  pub leaves_fit : (h : ℕ) → moved h ≡ inner → (p : PairAt w h q j) → size h p.left + inner + size h p.right ≤ 9 → inner ≡ 0 → LeavesFit w q j
  leaves_fit zero l p f z = record { pair = p; fit = omega arith }
  leaves_fit (suc h) l p f z = absurd (omega arith)

  pub ask_leaves : MergeAsk w q j inner → inner ≡ 0 → LeavesFit w q j
  ask_leaves s z = leaves_fit s.h s.level s.pair s.fit z

  pub inners_fit : (h : ℕ) → moved h ≡ inner → (p : PairAt w h q j) → size h p.left + inner + size h p.right ≤ 9 → (inner ≡ 0 → ⊥) → InnersFit w q j
  inners_fit zero l p f z = absurd (omega arith)
  inners_fit (suc h) l p f z = record { h = h; pair = p; fit = omega arith }

  pub ask_inners : MergeAsk w q j inner → (inner ≡ 0 → ⊥) → InnersFit w q j
  ask_inners s z = inners_fit s.h s.level s.pair s.fit z

  pub leaves_at_lem : (w' : List ℕ) → inner ≡ 0 → ((s : PairAt w 0 q j) → Merged w w' 0 q j s) → (h : ℕ) → moved h ≡ inner → (p : PairAt w h q j) → Merged w w' h q j p
  leaves_at_lem w' z f zero l p = f p
  leaves_at_lem w' z f (suc h) l p = absurd (omega arith)

  pub leaves_merged : (w' : List ℕ) → inner ≡ 0 → ((s : PairAt w 0 q j) → Merged w w' 0 q j s) → (s : MergeAsk w q j inner) → Merged w w' s.h q j s.pair
  leaves_merged w' z f s = leaves_at_lem w' z f s.h s.level s.pair

  pub inners_at : (w' : List ℕ) → (inner ≡ 0 → ⊥) → ((h : ℕ) (s : PairAt w (suc h) q j) → Merged w w' (suc h) q j s) → (h : ℕ) → moved h ≡ inner → (p : PairAt w h q j) → Merged w w' h q j p
  inners_at w' z f zero l p = absurd (omega arith)
  inners_at w' z f (suc h) l p = f h p

  pub inners_merged : (w' : List ℕ) → (inner ≡ 0 → ⊥) → ((h : ℕ) (s : PairAt w (suc h) q j) → Merged w w' (suc h) q j s) → (s : MergeAsk w q j inner) → Merged w w' s.h q j s.pair
  inners_merged w' z f s = inners_at w' z f s.h s.level s.pair

-- SPLIT
module _ (w : List ℕ) (q i c inner : ℕ) where
  abbrev pub RoomAt : (h : ℕ) → ChildAt w h q i → Type 0
  RoomAt h s = Room s.rs h s.lo s.hi (page_here s) s.o

  abbrev pub leaf_ready : (s : ChildAt w 0 q i) → RoomAt 0 s → 1 ≤ c → c < length s.child.entries → LeafReady w q i c
  leaf_ready s r low high =
      record {
        child_at = s;
        nested = r.nested;
        room = r.few;
        low = low;
        high = high;
        free_page = omega (arith, r.pages);
        free_records = omega (arith, split_records w s.rs s.lo s.hi q s.pre s.post s.child s.o s.stands r.records, idle_long s.child);
      }

  abbrev pub inner_ready : (h : ℕ) (s : ChildAt w (suc h) q i) → RoomAt (suc h) s → c < length s.child.kids → InnerReady w h q i c
  inner_ready h s r high = record { child_at = s; nested = r.nested; room = r.few; high = high; free_page = omega (arith, r.pages) }

  pub leaf_at_lem : (h : ℕ) → moved h ≡ inner → (s : ChildAt w h q i) → RoomAt h s → 1 ≤ c + inner → c < size h s.child → inner ≡ 0 → LeafReady w q i c
  leaf_at_lem zero l s r low high z = leaf_ready s r (omega arith) high
  leaf_at_lem (suc h) l s r low high z = absurd (omega arith)

  pub ask_leaf : SplitAsk w q i c inner → inner ≡ 0 → LeafReady w q i c
  ask_leaf s z = leaf_at_lem s.h s.level s.child_at s.room s.low s.high z

  pub inner_at_lem : (h : ℕ) → moved h ≡ inner → (s : ChildAt w h q i) → RoomAt h s → c < size h s.child → (inner ≡ 0 → ⊥) → (k : ℕ) × InnerReady w k q i c
  inner_at_lem zero l s r high z = absurd (omega arith)
  inner_at_lem (suc h) l s r high z = (h, inner_ready h s r high)

  pub ask_inner : SplitAsk w q i c inner → (inner ≡ 0 → ⊥) → (k : ℕ) × InnerReady w k q i c
  ask_inner s z = inner_at_lem s.h s.level s.child_at s.room s.high z

  pub leaf_was : (w' : List ℕ) → inner ≡ 0 → ((s : LeafReady w q i c) → Split w w' 0 q i c s.child_at) → (h : ℕ) → moved h ≡ inner → (s : ChildAt w h q i) → RoomAt h s → 1 ≤ c + inner → c < size h s.child
      → Split w w' h q i c s
  leaf_was w' z f zero l s r low high = f (leaf_ready s r (omega arith) high)
  leaf_was w' z f (suc h) l s r low high = absurd (omega arith)

  pub leaf_split : (w' : List ℕ) → inner ≡ 0 → ((s : LeafReady w q i c) → Split w w' 0 q i c s.child_at) → (s : SplitAsk w q i c inner) → Split w w' s.h q i c s.child_at
  leaf_split w' z f s = leaf_was w' z f s.h s.level s.child_at s.room s.low s.high

  pub inner_was : (w' : List ℕ) → (inner ≡ 0 → ⊥) → ((h : ℕ) (s : InnerReady w h q i c) → Split w w' (suc h) q i c s.child_at) → (h : ℕ) → moved h ≡ inner → (s : ChildAt w h q i) → RoomAt h s → c < size h s.child
      → Split w w' h q i c s
  inner_was w' z f zero l s r high = absurd (omega arith)
  inner_was w' z f (suc h) l s r high = f h (inner_ready h s r high)

  pub inner_split : (w' : List ℕ) → (inner ≡ 0 → ⊥) → ((h : ℕ) (s : InnerReady w h q i c) → Split w w' (suc h) q i c s.child_at) → (s : SplitAsk w q i c inner) → Split w w' s.h q i c s.child_at
  inner_split w' z f s = inner_was w' z f s.h s.level s.child_at s.room s.high
