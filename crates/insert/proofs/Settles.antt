-- A child in its page: what its split asks, and what is there afterwards.
-- Assumes nothing.
use Prim.Native.Nat.{ℕ, zero, suc}
use mathlib.Core.Path.{◌≡◌, refl, sym, ap, ◌∙◌}
use mathlib.Core.List.{List}
use native.Mathlib.Omega.{arith}
use Rattle.pages.specs.Layout.{page_of, fill_of}
use Rattle.holding.specs.Held.{Held}
use Rattle.steps.specs.Steps.{size, Split}
use Rattle.room.proofs.Fills.{every_fill}
use Rattle.room.proofs.Records.{idle_long}
use Rattle.room.proofs.Becoming.{split_records}
use Rattle.split.specs.Ready.{LeafReady, InnerReady}
use Rattle.insert.specs.Spreads.{Settling, Settled}
use Rattle.insert.proofs.Reading.{held_size}

module _ (w : List ℕ) (q i p low : ℕ) where
  -- what the child's page says of its size
  pub child_size : (h : ℕ) (s : Settling w h q i p low) → fill_of (page_of w p) ≡ size h s.child_at.child
  child_size h s =
      let a = s.child_at in
      ap (λ n. fill_of (page_of w n)) s.place ∙ held_size w h a.child (every_fill (Held w h) a.pre a.post a.child a.stands.held.1).1

  abbrev leaf_ready : (s : Settling w 0 q i p low) → size 0 s.child_at.child ≡ 9 → LeafReady w q i 4
  leaf_ready s n =
      record {
        child_at = s.child_at;
        nested = s.nested;
        room = s.room;
        low = omega arith;
        high = omega arith;
        free_page = omega (arith, s.pages);
        free_records = omega (
          arith,
          idle_long s.child_at.child,
          split_records w s.child_at.rs s.child_at.lo s.child_at.hi q s.child_at.pre s.child_at.post s.child_at.child s.child_at.o s.child_at.stands s.records,
        );
      }

  abbrev inner_ready : (h : ℕ) (s : Settling w (suc h) q i p low) → size (suc h) s.child_at.child ≡ 9 → InnerReady w h q i 4
  inner_ready h s n = record { child_at = s.child_at; nested = s.nested; room = s.room; high = omega arith; free_page = omega (arith, s.pages) }

  -- it does not hold nine
  pub settle_kept : (fill_of (page_of w p) ≡ 9 → ⊥) → (h : ℕ) (s : Settling w h q i p low) → Settled w w h q i p low s
  settle_kept n h s = record { kept = λ m. refl; cut = λ e. absurd (n (child_size h s ∙ e)) }

  -- it is a leaf of nine
  pub leaf_asks : fill_of (page_of w p) ≡ 9 → low ≡ 0 → (h : ℕ) → Settling w h q i p low → LeafReady w q i 4
  leaf_asks n z zero s = leaf_ready s (sym (child_size 0 s) ∙ n)
  leaf_asks n z (suc h) s = absurd (omega (arith, s.height))

  pub leaf_settled : (w' : List ℕ) → fill_of (page_of w p) ≡ 9 → low ≡ 0 → ((r : LeafReady w q i 4) → Split w w' 0 q i 4 r.child_at) → (h : ℕ) (s : Settling w h q i p low) → Settled w w' h q i p low s
  leaf_settled w' n z f zero s = record { kept = λ m. absurd (m (sym (child_size 0 s) ∙ n)); cut = λ e. f (leaf_ready s e) }
  leaf_settled w' n z f (suc h) s = absurd (omega (arith, s.height))

  -- it is an inner page of nine
  pub inner_asks : fill_of (page_of w p) ≡ 9 → (low ≡ 0 → ⊥) → (h : ℕ) → Settling w h q i p low → (k : ℕ) × InnerReady w k q i 4
  inner_asks n z zero s = absurd (z s.height)
  inner_asks n z (suc h) s = (h, inner_ready h s (sym (child_size (suc h) s) ∙ n))

  pub inner_settled : (w' : List ℕ) → fill_of (page_of w p) ≡ 9 → (low ≡ 0 → ⊥) → ((k : ℕ) (r : InnerReady w k q i 4) → Split w w' (suc k) q i 4 r.child_at) → (h : ℕ) (s : Settling w h q i p low)
      → Settled w w' h q i p low s
  inner_settled w' n z f zero s = absurd (z s.height)
  inner_settled w' n z f (suc h) s = record { kept = λ m. absurd (m (sym (child_size (suc h) s) ∙ n)); cut = λ e. f h (inner_ready h s e) }
