-- The root: where it holds no more than eight the tree is right; where it holds nine, a root comes above it and it is split.
-- Assumes nothing.
use Prim.Native.Nat.{ℕ, zero, suc, ◌≤◌, ◌<◌}
use mathlib.Core.Path.{◌≡◌, refl, sym, ap, ◌∙◌, subst}
use mathlib.Core.List.{List, []}
use lib.Dec.{T}
use lib.ListN.{length, length-append}
use native.Mathlib.Omega.{arith}
use Rattle.xrtree.specs.Tree.{Tree, weave, listed, regions, page_places}
use Rattle.xrtree.specs.Rules.{filled}
use Rattle.xrtree.specs.Claims.{page_at}
use Rattle.xrtree.specs.Holes.Post.{at_end}
use Rattle.pages.specs.Layout.{root_of, height_of, page_of, fill_of}
use Rattle.standing.specs.Stands.{top, nothing_around, Stands}
use Rattle.steps.specs.Steps.{size, KidsFilled, ChildAt}
use Rattle.room.specs.Ways.{PageRoom}
use Rattle.room.proofs.Fills.{to_root, to_root_leaf}
use Rattle.room.proofs.Pages.{root_narrow}
use Rattle.room.proofs.Records.{room_whole, page_free}
use Rattle.room.proofs.Becoming.{split_page}
use Rattle.room.proofs.Spreading.{grown_root}
use Rattle.roots.specs.WholeTree as owner
use Rattle.roots.specs.WholeTree.{Grew}
use Rattle.insert.specs.Spreads.{Settling, Settled, Topping, Topped}
use Rattle.insert.proofs.Reading.{held_size}

top_filled : (h : ℕ) (t : Tree h) → KidsFilled h t → (0 < h → 1 ≤ size h t) → size h t ≤ 8 → T (filled h t)
top_filled zero t k l u = to_root_leaf t u
top_filled (suc h) t k l u = to_root h t (l (omega arith)) u k

-- four pages on a path: the root never holds nine
top_low : (h : ℕ) (t : Tree h) → KidsFilled h t → length (regions h t) ≤ 500 → size h t ≡ 9 → h ≤ 3 → h ≤ 2
top_low zero t k f n l = omega arith
top_low (suc zero) t k f n l = omega arith
top_low (suc (suc zero)) t k f n l = omega arith
top_low (suc (suc (suc zero))) t k f n l = absurd (omega (arith, root_narrow t k (omega arith)))
top_low (suc (suc (suc (suc h)))) t k f n l = absurd (omega arith)

-- a root with no key has one page more
one_more : (h q : ℕ) (t : Tree h) → length (page_places (suc h) (page_at q [] t)) ≡ suc (length (page_places h t))
unfolding listed weave
one_more h q t = refl

module _ (w : List ℕ) (low : ℕ) (s : Topping w low) where
  root_size : fill_of (page_of w (root_of w)) ≡ size s.h s.t
  root_size = ap (λ n. fill_of (page_of w n)) s.whole.root ∙ held_size w s.h s.t s.whole.stands.held

  -- it does not hold nine
  pub top_kept : (p : ℕ) → p ≡ root_of w → (fill_of (page_of w p) ≡ 9 → ⊥) → Topped w w s.rs
  top_kept p e n =
      let m : (size s.h s.t ≡ 9 → ⊥) = λ y. n (ap (λ z. fill_of (page_of w z)) e ∙ root_size ∙ y) in
      record {
        h = s.h;
        t = s.t;
        whole = s.whole;
        right = top_filled s.h s.t s.filled s.least (omega (arith, s.most));
        flat = s.flat;
        shares = refl;
      }

  module _ (p : ℕ) (e : p ≡ root_of w) (n : fill_of (page_of w p) ≡ 9) where
    nine : size s.h s.t ≡ 9
    nine = sym (ap (λ z. fill_of (page_of w z)) e ∙ root_size) ∙ n

    flat : s.h ≤ 2
    flat = top_low s.h s.t s.filled (subst (λ l. length l ≤ 500) (sym s.whole.same) s.few) nine s.flat

    pub grow_asks : (length w ≡ 12288) × (height_of w ≤ 4) × owner.PageRoom w
    grow_asks =
        let r : PageRoom 1 s.h s.t nothing_around = omega (arith, s.pages flat) in
        let z = page_free w s.rs s.h 0 top s.t nothing_around s.whole.stands r in
        (s.whole.stands.long, omega (arith, s.whole.height, s.flat), record { place = z.0; low = z.1; high = z.2; free = z.3 })

    module _ (w₁ : List ℕ) (g : Grew w w₁ s.rs s.h s.t) (q : ℕ) (qe : q ≡ root_of w₁) where
      above : g.place ≡ q
      above = sym (qe ∙ g.whole.root)

      stands : Stands w₁ s.rs (suc s.h) 0 top (page_at q [] s.t) nothing_around
      stands = subst (λ z. Stands w₁ s.rs (suc s.h) 0 top (page_at z [] s.t) nothing_around) above g.whole.stands

      abbrev single : ChildAt w₁ s.h q 0
      single = record { rs = s.rs; lo = 0; hi = top; o = nothing_around; pre = []; post = at_end; child = s.t; stands = stands; index = refl }

      room : PageRoom 1 (suc s.h) (page_at q [] s.t) nothing_around
      room =
          omega (
            arith,
            s.pages flat,
            one_more s.h q s.t,
            length-append (page_places s.h s.t) [],
            length-append (page_places (suc s.h) (page_at q [] s.t)) [],
          )

      abbrev root_settling : Settling w₁ s.h q 0 p low
      root_settling =
          record {
            child_at = single;
            nested = s.nested;
            room = omega arith;
            place = e ∙ s.whole.root;
            height = s.height;
            pages = room;
            records = room_whole s.rs 0 top s.few;
          }

      pub settle_asks : (k : ℕ) × Settling w₁ k q 0 p low
      settle_asks = (s.h, root_settling)

      pub top_done : (w₂ : List ℕ) → ((k : ℕ) (y : Settling w₁ k q 0 p low) → Settled w₁ w₂ k q 0 p low y) → Topped w w₂ s.rs
      top_done w₂ d =
          let m = (d s.h root_settling).cut nine in
          record {
            h = suc s.h;
            t = split_page single m;
            whole = record {
              stands = m.stands;
              same = m.same ∙ subst (λ z. regions (suc s.h) (page_at z [] s.t) ≡ s.rs) above g.whole.same;
              root = m.spares.root ∙ sym qe;
              height = m.spares.height ∙ g.whole.height;
            };
            right = grown_root single m refl refl nine s.filled;
            flat = omega (arith, flat);
            shares = m.spares.shares ∙ g.shares;
          }
