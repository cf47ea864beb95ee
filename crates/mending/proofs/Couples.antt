-- Two neighbours of which one holds three: what their split and merge ask, and that they leave a mended page.
-- Assumes nothing.
use Prim.Native.Nat.{ℕ, ◌+◌, ◌-◌, ◌≤◌, ◌<◌}
use mathlib.Core.Path.{◌≡◌, refl, ◌∙◌, subst}
use mathlib.Core.List.{List, [], ◌∷◌, ◌++◌}
use lib.ListN.{length, length-append}
use native.Mathlib.Omega.{arith}
use Rattle.pages.specs.Layout.{page_of, fill_of, child_in}
use Rattle.steps.specs.Steps.{size, KidsFilled, ChildAt, page_here, Split, PairAt, Merged}
use Rattle.room.proofs.Fills.{of_filled, refocus, size_fill}
use Rattle.room.proofs.Becoming.{spares_none}
use Rattle.room.proofs.Spreading.{moved_most}
use Rattle.room.proofs.Mending.{Under, pair_here, mend_merge, thick_right, pair_left, mend_lend_right, thick_left, pair_right, mend_lend_left}
use Rattle.mending.specs.Mends.{pair_page, Room, SplitAsk, MergeAsk, Couple, ThinLeft, ThinRight, PairMended}
use Rattle.mending.proofs.Seen.{child_size}

module _ {w : List ℕ} {q j inner : ℕ} (s : Couple w q j inner) where
  abbrev pub p : PairAt w s.h q j
  p = s.pair

  -- the page as it is
  abbrev pub still : Under 0 w w p.rs s.h p.lo p.hi p.o (pair_page p) (pair_page p)
  still = record { becomes = record { stands = p.stands; place = refl; same = refl; spares = spares_none w p.o }; keys = omega arith; pages = omega arith }

  abbrev pub pair_now : PairAt w s.h q j
  pair_now = pair_here 0 w w p.rs s.h p.lo p.hi q p.pre p.post p.o (pair_page p) p.left p.key p.right still j p.index

  pub next_index : length (p.pre ++ (p.left, p.key) ∷ []) ≡ j + 1
  next_index = omega (arith, p.index, length-append p.pre ((p.left, p.key) ∷ []))

  -- its two children
  abbrev pub right_now : List ℕ → ChildAt w s.h q (j + 1)
  right_now w₁ = thick_right w w w₁ p.rs s.h p.lo p.hi q p.pre p.post p.o (pair_page p) p.left p.key p.right still (j + 1) next_index

  abbrev pub left_now : List ℕ → ChildAt w s.h q j
  left_now w₁ = thick_left w w w₁ p.rs s.h p.lo p.hi q p.pre p.post p.o (pair_page p) p.left p.key p.right still j p.index

  pub right_size : (n : ℕ) → n ≡ fill_of (page_of w (child_in (page_of w q) (j + 1))) → n ≡ size s.h p.right
  right_size n e = e ∙ child_size (right_now w)

  pub left_size : (n : ℕ) → n ≡ fill_of (page_of w (child_in (page_of w q) j)) → n ≡ size s.h p.left
  left_size n e = e ∙ child_size (left_now w)

  pub pair_small : j < 8
  pair_small = omega (arith, s.room.few, size_fill (p.pre ++ (p.left, p.key) ∷ []) p.post p.right, next_index)

  pub room_left : (w₁ : List ℕ) → Room p.rs s.h p.lo p.hi (page_here (left_now w₁)) p.o
  room_left w₁ = subst (λ z. Room p.rs s.h p.lo p.hi z p.o) (refocus q p.pre p.left p.key p.post p.right) s.room

  -- what a merge as they are asks
  abbrev pub merge_now : size s.h p.left + inner + size s.h p.right ≤ 9 → MergeAsk w q j inner
  merge_now f = record { h = s.h; level = s.level; pair = pair_now; fit = f }

  pub merged_now : {w₁ : List ℕ} → ((m : MergeAsk w q j inner) → Merged w w₁ m.h q j m.pair) → KidsFilled s.h p.left → KidsFilled s.h p.right
      → 4 ≤ size s.h p.left + inner + size s.h p.right → size s.h p.left + inner + size s.h p.right ≤ 8 → PairMended w₁ s
  merged_now {w₁} f a b low high =
      mend_merge 0 w w p.rs s.h p.lo p.hi q p.pre p.post p.o (pair_page p) p.left p.key p.right still w₁ j p.index
      (f (merge_now (omega arith))) (omega arith) s.others a b (omega (arith, s.level)) (omega (arith, s.level))

-- THE LEFT ONE HOLDS THREE
module _ {w : List ℕ} {q j inner : ℕ} (s : ThinLeft w q j inner) where
  abbrev pub c : Couple w q j inner
  c = s.couple

  abbrev pub u : PairAt w c.h q j
  u = c.pair

  pub right_bounds : (4 ≤ size c.h u.right) × (size c.h u.right ≤ 8) × KidsFilled c.h u.right
  right_bounds = of_filled c.h u.right s.near

  pub inner_most : inner ≤ 1
  inner_most = omega (arith, c.level, moved_most c.h)

  module _ (n : ℕ) (e : n ≡ fill_of (page_of w (child_in (page_of w q) (j + 1)))) where
    -- the right one fits in
    pub left_joins : n + inner ≤ 5 → MergeAsk w q j inner
    left_joins l = let z = right_size c n e in merge_now c (omega (arith, s.three))

    pub left_joined : {w₁ : List ℕ} → n + inner ≤ 5 → ((m : MergeAsk w q j inner) → Merged w w₁ m.h q j m.pair) → PairMended w₁ c
    left_joined l f =
        let z = right_size c n e in
        let b = right_bounds in
        merged_now c f s.kids b.2 (omega (arith, s.three, b.0)) (omega (arith, s.three))

    -- it lends
    abbrev pub lend_right : (w₁ : List ℕ) (k : ℕ) → k + inner ≡ 1 → 5 < n + inner → SplitAsk w q (j + 1) k inner
    lend_right w₁ k m l =
        record { h = c.h; level = c.level; child_at = right_now c w₁; room = c.room; low = omega arith; high = omega (arith, right_size c n e, inner_most) }

    pub right_lends : (k : ℕ) → k + inner ≡ 1 → 5 < n + inner → SplitAsk w q (j + 1) k inner
    right_lends k m l = lend_right w k m l

    module _ (w₁ : List ℕ) (k : ℕ) (m : k + inner ≡ 1) (l : 5 < n + inner) (f : (a : SplitAsk w q (j + 1) k inner) → Split w w₁ a.h q (j + 1) k a.child_at) where
      abbrev pub cut : Split w w₁ c.h q (j + 1) k (right_now c w₁)
      cut = f (lend_right w₁ k m l)

      abbrev pub lent_pair : PairAt w₁ c.h q j
      lent_pair =
          pair_left w w w₁ u.rs c.h u.lo u.hi q u.pre u.post u.o (pair_page u) u.left u.key u.right (still c) (j + 1) k (next_index c) cut j u.index

      abbrev pub lent_ask : MergeAsk w₁ q j inner
      lent_ask = record { h = c.h; level = c.level; pair = lent_pair; fit = omega (arith, s.three, cut.size_left, inner_most) }

      pub left_takes : MergeAsk w₁ q j inner
      left_takes = lent_ask

      pub left_took : {w₂ : List ℕ} → ((m : MergeAsk w₁ q j inner) → Merged w₁ w₂ m.h q j m.pair) → PairMended w₂ c
      left_took {w₂} g =
          mend_lend_right w w w₁ u.rs c.h u.lo u.hi q u.pre u.post u.o (pair_page u) u.left u.key u.right (still c) (j + 1) k (next_index c) cut w₂ j u.index
          (g lent_ask) c.others s.kids s.three s.near (omega (arith, right_size c n e, c.level)) (omega (arith, c.level, inner_most))

-- THE RIGHT ONE HOLDS THREE
module _ {w : List ℕ} {q j inner : ℕ} (s : ThinRight w q j inner) where
  abbrev pub d : Couple w q j inner
  d = s.couple

  abbrev pub v : PairAt w d.h q j
  v = d.pair

  pub left_bounds : (4 ≤ size d.h v.left) × (size d.h v.left ≤ 8) × KidsFilled d.h v.left
  left_bounds = of_filled d.h v.left s.near

  pub level_most : inner ≤ 1
  level_most = omega (arith, d.level, moved_most d.h)

  module _ (n : ℕ) (e : n ≡ fill_of (page_of w (child_in (page_of w q) j))) where
    pub right_joins : n + inner ≤ 5 → MergeAsk w q j inner
    right_joins l = let z = left_size d n e in merge_now d (omega (arith, s.three))

    pub right_joined : {w₁ : List ℕ} → n + inner ≤ 5 → ((m : MergeAsk w q j inner) → Merged w w₁ m.h q j m.pair) → PairMended w₁ d
    right_joined l f =
        let z = left_size d n e in
        let b = left_bounds in
        merged_now d f b.2 s.kids (omega (arith, s.three, b.0)) (omega (arith, s.three))

    pub left_four : 4 ≤ n
    left_four = omega (arith, left_size d n e, left_bounds.0)

    abbrev pub lend_left : (w₁ : List ℕ) → 5 < n + inner → SplitAsk w q j (n - 1) inner
    lend_left w₁ l =
        record { h = d.h; level = d.level; child_at = left_now d w₁; room = room_left d w₁; low = omega (arith, left_four); high = omega (arith, left_size d n e, left_four) }

    pub left_lends : 5 < n + inner → SplitAsk w q j (n - 1) inner
    left_lends l = lend_left w l

    module _ (w₁ : List ℕ) (l : 5 < n + inner) (f : (a : SplitAsk w q j (n - 1) inner) → Split w w₁ a.h q j (n - 1) a.child_at) where
      abbrev pub part : Split w w₁ d.h q j (n - 1) (left_now d w₁)
      part = f (lend_left w₁ l)

      pub part_index : length (v.pre ++ (part.left, part.key) ∷ []) ≡ j + 1
      part_index = omega (arith, v.index, length-append v.pre ((part.left, part.key) ∷ []))

      abbrev pub lent_to : PairAt w₁ d.h q (j + 1)
      lent_to =
          pair_right w w w₁ v.rs d.h v.lo v.hi q v.pre v.post v.o (pair_page v) v.left v.key v.right (still d) j (n - 1) v.index part (j + 1) part_index

      abbrev pub lent_to_ask : MergeAsk w₁ q (j + 1) inner
      lent_to_ask = record { h = d.h; level = d.level; pair = lent_to; fit = omega (arith, s.three, part.size_right, left_size d n e, left_four, d.level) }

      pub right_takes : MergeAsk w₁ q (j + 1) inner
      right_takes = lent_to_ask

      pub right_took : {w₂ : List ℕ} → ((m : MergeAsk w₁ q (j + 1) inner) → Merged w₁ w₂ m.h q (j + 1) m.pair) → PairMended w₂ d
      right_took {w₂} g =
          mend_lend_left w w w₁ v.rs d.h v.lo v.hi q v.pre v.post v.o (pair_page v) v.left v.key v.right (still d) j (n - 1) v.index part w₂ (j + 1) part_index
          (g lent_to_ask) d.others s.kids s.three s.near (omega (arith, left_size d n e, d.level)) (omega (arith, left_size d n e, left_four))
