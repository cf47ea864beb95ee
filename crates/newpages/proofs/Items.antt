-- Items of a page, each of as many words as the next: what a list of them becomes where runs of words were moved. Said once, over the items' width.
-- Assumes nothing.
use Prim.Native.Nat.{ℕ, zero, suc, ◌+◌, ◌*◌, ◌-◌, ◌<◌, ◌≤◌}
use mathlib.Core.Path.{◌≡◌, refl, sym, ap, ap₂, ◌∙◌}
use mathlib.Core.List.{List, [], ◌∷◌, ◌++◌}
use lib.ListN.{length, get_or, take, drop}
use native.Mathlib.Omega.{arith}
use native.Mathlib.Nat.{mul-suc}
use Rattle.newpages.specs.Pages.{put_in, taken_out, put_for}
use Rattle.newpages.proofs.Runs.{Seg}

-- m values of f, from f i on
unfoldable pub up_from : {X : Type 0} → (ℕ → X) → ℕ → ℕ → List X
up_from f i zero = []
up_from f i (suc m) = f i ∷ up_from f (suc i) m

module _ {X : Type 0} where
  pub up_long : (f : ℕ → X) (i m : ℕ) → length (up_from f i m) ≡ m
  unfolding up_from
  up_long f i zero = refl
  up_long f i (suc m) = ap suc (up_long f (suc i) m)

  pub up_append : (f : ℕ → X) (i m n : ℕ) → up_from f i (m + n) ≡ up_from f i m ++ up_from f (i + m) n
  unfolding up_from
  up_append f i zero n =
      let e : 0 + n ≡ n = omega arith in
      let g : i + 0 ≡ i = omega arith in
      rw (e, g)
  up_append f i (suc m) n =
      let e : suc m + n ≡ suc (m + n) = omega arith in
      let g : i + suc m ≡ suc i + m = omega arith in
      rw (e, g) (ap (λ l. f i ∷ l) (up_append f (suc i) m n))

  pub up_take : (f : ℕ → X) (i c m : ℕ) → c ≤ m → take c (up_from f i m) ≡ up_from f i c
  unfolding up_from
  up_take f i zero m h = refl
  up_take f i (suc c) zero h = absurd (omega arith)
  up_take f i (suc c) (suc m) h = ap (λ l. f i ∷ l) (up_take f (suc i) c m (omega arith))

  pub up_drop : (f : ℕ → X) (i c m : ℕ) → c ≤ m → drop c (up_from f i m) ≡ up_from f (i + c) (m - c)
  unfolding up_from
  up_drop f i zero m h =
      let e : i + 0 ≡ i = omega arith in
      let g : m - 0 ≡ m = omega arith in
      rw (e, g)
  up_drop f i (suc c) zero h = absurd (omega arith)
  up_drop f i (suc c) (suc m) h =
      let e : i + suc c ≡ suc i + c = omega arith in
      let g : suc m - suc c ≡ m - c = omega arith in
      rw (e, g) (up_drop f (suc i) c m (omega arith))

  -- the same from the first value on
  drop_first : (f : ℕ → X) (c m : ℕ) → c ≤ m → drop c (up_from f 0 m) ≡ up_from f c (m - c)
  drop_first f c m h = let e : 0 + c ≡ c = omega arith in rw e at (up_drop f 0 c m h)

  split_first : (f : ℕ → X) (m n : ℕ) → up_from f 0 (m + n) ≡ up_from f 0 m ++ up_from f m n
  split_first f m n = let e : 0 + m ≡ m = omega arith in rw e at (up_append f 0 m n)

  -- with value i in the middle
  split_around : (f : ℕ → X) (m n : ℕ) → up_from f 0 (m + suc n) ≡ up_from f 0 m ++ f m ∷ up_from f (suc m) n
  unfolding up_from
  split_around f m n = split_first f m (suc n)

  pub up_same : (f g : ℕ → X) (i m : ℕ) → ((j : ℕ) → f j ≡ g j) → up_from f i m ≡ up_from g i m
  unfolding up_from
  up_same f g i zero h = refl
  up_same f g i (suc m) h = ap₂ ◌∷◌ (h i) (up_same f g (suc i) m h)

  -- value i, among m
  pub up_at : (f : ℕ → X) (i m j : ℕ) (d : X) → j < m → get_or (up_from f i m) j d ≡ f (i + j)
  unfolding up_from
  up_at f i zero j d h = absurd (omega arith)
  up_at f i (suc m) zero d h = let e : i + 0 ≡ i = omega arith in rw e
  up_at f i (suc m) (suc j) d h = let e : i + suc j ≡ suc i + j = omega arith in rw e (up_at f (suc i) m j d (omega arith))

-- items of k words each, item i from word `base i` on, read by `rd`, which looks at those words alone
module _ {X : Type 0} (k : ℕ) (base : ℕ → ℕ) (step : (i : ℕ) → base (suc i) ≡ base i + k) (rd : List ℕ → ℕ → X)
    (reads : (u v : List ℕ) (i j : ℕ) → Seg u (base i) v (base j) k → rd u i ≡ rd v j) where
  -- words that are the same hold the same items
  pub items_same : (u v : List ℕ) (m i j : ℕ) → Seg u (base i) v (base j) (k * m) → up_from (rd u) i m ≡ up_from (rd v) j m
  unfolding up_from
  items_same u v zero i j g = refl
  items_same u v (suc m) i j g =
      ap₂ ◌∷◌ (reads u v i j (record { same = λ x h. g.same x (omega (arith, mul-suc k m)) }))
      (items_same u v m (suc i) (suc j) (record { same = λ x h. behind x h }))
    where
      behind : (x : ℕ) → x < k * m → get_or u (base (suc i) + x) 0 ≡ get_or v (base (suc j) + x) 0
      behind x h =
          let e : base (suc i) + x ≡ base i + (k + x) = omega (arith, step i) in
          let f : base (suc j) + x ≡ base j + (k + x) = omega (arith, step j) in
          rw (e, f) (g.same (k + x) (omega (arith, mul-suc k m)))

  module _ (r ws : List ℕ) where
    -- x put in as item i of n
    pub items_in_lem : (i n : ℕ) (x : X) → i ≤ n → Seg r (base 0) ws (base 0) (k * i) → rd r i ≡ x → Seg r (base (suc i)) ws (base i) (k * (n - i))
        → up_from (rd r) 0 (suc n) ≡ put_in i x (up_from (rd ws) 0 n)
    items_in_lem i n x h before here behind =
        let e : suc n ≡ i + suc (n - i) = omega arith in
        ap (up_from (rd r) 0) e ∙ split_around (rd r) i (n - i)
        ∙ rw (items_same r ws i 0 0 before, here, items_same r ws (n - i) (suc i) i behind, up_take (rd ws) 0 i n h, drop_first (rd ws) i n h)

    -- item i of n taken out
    pub items_out : (i n : ℕ) → i < n → Seg r (base 0) ws (base 0) (k * i) → Seg r (base i) ws (base (suc i)) (k * (n - suc i))
        → up_from (rd r) 0 (n - 1) ≡ taken_out i (up_from (rd ws) 0 n)
    items_out i n h before behind =
        let e : n - 1 ≡ i + (n - suc i) = omega arith in
        ap (up_from (rd r) 0) e ∙ split_first (rd r) i (n - suc i)
        ∙ rw (
          items_same r ws i 0 0 before,
          items_same r ws (n - suc i) i (suc i) behind,
          up_take (rd ws) 0 i n (omega arith),
          drop_first (rd ws) (suc i) n (omega arith),
        )

    -- x in place of item i of n
    pub items_for : (i n : ℕ) (x : X) → i < n → Seg r (base 0) ws (base 0) (k * i) → rd r i ≡ x → Seg r (base (suc i)) ws (base (suc i)) (k * (n - suc i))
        → up_from (rd r) 0 n ≡ put_for i x (up_from (rd ws) 0 n)
    items_for i n x h before here behind =
        let e : n ≡ i + suc (n - suc i) = omega arith in
        ap (up_from (rd r) 0) e ∙ split_around (rd r) i (n - suc i)
        ∙ rw (
          items_same r ws i 0 0 before,
          here,
          items_same r ws (n - suc i) (suc i) (suc i) behind,
          up_take (rd ws) 0 i n (omega arith),
          drop_first (rd ws) (suc i) n (omega arith),
        )

    -- the first c of n; those behind them
    pub items_left : (c n : ℕ) → c ≤ n → Seg r (base 0) ws (base 0) (k * c) → up_from (rd r) 0 c ≡ take c (up_from (rd ws) 0 n)
    items_left c n h g = items_same r ws c 0 0 g ∙ sym (up_take (rd ws) 0 c n h)

    pub items_right : (c n : ℕ) → c ≤ n → Seg r (base 0) ws (base c) (k * (n - c)) → up_from (rd r) 0 (n - c) ≡ drop c (up_from (rd ws) 0 n)
    items_right c n h g = items_same r ws (n - c) 0 c g ∙ sym (drop_first (rd ws) c n h)

  -- those of two pages, and the same with x between them
  module _ (r a b : List ℕ) where
    pub items_joined : (m n : ℕ) → Seg r (base 0) a (base 0) (k * m) → Seg r (base m) b (base 0) (k * n) → up_from (rd r) 0 (m + n) ≡ up_from (rd a) 0 m ++ up_from (rd b) 0 n
    items_joined m n g h = split_first (rd r) m n ∙ ap₂ ◌++◌ (items_same r a m 0 0 g) (items_same r b n m 0 h)

    pub items_between : (m n : ℕ) (x : X) → Seg r (base 0) a (base 0) (k * m) → rd r m ≡ x → Seg r (base (suc m)) b (base 0) (k * n)
        → up_from (rd r) 0 (m + suc n) ≡ up_from (rd a) 0 m ++ x ∷ up_from (rd b) 0 n
    items_between m n x g e h = split_around (rd r) m n ∙ rw (items_same r a m 0 0 g, e, items_same r b n (suc m) 0 h)
