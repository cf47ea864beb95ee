-- A turn of each loop, in the form of its invariant: what is left to do from here on comes to the same.
-- Assumes nothing.
use Prim.Native.Nat.{ℕ, zero, suc, ◌+◌, ◌-◌, ◌<◌, ◌≤◌}
use mathlib.Core.Path.{◌≡◌, refl, sym, ap, ◌∙◌}
use mathlib.Core.Bool.{true, false}
use mathlib.Core.List.{List, [], ◌∷◌}
use Rattle.std.proofs.Common.{Option, None, Some, option_and_then}
use native.Mathlib.Omega.{arith}
use Rattle.regions.specs.declared.Region.{Region}
use Rattle.words.proofs.Tests.{eq_yes, eq_no}
use Rattle.pages.specs.Layout.{page_of, fill_of, child_in, entry_word, region_in, record_of, record_end, record_used}
use Rattle.xrtree.specs.Rules.{pair_right}
use Rattle.image.specs.Read.{key_at}
use Rattle.trail.specs.declared.Trail.{Trail}
use Rattle.trail.specs.declared.Home.{Home}
use Rattle.trail.specs.Pass.{meet, follow, regions_at, begun, ended}
use Rattle.trail.proofs.Loops.{follow_append}
use Rattle.stablists.specs.Pass.{first_region, key_in, head_in, key_pass, pass_keys, pass_at, used_to}

-- DOWN TO THE LEFTMOST ENTRY
pub first_more : (w : List ℕ) (d i q y : ℕ) (r : Region) → i < d → y ≡ child_in (page_of w q) 0 → first_region w (d - i) q ≡ r → first_region w (d - (i + 1)) y ≡ r
unfolding first_region
first_more w d i q y r l e k = let v : d - i ≡ suc (d - (i + 1)) = omega arith in rw e (rw v at k)

pub first_done : (w : List ℕ) (d i q : ℕ) (x r : Region) → d ≤ i → x ≡ region_in (page_of w q) (entry_word 0) → first_region w (d - i) q ≡ r → x ≡ r
unfolding first_region
first_done w d i q x r l e k = let v : d - i ≡ 0 = omega arith in e ∙ rw v at k

-- A KEY
pub key_no : (w : List ℕ) (d : ℕ) (ws : List ℕ) (i lo hi : ℕ) (t : Trail) → pair_right (key_at w ws i) (key_at w ws i).list ≡ false → None ≡ key_pass w d ws i lo hi t
unfolding key_pass
key_no w d ws i lo hi t e = rw e

-- a list followed along regions and one more
one_more : (w : List ℕ) (h : Home) (x : Region) (o : Option Trail) → option_and_then (follow w h (x ∷ [])) o ≡ option_and_then (meet w h x) o
unfolding follow
one_more w h x None = refl
one_more w h x (Some t) = same (meet w h x t)
  where
    same : (o : Option Trail) → option_and_then (λ s. Some s) o ≡ o
    same None = refl
    same (Some s) = refl

module _ (w : List ℕ) (d : ℕ) (ws : List ℕ) (i lo hi : ℕ) (t u : Trail) (h : Home) (head y : ℕ) (v : Option Trail) (e : pair_right (key_at w ws i) (key_at w ws i).list ≡ true)
    (eh : h ≡ record { low = lo; key = key_in ws i; high = hi }) (eq : head ≡ head_in ws i) (eu : u ≡ begun head t) (ey : y ≡ child_in ws i) (ev : v ≡ follow w h (regions_at w d y) u) where
  key_turn : (z : ℕ) (x : Region) → z ≡ child_in ws (i + 1) → x ≡ first_region w d z → option_and_then ended (option_and_then (meet w h x) v) ≡ key_pass w d ws i lo hi t
  unfolding key_pass
  key_turn z x ez ex =
      rw (e, ev, ex, eu, ey, ez, eq, eh)
      (ap (option_and_then ended) (sym (follow_append w (record { low = lo; key = key_in ws i; high = hi }) (regions_at w d (child_in ws i)) (first_region w d (child_in ws (i + 1)) ∷ []) (begun (head_in ws i) t)
      ∙ one_more w (record { low = lo; key = key_in ws i; high = hi }) (first_region w d (child_in ws (i + 1))) _)))

  -- where the regions on the left end it, where the one on the right does, and where it is followed
  pub key_stop_left : v ≡ None → None ≡ key_pass w d ws i lo hi t
  key_stop_left g = rw g at (key_turn (child_in ws (i + 1)) (first_region w d (child_in ws (i + 1))) refl refl)

  module _ (r : Trail) (z : ℕ) (x : Region) (s : Option Trail) (er : v ≡ Some r) (ez : z ≡ child_in ws (i + 1)) (ex : x ≡ first_region w d z) (es : s ≡ meet w h x r) where
    key_last : option_and_then ended s ≡ key_pass w d ws i lo hi t
    key_last = ap (option_and_then ended) es ∙ rw er at (key_turn z x ez ex)

    pub key_stop_right : s ≡ None → None ≡ key_pass w d ws i lo hi t
    key_stop_right g = rw g at key_last

    pub key_on : (m : Trail) (n : Option Trail) → s ≡ Some m → n ≡ ended m → n ≡ key_pass w d ws i lo hi t
    key_on m n g en = en ∙ rw g at key_last

-- A PAGE'S KEYS, each followed by the child on its left
module _ (w : List ℕ) (d : ℕ) where
  pub page_begin : (l p n lo hi : ℕ) (t : Trail) → l ≡ suc d → n ≡ fill_of (page_of w p) → pass_keys (pass_at w d) w d (page_of w p) 0 (n - 0) lo hi t ≡ pass_at w l p lo hi t
  unfolding pass_at
  page_begin l p n lo hi t q e =
      let v : n - 0 ≡ fill_of (page_of w p) = omega arith in
      rw (q, v)

  module _ (ws : List ℕ) (i n lo hi k : ℕ) (t : Trail) (u r : Option Trail) (l : i < n) (ek : k ≡ key_in ws i) (eu : u ≡ key_pass w d ws i lo hi t) (z : pass_keys (pass_at w d) w d ws i (n - i) lo hi t ≡ r) where
    page_turn : option_and_then (pass_keys (pass_at w d) w d ws (i + 1) (n - (i + 1)) (k + 1) hi) (option_and_then (pass_at w d (child_in ws i) lo k) u) ≡ r
    unfolding pass_keys
    page_turn =
        let a : i + 1 ≡ suc i = omega arith in
        let b : n - i ≡ suc (n - suc i) = omega arith in
        let c : k + 1 ≡ suc (key_in ws i) = omega arith in
        rw (a, c, eu, ek) (rw b at z)

    -- where the key's list ends it, where the child does, and where it goes on
    pub page_stop_key : u ≡ None → None ≡ r
    page_stop_key g = rw g at page_turn

    module _ (s : Trail) (y : ℕ) (v : Option Trail) (es : u ≡ Some s) (ey : y ≡ child_in ws i) (ev : v ≡ pass_at w d y lo k s) where
      page_next : option_and_then (pass_keys (pass_at w d) w d ws (i + 1) (n - (i + 1)) (k + 1) hi) v ≡ r
      page_next = rw (ev, ey) (rw es at page_turn)

      pub page_stop_child : v ≡ None → None ≡ r
      page_stop_child g = rw g at page_next

      pub page_more : (m : Trail) → v ≡ Some m → pass_keys (pass_at w d) w d ws (i + 1) (n - (i + 1)) (k + 1) hi m ≡ r
      page_more m g = rw g at page_next

  pub page_done : (ws : List ℕ) (i n lo hi y : ℕ) (t : Trail) (v r : Option Trail) → i ≤ n → n ≤ i → y ≡ child_in ws n → v ≡ pass_at w d y lo hi t
      → pass_keys (pass_at w d) w d ws i (n - i) lo hi t ≡ r → v ≡ r
  unfolding pass_keys
  page_done ws i n lo hi y t v r l m ey ev z =
      let a : i ≡ n = omega arith in
      let b : n - n ≡ 0 = omega arith in
      rw (ev, ey) (rw (a, b) at z)

-- THE USED RECORDS, at place q
pub used_yes : (w : List ℕ) (q n x : ℕ) → 1 ≤ q → x ≡ record_end (record_of w q) → (x ≡ 0 → ⊥) → n ≡ used_to w (q - 1) → n + 1 ≡ used_to w (q + 1 - 1)
unfolding used_to record_used
used_yes w zero n x l e f k = absurd (omega arith)
used_yes w (suc q) n x l e f k =
    let a : suc q + 1 - 1 ≡ suc q = omega arith in
    let b : suc q - 1 ≡ q = omega arith in
    let h : n ≡ used_to w q = rw b at k in
    rw (a, eq_no (record_end (record_of w (suc q))) 0 (λ z. f (e ∙ z))) (omega arith)

pub used_no : (w : List ℕ) (q n x : ℕ) → 1 ≤ q → x ≡ record_end (record_of w q) → x ≡ 0 → n ≡ used_to w (q - 1) → n ≡ used_to w (q + 1 - 1)
unfolding used_to record_used
used_no w zero n x l e f k = absurd (omega arith)
used_no w (suc q) n x l e f k =
    let a : suc q + 1 - 1 ≡ suc q = omega arith in
    let b : suc q - 1 ≡ q = omega arith in
    let h : n ≡ used_to w q = rw b at k in
    rw (a, eq_yes (record_end (record_of w (suc q))) 0 (sym e ∙ f)) (omega arith)
