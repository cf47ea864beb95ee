-- The laws behind `lift`: the list at a key before and after a key is put in, raised, lowered or taken out. Equations between lists, for the code's proofs to cite.
-- `home lo k hi rs` is the list at key k whose bounds are lo (one more than the key on its left in the page, or the page's own lower bound) and hi (the page's upper bound).
-- Assumes nothing.
use Prim.Native.Nat.{ℕ, suc, ◌≤◌, ◌<◌}
use mathlib.Core.Path.{◌≡◌, sym, ap, ap₂, ◌∙◌}
use mathlib.Core.List.{List, ◌++◌}
use lib.Dec.{T}
use native.Mathlib.Omega.{arith}
use Rattle.words.specs.Lists.{take_while, drop_while, Pairs}
use Rattle.words.proofs.Listed.{while_join}
use Rattle.regions.specs.Positions.{stabs}
use Rattle.regions.specs.declared.Region.{Region}
use Rattle.xrtree.specs.Claims.{Over}
use Rattle.xrtree.specs.Local.{box, home, InBox}
use Rattle.xrtree.proofs.Box.{of_stabs, to_stabs, box_take, box_drop}

module _ (rs : List Region) (o : Pairs Over rs) where
  -- what any key j stabs is a beginning of a list
  stabs_on : (a b c d j : ℕ) → b ≤ suc c → (x y : Region) → InBox a b c d x → InBox a b c d y → Over x y → T (stabs j y) → T (stabs j x)
  stabs_on a b c d j w x y p q v h =
      let s = of_stabs j y h in
      let n = v.1 (omega arith) in
      to_stabs j x (omega arith)

  -- from the list at j, what a key k on its left stabs: those that start early
  pub take_left : (lo k j hi : ℕ) → k < j → take_while (stabs k) (home lo j hi rs) ≡ box lo (suc k) j hi rs
  take_left lo k j hi l =
      box_take rs o lo (suc j) j hi (stabs k) lo (suc k) j hi (stabs_on lo (suc j) j hi k (omega arith))
      (λ r i h. let s = of_stabs k r h in omega arith)
      (λ r i. (omega arith, to_stabs k r (omega arith)))

  pub drop_left : (lo k j hi : ℕ) → lo ≤ suc k → k < j → drop_while (stabs k) (home lo j hi rs) ≡ home (suc k) j hi rs
  drop_left lo k j hi w l =
      box_drop rs o lo (suc j) j hi (stabs k) (suc k) (suc j) j hi (stabs_on lo (suc j) j hi k (omega arith))
      (λ r i h. let s : (r.start ≤ k → ⊥) = (λ z. h (to_stabs k r (z, omega arith))) in omega arith)
      (λ r i. (omega arith, (λ h. let s = of_stabs k r h in omega arith)))

  -- from the list at k, what a key j on its right stabs: those that end late
  pub take_right : (lo k j hi : ℕ) → k < j → take_while (stabs j) (home lo k hi rs) ≡ box lo (suc k) j hi rs
  take_right lo k j hi l =
      box_take rs o lo (suc k) k hi (stabs j) lo (suc k) j hi (stabs_on lo (suc k) k hi j (omega arith))
      (λ r i h. let s = of_stabs j r h in omega arith)
      (λ r i. (omega arith, to_stabs j r (omega arith)))

  pub drop_right : (lo k j hi : ℕ) → k < j → j ≤ hi → drop_while (stabs j) (home lo k hi rs) ≡ home lo k j rs
  drop_right lo k j hi l u =
      box_drop rs o lo (suc k) k hi (stabs j) lo (suc k) k j (stabs_on lo (suc k) k hi j (omega arith))
      (λ r i h. let s : (j ≤ r.end → ⊥) = (λ z. h (to_stabs j r (omega arith, z))) in omega arith)
      (λ r i. (omega arith, (λ h. let s = of_stabs j r h in omega arith)))

  -- the two ways to join a part with a list
  pub join_left : (lo k j hi : ℕ) → lo ≤ suc k → k < j → box lo (suc k) j hi rs ++ home (suc k) j hi rs ≡ home lo j hi rs
  join_left lo k j hi w l =
      ap₂ ◌++◌ (sym (take_left lo k j hi l)) (sym (drop_left lo k j hi w l)) ∙ while_join (stabs k) (home lo j hi rs)

  pub join_right : (lo k j hi : ℕ) → k < j → j ≤ hi → box lo (suc k) j hi rs ++ home lo k j rs ≡ home lo k hi rs
  join_right lo k j hi l u =
      ap₂ ◌++◌ (sym (take_right lo k j hi l)) (sym (drop_right lo k j hi l u)) ∙ while_join (stabs j) (home lo k hi rs)

  -- THE FOUR MOVES. Each is one call of lift(from, to, key): the beginning of `from` that the key stabs goes in front of `to`.
  -- 1. A KEY IS NEW IN A PAGE (leaf split; or it came up): lift from the next key j of the page to the new one, k.
  --    k had what is stabbed by it and by no key at its level or above so far: home lo k j
  pub put_new : (lo k j hi : ℕ) → k < j → j ≤ hi → take_while (stabs k) (home lo j hi rs) ++ home lo k j rs ≡ home lo k hi rs
  put_new lo k j hi l u = ap (λ (z : List Region). z ++ home lo k j rs) (take_left lo k j hi l) ∙ join_right lo k j hi l u

  pub put_next : (lo k j hi : ℕ) → lo ≤ k → k < j → drop_while (stabs k) (home lo j hi rs) ≡ home (suc k) j hi rs
  put_next lo k j hi w l = drop_left lo k j hi (omega arith) l

  -- 2. A KEY k GOES UP: lift from each key a of the left page to k, last to first; k starts with its own list in the page, home (suc last) k hi
  pub up_new : (lo a k hi : ℕ) → lo ≤ a → a < k → take_while (stabs k) (home lo a hi rs) ++ home (suc a) k hi rs ≡ home lo k hi rs
  up_new lo a k hi w l = ap (λ (z : List Region). z ++ home (suc a) k hi rs) (take_right lo a k hi l) ∙ join_left lo a k hi (omega arith) l

  pub up_left : (lo a k hi : ℕ) → a < k → k ≤ hi → drop_while (stabs k) (home lo a hi rs) ≡ home lo a k rs
  up_left lo a k hi l u = drop_right lo a k hi l u

  -- 3. A KEY k LEAVES A PAGE (before a merge): lift from k to the next key j of the page
  pub out_next : (lo k j hi : ℕ) → lo ≤ k → k < j → take_while (stabs j) (home lo k hi rs) ++ home (suc k) j hi rs ≡ home lo j hi rs
  out_next lo k j hi w l = up_new lo k j hi w l

  pub out_rest : (lo k j hi : ℕ) → k < j → j ≤ hi → drop_while (stabs j) (home lo k hi rs) ≡ home lo k j rs
  out_rest lo k j hi l u = drop_right lo k j hi l u

  -- 4. A KEY k CAME DOWN between the keys of two pages: lift from k to each key a of the left page, first to last
  pub down_left : (lo a k hi : ℕ) → a < k → k ≤ hi → take_while (stabs a) (home lo k hi rs) ++ home lo a k rs ≡ home lo a hi rs
  down_left lo a k hi l u = put_new lo a k hi l u

  pub down_rest : (lo a k hi : ℕ) → lo ≤ a → a < k → drop_while (stabs a) (home lo k hi rs) ≡ home (suc a) k hi rs
  down_rest lo a k hi w l = put_next lo a k hi w l
