-- The image that an opening leaves: how it is written, that it is valid, and what it means.
-- Assumes nothing.
use Prim.Native.Nat.{ℕ}
use borrow.Rule.Slice.PartMut.{put_mid}
use mathlib.Core.Path.{◌≡◌, refl, ap, ap₂, ◌∙◌}
use mathlib.Core.Bool.{true, false}
use mathlib.Core.List.{List}
use lib.Dec.{leb}
use lib.ListN.{length, set, replicate}
use native.Mathlib.Omega.{arith}
use Rattle.words.specs.Lists.{sum, first_no}
use Rattle.words.proofs.Tests.{eq_yes, eq_no, lt_yes, lt_no, le_of, nle_of}
use Rattle.regions.specs.Calls.{open_set_no}
use Rattle.index.specs.Opening.{opened_image, open_no, OpensSet}

-- THE WHOLE IMAGE: all words 0, the shares from word 2 on, root, height, and the root page's mark
pub image_opened : (w blank shares laid : List ℕ) → length w ≡ 12288 → blank ≡ replicate (length w) 0 → laid ≡ shares → set (set (set (put_mid 2 16 blank laid) 0 1) 1 1) 57 1 ≡ opened_image shares
unfolding opened_image
image_opened w blank shares laid l e f = ap₂ (λ x y. set (set (set (put_mid 2 16 x y) 0 1) 1 1) 57 1) (e ∙ ap (λ n. replicate n 0) l) f

-- the three ways out
pub open_image : (w shares : List ℕ) → (length w ≡ 12288 → ⊥) → OpensSet w shares 1 w
unfolding open_no
open_image w shares h =
    record { number_is = rw (eq_no (length w) 12288 h); refused = λ n. refl; done = λ e. absurd (omega arith) }

pub open_shares : (w shares : List ℕ) → length w ≡ 12288 → leb (sum shares) 500 ≡ false → OpensSet w shares 8 w
unfolding open_no open_set_no first_no
open_shares w shares h k =
    record { number_is = rw (eq_yes (length w) 12288 h, lt_yes 500 (sum shares) (nle_of (sum shares) 500 k)); refused = λ n. refl; done = λ e. absurd (omega arith) }

pub open_done : (w w' shares : List ℕ) → length w ≡ 12288 → leb (sum shares) 500 ≡ true → w' ≡ opened_image shares → OpensSet w shares 0 w'
unfolding open_no open_set_no first_no
open_done w w' shares h k e =
    record { number_is = rw (eq_yes (length w) 12288 h, lt_no 500 (sum shares) (le_of (sum shares) 500 k)); refused = λ n. absurd (n refl); done = λ z. e }
