-- How a call comes to its number where the image is tested first.
-- Assumes nothing.
use Prim.Native.Nat.{ℕ}
use mathlib.Core.Path.{◌≡◌, refl, sym, ap, ◌∙◌}
use mathlib.Core.Bool.{Bool, true, false}
use native.Mathlib.Omega.{arith}
use Rattle.regions.specs.Numbers.{image_first}

-- IMAGE comes before all else, and only where the image is not valid
pub image_number : (ok : Bool) (n : ℕ) → ok ≡ false → 1 ≡ image_first ok n
image_number ok n e = rw e

pub own_number : (ok : Bool) (m n : ℕ) → ok ≡ true → m ≡ n → m ≡ image_first ok n
own_number ok m n e f = rw e f

pub number_own : (ok : Bool) (m n : ℕ) → ok ≡ true → m ≡ image_first ok n → m ≡ n
number_own ok m n v e = e ∙ ap (λ b. image_first b n) v

-- what is answered 0 has passed both
pub image_right : (ok : Bool) (n : ℕ) → 0 ≡ image_first ok n → ok ≡ true
image_right true n e = refl
image_right false n e = absurd (let z : ◌≡◌ {A = ℕ} 0 1 = e in omega arith)

pub own_right : (ok : Bool) (n : ℕ) → 0 ≡ image_first ok n → n ≡ 0
own_right ok n e = sym (number_own ok 0 n (image_right ok n e) e)
