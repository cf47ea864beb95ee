-- As many as fit: which words a row of items fills, which stay, how many items those are, and whether more remain.
-- Assumes nothing.
use Prim.Native.Nat.{ℕ, ◌+◌, ◌*◌, ◌≤◌, min}
use mathlib.Core.Path.{◌≡◌, refl, ap, ◌∙◌}
use mathlib.Core.List.{List, ◌++◌, flat_map}
use lib.Dec.{ltb}
use lib.ListN.{length, take, drop, length-take}
use lib.Seq.{length-sets, sets-eq}
use native.Mathlib.Omega.{arith}
use native.Mathlib.Nat.{le_trans, mul-div-le, mul-le-mul_left}
use Rattle.words.proofs.Written.{flat_long}
use Rattle.words.proofs.Says.{some_drop, lt_same}
use Rattle.regions.specs.Limits.{pair_width}
use Rattle.regions.specs.Calls.{Pair, room, written, count_written, more_remain, pair_words}

module _ {X : Type 0} (width : ℕ) (out : List ℕ) (xs : List X) where
  pub count_is : count_written width out xs ≡ min (room width out) (length xs)
  unfolding count_written
  count_is = length-take (room width out) xs

  pub count_room : count_written width out xs ≤ room width out
  count_room = omega (arith, count_is)

  -- more remain exactly where not all were written
  pub more_is : more_remain width out xs ≡ ltb (count_written width out xs) (length xs)
  unfolding more_remain count_written
  more_is =
      some_drop (room width out) xs
      ∙ lt_same (room width out) (length xs) (length (take (room width out) xs)) (length xs) (λ h. omega (arith, length-take (room width out) xs)) (λ h. omega (arith, length-take (room width out) xs))

  pub written_long : (words : X → List ℕ) → length (written words width out xs) ≡ length out
  unfolding written
  written_long words = length-sets out 0 (flat_map words (take (room width out) xs))

-- and those that fit
module _ {X : Type 0} (words : X → List ℕ) (width : ℕ) (wide : (x : X) → length (words x) ≡ width) (out : List ℕ) (xs : List X) where
  pub words_long : length (flat_map words (take (room width out) xs)) ≡ width * count_written width out xs
  unfolding count_written
  words_long = flat_long words width wide (take (room width out) xs)

  pub words_fit : width * count_written width out xs ≤ length out
  words_fit = le_trans (mul-le-mul_left width (count_room width out xs)) (mul-div-le (length out) width)

  -- the words written, and behind them the words as they were
  pub written_is : written words width out xs ≡ flat_map words (take (room width out) xs) ++ drop (width * count_written width out xs) out
  unfolding written
  written_is =
      let vs = flat_map words (take (room width out) xs) in
      let e : 0 + length vs ≡ width * count_written width out xs = omega (arith, words_long) in
      sets-eq vs out 0 (omega (arith, words_long, words_fit)) ∙ ap (λ n. vs ++ drop n out) e

pub pair_wide : (q : Pair) → length (pair_words q) ≡ pair_width
pair_wide q = refl
