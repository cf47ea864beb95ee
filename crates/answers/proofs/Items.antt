-- Items written in several parts: what is written first and then more is all of it together; without room nothing is; the length stays.
-- Assumes nothing.
use Prim.Native.Nat.{ℕ, zero, suc, ◌+◌, ◌*◌, ◌-◌, ◌/◌, ◌<◌, ◌≤◌}
use mathlib.Core.Path.{◌≡◌, refl, sym, ap, ◌∙◌}
use mathlib.Core.List.{append-nil, append_assoc, List, [], ◌∷◌, ◌++◌, map, flat_map}
use lib.ListN.{length, take, drop, length-take, length-drop}
use borrow.Rule.Slice.PartMut.{put_mid}
use lib.Seq.{sets, length-sets, take_all, take-nil, take-append-le, sets-eq, drop-drop}
use native.Mathlib.Omega.{arith}
use native.Mathlib.Nat.{mul-zero, mul-add}
use native.Mathlib.Decide.{dec_le}
use Rattle.words.proofs.Written.{sets_append, flat_long, take_append_more}
use Rattle.words.proofs.Listed.{flat_append}
use Rattle.regions.specs.Calls.{room, written}
use Rattle.answers.specs.Items.{written_from, as_words}

module _ {X : Type 0} (words : X → List ℕ) (width : ℕ) where
  -- from item 0 on: the whole answer
  pub from_first : (out : List ℕ) (xs : List X) → written_from words width 0 out xs ≡ written words width out xs
  unfolding written_from written
  from_first out xs =
      let e : room width out - 0 ≡ room width out = omega arith in
      rw (mul-zero width, e)

  pub from_none : (k : ℕ) (out : List ℕ) → written_from words width k out [] ≡ out
  unfolding written_from flat_map
  from_none k out = rw (take-nil {A = X} (room width out - k))

  pub from_long : (k : ℕ) (out : List ℕ) (xs : List X) → length (written_from words width k out xs) ≡ length out
  unfolding written_from
  from_long k out xs = length-sets out (width * k) (flat_map words (take (room width out - k) xs))

  pub from_full : (k : ℕ) (out : List ℕ) (xs : List X) → room width out ≤ k → written_from words width k out xs ≡ out
  unfolding written_from flat_map
  from_full k out xs h = let e : room width out - k ≡ 0 = omega arith in rw e

  pub from_one : (k : ℕ) (out : List ℕ) (x : X) → k < room width out → written_from words width k out (x ∷ []) ≡ sets out (width * k) (words x ++ [])
  unfolding written_from flat_map
  from_one k out x h =
      let e : room width out - k ≡ suc (room width out - k - 1) = omega arith in
      rw (e, take-nil {A = X} (room width out - k - 1))

  -- items that another kind of item stands for
  pub from_map : {Y : Type 0} (g : Y → X) (k : ℕ) (out : List ℕ) (ys : List Y) → written_from words width k out (map g ys) ≡ written_from (λ y. words (g y)) width k out ys
  unfolding written_from flat_map
  from_map {Y} g k out ys = ap (λ l. sets out (width * k) l) (go (room width out - k) ys)
    where
      go : (n : ℕ) (zs : List Y) → flat_map words (take n (map g zs)) ≡ flat_map (λ y. words (g y)) (take n zs)
      go zero zs = refl
      go (suc n) [] = refl
      go (suc n) (z ∷ zs) = ap (λ l. words (g z) ++ l) (go n zs)

-- FIRST SOME, THEN MORE
module _ {X : Type 0} (words : X → List ℕ) (width : ℕ) (wide : (x : X) → length (words x) ≡ width) (k : ℕ) (out : List ℕ) (xs ys : List X) where
  same_room : room width (written_from words width k out xs) ≡ room width out
  same_room = ap (λ (n : ℕ). n / width) (from_long words width k out xs)

  all_fit : length xs ≤ room width out - k → written_from words width k out (xs ++ ys) ≡ written_from words width (k + length xs) (written_from words width k out xs) ys
  unfolding written_from
  all_fit h =
      let c = room width out - k in
      let e : room width out - (k + length xs) ≡ c - length xs = omega arith in
      let a : width * (k + length xs) ≡ width * k + length (flat_map words xs) = mul-add width k (length xs) ∙ ap (λ n. width * k + n) (sym (flat_long words width wide xs)) in
      ap (λ l. sets out (width * k) (flat_map words l)) (take_append_more xs ys c h)
      ∙ ap (λ l. sets out (width * k) l) (flat_append words xs (take (c - length xs) ys))
      ∙ sym (sets_append out (width * k) (width * (k + length xs)) (flat_map words xs) (flat_map words (take (c - length xs) ys)) a)
      ∙ rw (length-sets out (width * k) (flat_map words (take c xs)), e, take_all c xs h)

  some_fit : room width out - k ≤ length xs → written_from words width k out (xs ++ ys) ≡ written_from words width (k + length xs) (written_from words width k out xs) ys
  some_fit h =
      same_beginning ∙ sym (from_full words width (k + length xs) (written_from words width k out xs) ys (omega (arith, same_room)))
    where
      same_beginning : written_from words width k out (xs ++ ys) ≡ written_from words width k out xs
      same_beginning = unfold written_from in rw (take-append-le (room width out - k) xs ys h)

  pub from_append : written_from words width k out (xs ++ ys) ≡ written_from words width (k + length xs) (written_from words width k out xs) ys
  from_append = elim (dec_le (length xs) (room width out - k)) [ yes h ↦ all_fit h | no h ↦ some_fit (omega arith) ]

-- an item of four words, written in the place of those that stand there
pub item_written : (k n : ℕ) (out ws item : List ℕ) → k < room 4 out → n ≡ 4 → length ws ≡ length (take n (drop (4 * k) out)) → ws ≡ item
    → put_mid (4 * k) n out ws ≡ written_from as_words 4 k out (item ∷ [])
item_written k n out ws item h f l e =
    let fits : length ws ≡ 4 = l ∙ length-take n (drop (4 * k) out) ∙ omega (arith, length-drop (4 * k) out) in
    let all : ws ++ [] ≡ ws = append-nil ws in
    let rest : drop n (drop (4 * k) out) ≡ drop (4 * k + length ws) out = rw (fits, f) (drop-drop 4 (4 * k) out) in
    rw (rest, ← e)
    (sym (append_assoc (take (4 * k) out) ws (drop (4 * k + length ws) out)) ∙ sym (sets-eq ws out (4 * k) (omega arith)) ∙ rw (from_one as_words 4 k out ws h, all))
