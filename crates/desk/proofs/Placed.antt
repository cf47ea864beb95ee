-- A part's words are the buffer's own: where the number is 0, word j of the part stands where the buffer's word 128 i + j does, and is that word. A refused part has none.
-- Assumes nothing.
use Prim.Native.Nat.{ℕ, ◌+◌, ◌*◌, ◌<◌}
use mathlib.Core.Path.{◌≡◌, ap, ◌∙◌}
use mathlib.Core.Bool.{Bool, cond}
use mathlib.Core.List.{List, []}
use native.Mathlib.Omega.{arith}
use lib.ListN.{take, drop, get_or}
use lib.Seq.{get_or-take, get_or-drop}
use denote.Ref.{Bor}
use borrow.Author.Tests.{eq-eqb, ne_eqb}
use Rattle.regions.specs.Desk.{seat_word, part, part_no}
use Rattle.regions.specs.declared.Seat.{Seat}
use Rattle.parts.specs.Lent.{word_at}
use Rattle.desk.specs.Promises.{LendsPart}

module _ (ds : List Seat) (b : Bor (List ℕ)) (i n : ℕ) (r : Bor (List ℕ)) (x : LendsPart ds b i n r) (done : part_no ds b.now i n ≡ 0) where
  pub word_stands : (j : ℕ) → word_at r j ≡ word_at b (seat_word i + j)
  word_stands j = rw (x.place_is done) (ap (λ (k : ℕ). (b.ref_ptr.0, k)) (omega arith))

  pub word_is : (j d : ℕ) → j < 4 * n → get_or r.now j d ≡ get_or b.now (seat_word i + j) d
  unfolding part
  word_is j d h =
      let ws = take (4 * n) (drop (seat_word i) b.now) in
      let e : r.now ≡ ws = x.part_is.words_are ∙ ap (λ (t : Bool). cond t ws []) (eq-eqb _ _ done) in
      ap (λ (l : List ℕ). get_or l j d) e ∙ get_or-take (4 * n) (drop (seat_word i) b.now) j d h ∙ get_or-drop (seat_word i) b.now j d

pub refused_empty : (ds : List Seat) (b : Bor (List ℕ)) (i n : ℕ) (r : Bor (List ℕ)) → LendsPart ds b i n r → (part_no ds b.now i n ≡ 0 → ⊥) → r.now ≡ []
unfolding part
refused_empty ds b i n r x refused = x.part_is.words_are ∙ ap (λ (t : Bool). cond t (take (4 * n) (drop (seat_word i) b.now)) []) (ne_eqb _ _ refused)
