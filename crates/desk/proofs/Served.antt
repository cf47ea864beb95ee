-- A round's number, what it shows where it is 0, and that what stands after all turns is what the promise says. A refused round is one of no turn.
-- Assumes nothing.
use Prim.Native.Nat.{ℕ}
use mathlib.Core.Path.{◌≡◌, refl, sym, ap₂, ◌∙◌}
use mathlib.Core.Bool.{Bool, ◌&&◌}
use mathlib.Core.List.{List}
use lib.Dec.{T, eqb, eqb→eq}
use lib.ListN.{length, replicate}
use borrow.Author.Tests.{eq-eqb, ne_eqb}
use Rattle.words.proofs.Tests.{of_T, T_of, and_left, and_right}
use Rattle.regions.specs.Numbers.{image_first}
use Rattle.regions.specs.Sets.{Set}
use Rattle.regions.specs.Desk.{desk_fits, buffer_fits, round_no}
use Rattle.regions.specs.declared.Seat.{Seat}
use Rattle.regions.proofs.Numbers.{image_right, own_right}
use Rattle.regions.proofs.Done.{fits_desk, round_done}
use Rattle.image.specs.Read.{set_of}
use Rattle.image.specs.Valid.{valid}
use Rattle.seats.specs.Steps.{rounds_no}
use Rattle.turns.specs.Steps.{MayServe, Serves}
use Rattle.desk.specs.Promises.{Rounds}

module _ (os ns : List ℕ) (ys : List Seat) where
  abbrev X : Set
  X = set_of os

  abbrev Y : Set
  Y = set_of ns

  module _ (zs : List ℕ) where
    -- THE NUMBER
    unfoldable pub number_of : ℕ
    number_of = image_first (valid os && valid ns) (round_no ys zs)

    pub number_is : rounds_no (valid os && valid ns) (desk_fits ys) (length zs) ≡ number_of
    unfolding number_of round_no buffer_fits
    number_is = refl

    -- what a round that is not refused has shown
    pub tested : T (eqb number_of 0) → MayServe os ns ys zs
    unfolding number_of
    tested h =
        let z = sym (eqb→eq _ 0 h) in
        let v = T_of (image_right (valid os && valid ns) (round_no ys zs) z) in
        let m = round_done ys zs (own_right (valid os && valid ns) (round_no ys zs) z) in
        record {
          outer_valid = of_T _ (and_left (valid os) (valid ns) v);
          inner_valid = of_T _ (and_right (valid os) (valid ns) v);
          fits = fits_desk ys m.fits;
          words = m.words;
        }

    -- THE END: the number, by what the three tests answered; a refused round, and one that was served
    pub told_number : (n : ℕ) (images desk : Bool) → n ≡ rounds_no images desk (length zs) → images ≡ (valid os && valid ns) → desk ≡ desk_fits ys → n ≡ number_of
    told_number n images desk e f g = e ∙ ap₂ (λ (a b : Bool). rounds_no a b (length zs)) f g ∙ number_is

    pub may_serve : 0 ≡ number_of → MayServe os ns ys zs
    may_serve e = tested (T_of (eq-eqb _ _ (sym e)))

    pub round_refused : (n : ℕ) → n ≡ number_of → (n ≡ 0 → ⊥) → Rounds os ns ys zs n (replicate 8 0) ys zs
    unfolding number_of
    round_refused n e h = let f = ne_eqb _ _ h in record { number_is = e; counts_are = rw f refl; desk_is = rw f refl; buffer_is = rw f refl }

    pub round_served : (ds : List Seat) (cs b : List ℕ) → 0 ≡ number_of → Serves X Y ys zs ds cs b → Rounds os ns ys zs 0 cs ds b
    unfolding number_of
    round_served ds cs b e s = record { number_is = e; counts_are = s.counts_are; desk_is = s.desk_is; buffer_is = s.buffer_is }
