-- The desk's promises, from those of its calls: the seats that were read, and the desk that is left.
-- Assumes nothing.
use Prim.Native.Nat.{ℕ, ◌*◌}
use mathlib.Core.Path.{◌≡◌, refl, sym, ap, subst, ◌∙◌}
use mathlib.Core.Bool.{Bool, cond, not}
use mathlib.Core.List.{List, [], map}
use lib.ListN.{length, take, drop, replicate}
use borrow.Author.Tests.{eq-eqb, ne_eqb}
use Rattle.words.specs.Lists.{first_no}
use Rattle.regions.specs.Numbers.{unless, DESK}
use Rattle.flat.specs.Numbers.{kind_of}
use Rattle.regions.specs.Desk.{closed, seat_word, open_desk_no, part, part_no}
use Rattle.regions.specs.declared.Kind.{Kind}
use Rattle.regions.specs.declared.Seat.{Seat}
use Rattle.desk.specs.Promises.{OpensSeat, ClosesSeat, Rounds, PartNumber}
use Rattle.flat.specs.Seats.{seat_of, flat_seat}
use Rattle.flat.specs.declared.FlatSeat.{FlatSeat}
use Rattle.capi.specs.Seats.{Left, OpensFlatDesk, OpensFlatSeat, ClosesFlatSeat, RoundsFlat, PartsFlat}

eight_open : (ds : List Seat) → length ds ≡ 8 → open_desk_no ds ≡ 0
unfolding open_desk_no first_no
eight_open ds n = ap (λ (t : Bool). cond (not t) DESK 0) (eq-eqb (length ds) 8 n)

-- a desk of eight closed seats is what opening leaves of any eight
pub opens_desk : (s : Seat) (fs' : List FlatSeat) → s ≡ closed → fs' ≡ map flat_seat (replicate 8 s) → OpensFlatDesk fs'
opens_desk s fs' shut left =
    record {
      seats = replicate 8 closed;
      opens = λ ds n. record { number_is = sym (eight_open ds n); desk_is = refl };
      left = left ∙ ap (λ (x : Seat). map flat_seat (replicate 8 x)) shut;
    }

module _ (fs : List FlatSeat) (ds : List Seat) (read : ds ≡ map seat_of fs) where
  pub opens_seat_lem : (i account kind limit number : ℕ) (k : Kind) (seats : List Seat) (fs' : List FlatSeat)
      → k ≡ kind_of kind
      → (n : ℕ)
      → number ≡ n
      → OpensSeat ds i account k limit n seats
      → Left number fs seats fs'
      → OpensFlatSeat fs i account kind limit number fs'
  opens_seat_lem i account kind limit number k seats fs' is n told opens' left =
      let opens = subst (λ (m : ℕ). OpensSeat ds i account k limit m seats) (sym told) opens' in
      let of-kind = subst (λ (x : Kind). OpensSeat ds i account x limit number seats) is opens in
      record { seats = seats; opens = subst (λ (xs : List Seat). OpensSeat xs i account (kind_of kind) limit number seats) read of-kind; left = left }

  pub closes_seat_lem : (i number : ℕ) (seats : List Seat) (fs' : List FlatSeat) (n : ℕ) → number ≡ n → ClosesSeat ds i n seats → Left number fs seats fs' → ClosesFlatSeat fs i number fs'
  closes_seat_lem i number seats fs' n told closes' left =
      let closes = subst (λ (m : ℕ). ClosesSeat ds i m seats) (sym told) closes' in
      record { seats = seats; closes = subst (λ (xs : List Seat). ClosesSeat xs i number seats) read closes; left = left }

  pub rounds : (outer inner b : List ℕ) (number : ℕ) (cs : List ℕ) (seats : List Seat) (fs' : List FlatSeat) (b' : List ℕ)
      → Rounds outer inner ds b number cs seats b'
      → Left number fs seats fs'
      → RoundsFlat outer inner fs b number cs fs' b'
  rounds outer inner b number cs seats fs' b' serves left =
      record { seats = seats; rounds = subst (λ (xs : List Seat). Rounds outer inner xs b number cs seats b') read serves; left = left }

  number_meant : (b : List ℕ) (i count number : ℕ) → PartNumber ds b i count number → number ≡ part_no (map seat_of fs) b i count
  number_meant b i count number asked = asked.number_is ∙ ap (λ (xs : List Seat). part_no xs b i count) read

  pub part_there : (b : List ℕ) (i count : ℕ) → PartNumber ds b i count 0 → PartsFlat fs b i count 0 (128 * i) (4 * count)
  unfolding part
  part_there b i count asked =
      let none : 0 ≡ part_no (map seat_of fs) b i count = number_meant b i count 0 asked in
      record {
        number_is = record { number_is = none };
        part_is = record { words_are = ap (λ (n : ℕ). unless n (take (4 * count) (drop (seat_word i) b)) []) none };
        first_is = refl;
        words_are = refl;
      }

  pub part_refused : (b : List ℕ) (i count number : ℕ) → PartNumber ds b i count number → (number ≡ 0 → ⊥) → PartsFlat fs b i count number 0 0
  unfolding part
  part_refused b i count number asked some =
      let meant : number ≡ part_no (map seat_of fs) b i count = number_meant b i count number asked in
      record {
        number_is = record { number_is = meant };
        part_is = record {
          words_are = sym (ap (λ (t : Bool). cond t (take (4 * count) (drop (seat_word i) b)) []) (ne_eqb number 0 some)) ∙
              ap (λ (n : ℕ). unless n (take (4 * count) (drop (seat_word i) b)) []) meant;
        };
        first_is = sym (ap (λ (t : Bool). cond t (seat_word i) 0) (ne_eqb number 0 some));
        words_are = sym (ap (λ (t : Bool). cond t (4 * count) 0) (ne_eqb number 0 some));
      }
