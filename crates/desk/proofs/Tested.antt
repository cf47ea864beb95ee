-- What the test of a part shows, and what a stored seat leaves.
-- Assumes nothing.
use mathlib.Core.Path.{◌≡◌, refl}
use mathlib.Core.Bool.{Bool, true, false, not, cond}
use Prim.Native.Nat.{ℕ, ◌<◌, ◌^◌}
use native.Mathlib.Omega.{arith}
use mathlib.Core.List.{List}
use lib.Dec.{T, ltb, eqb, nltb→le, eqb→eq}
use lib.ListN.{set}
use lib.Seq.{set-get_or}
use Rattle.words.proofs.Tests.{T_of}
use Rattle.regions.specs.Numbers.{unless}
use Rattle.regions.specs.Desk.{closed, seat_at, seat_fits, part_no}
use Rattle.regions.specs.declared.Seat.{Seat}
use Rattle.regions.proofs.Done.{part_done}
use Rattle.regions.proofs.Seats.{limit_small}
use Rattle.seats.proofs.Fitting.{each_ok}
use Rattle.parts.specs.Lent.{PartThere}

-- of tests that are denied twice, of a seat's number, and of a word as a size
pub not_not : (t : Bool) → T (not (not t)) → t ≡ true
not_not true h = refl
not_not false h = absurd h

pub not_ne : (m n : ℕ) → T (not (not (eqb m n))) → m ≡ n
not_ne m n h = eqb→eq m n (T_of (not_not (eqb m n) h))

pub seat_below : (i : ℕ) → T (not (ltb 7 i)) → i < 8
seat_below i h = let l = nltb→le 7 i h in omega arith

pub wide : (n : ℕ) → n < 2 ^ 32 → n < 2 ^ 64
wide n h = omega arith

-- where a part is not refused, its words are there
pub part_there : (ds : List Seat) (b : List ℕ) (i n : ℕ) → PartThere (part_no ds b i n) b i n
part_there ds b i n e =
    let m = part_done ds b i n e in
    let f : seat_fits (seat_at ds i) ≡ true = each_ok ds i m.round.fits (let h = m.seat in omega arith) in
    (m.round.words, m.seat, let h = m.limit in let k = limit_small (seat_at ds i).state f in omega arith)

-- a seat that is stored as it was leaves the desk as it was
pub set_unless : (n : ℕ) (ds : List Seat) (i : ℕ) (s : Seat) → set ds i (unless n s (seat_at ds i)) ≡ unless n (set ds i s) ds
set_unless n ds i s = by_flag (eqb n 0)
  where
    by_flag : (t : Bool) → set ds i (cond t s (seat_at ds i)) ≡ cond t (set ds i s) ds
    by_flag true = refl
    by_flag false = set-get_or ds i closed
