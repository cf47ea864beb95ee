-- The test of a desk: what the chain over its seats answers, and what a desk shows that passed it.
-- Assumes nothing.
use Prim.Native.Nat.{ℕ, zero, suc, ◌<◌}
use native.Mathlib.Omega.{arith}
use mathlib.Core.Path.{◌≡◌}
use mathlib.Core.Bool.{Bool, true}
use mathlib.Core.List.{List, [], ◌∷◌}
use lib.ListN.{length, get_or}
use Rattle.std.specs.Prelude.{IsTrue, ◌↔◌}
use Rattle.std.specs.List.{All as AllAt}
use Rattle.words.specs.Lists.{all, All}
use Rattle.words.proofs.Tests.{both, T_of, of_T}
use Rattle.regions.specs.Desk.{seat_at, closed, seat_fits, desk_fits}
use Rattle.regions.specs.declared.Seat.{Seat}
use Rattle.regions.proofs.Done.{DeskOk, desk_fits_lem}
use Rattle.regions.proofs.Seats.{seats_each, each_seats}

-- A DESK THAT FITS
pub eight_seats : (ds : List Seat) → desk_fits ds ≡ true → length ds ≡ 8
eight_seats ds e = (desk_fits_lem ds e).eight

all_at : {A : Type 0} (P : A → Type 0) (xs : List A) (i : ℕ) (d : A) → All P xs → i < length xs → P (get_or xs i d)
all_at P [] i d a h = absurd (omega arith)
all_at P (x ∷ xs) zero d a h = a.0
all_at P (x ∷ xs) (suc i) d a h = all_at P xs i d a.1 (omega arith)

pub each_ok : (ds : List Seat) (i : ℕ) → DeskOk ds → i < 8 → seat_fits (seat_at ds i) ≡ true
each_ok ds i k h = all_at (λ s. seat_fits s ≡ true) ds i closed (seats_each ds k.seats) (let e = k.eight in omega arith)

pub each_fits : (ds : List Seat) (i : ℕ) → desk_fits ds ≡ true → i < 8 → seat_fits (seat_at ds i) ≡ true
each_fits ds i e h = each_ok ds i (desk_fits_lem ds e) h

-- A CHAIN OVER THE SEATS asks each by its place
at_all : {A : Type 0} (P : A → Type 0) (xs : List A) → ((i : ℕ) (d : A) → i < length xs → P (get_or xs i d)) → All P xs
at_all P [] h = tt
at_all P (x ∷ xs) h = (h zero x (omega arith), at_all P xs (λ i d l. h (suc i) d (omega arith)))

pub all_fit : (b : Bool) (ds : List Seat) → (IsTrue b ↔ AllAt (λ s. IsTrue (seat_fits s)) ds) → b ≡ all seat_fits ds
all_fit b ds e =
    both b (all seat_fits ds)
    (λ t. T_of (each_seats ds (at_all (λ s. seat_fits s ≡ true) ds (e.0 (of_T b t)))))
    (λ t. T_of (e.1 (λ i d l. all_at (λ s. seat_fits s ≡ true) ds i d (seats_each ds (of_T _ t)) l)))
