-- Seats in numbers: what the small functions make, and that a seat told in numbers is read back as it was.
-- Assumes nothing.
use Prim.Native.Nat.{ℕ, ◌<◌, ◌≤◌}
use mathlib.Core.Path.{◌≡◌, sym, ap, ◌∙◌, refl}
use mathlib.Core.List.{List, [], ◌∷◌, map}
use lib.ListN.{length, get_or, length-map, get_or-map}
use lib.Seq.{ext_get_or}
use native.Mathlib.Omega.{arith}
use Rattle.regions.specs.declared.Mark.{Mark}
use Rattle.regions.specs.declared.Open.{Open}
use Rattle.regions.specs.Desk.{open_at}
use Rattle.regions.specs.declared.Kind.{Kind}
use Rattle.regions.specs.declared.Kind.TheVariants.{Ancestor, Parent, AncestorOrSelf}
use Rattle.regions.specs.declared.Mark.TheVariants.{Fresh, Last}
use Rattle.regions.specs.declared.State.{State}
use Rattle.regions.specs.declared.State.TheVariants.{Closed, Open as Opened}
use Rattle.regions.specs.declared.Seat.{Seat}
use Rattle.flat.specs.Numbers.{kind_number, kind_of, mark_of, seat_of_numbers}
use Rattle.flat.specs.Seats.{flat_marked, flat_open, seat_of, flat_state, flat_seat}

pub flat_at : (o : Open) (k : ℕ) (m : Mark) → k ≡ kind_number o.kind → o.mark ≡ m → flat_marked o.account k o.limit m ≡ flat_open o
unfolding flat_open
flat_at o k m kind mark =
    ap (λ (x : ℕ). flat_marked o.account x o.limit m) kind ∙
    ap (λ (y : Mark). flat_marked o.account (kind_number o.kind) o.limit y) (sym mark)

-- EIGHT AT A TIME: what a function makes of each of some is what it makes of the list
pub mapped : {A B : Type 0} (f : A → B) (d : A) (xs : List A) (ys : List B) (n : ℕ) → length xs ≡ n → length ys ≡ n
    → ((i : ℕ) → i < n → get_or ys i (f d) ≡ f (get_or xs i d)) → ys ≡ map f xs
mapped f d xs ys n e k each =
    ext_get_or (f d) ys (map f xs) (k ∙ sym (length-map xs f ∙ e)) (λ i h. each i (omega arith) ∙ sym (get_or-map f xs i d))

-- one after the other: the first i of n are made
abbrev pub Made : {A B : Type 0} → (A → B) → A → List A → List B → ℕ → ℕ → Type 0
Made f d xs ys n i = (length ys ≡ n) × ((k : ℕ) → k < i → get_or ys k (f d) ≡ f (get_or xs k d))

pub all_made : {A B : Type 0} (f : A → B) (d : A) (xs : List A) (ys : List B) (n i : ℕ) → length xs ≡ n → Made f d xs ys n i → n ≤ i → ys ≡ map f xs
all_made f d xs ys n i e m l = mapped f d xs ys n e m.0 (λ k h. m.1 k (omega arith))

-- A SEAT TOLD IN NUMBERS IS READ BACK AS IT WAS
pub kind_back : (k : Kind) → kind_of (kind_number k) ≡ k
unfolding kind_of kind_number
kind_back Ancestor = refl
kind_back Parent = refl
kind_back AncestorOrSelf = refl

pub open_back : (account limit : ℕ) (kind : Kind) (m : Mark)
    → seat_of (flat_marked account (kind_number kind) limit m) ≡ open_at (record { account = account; kind = kind; limit = limit; mark = m })
unfolding seat_of_numbers flat_marked mark_of
open_back account limit kind Fresh = ap (λ (k : Kind). open_at (record { account = account; kind = k; limit = limit; mark = Fresh })) (kind_back kind)
open_back account limit kind (Last a d) = ap (λ (k : Kind). open_at (record { account = account; kind = k; limit = limit; mark = Last a d })) (kind_back kind)

pub state_back : (s : State) → seat_of (flat_state s) ≡ record { state = s }
unfolding flat_state flat_open seat_of_numbers
state_back Closed = refl
state_back (Opened o) = open_back o.account o.limit o.kind o.mark

pub desk_back : (ds : List Seat) → map seat_of (map flat_seat ds) ≡ ds
desk_back [] = refl
desk_back (s ∷ ds) = ap (λ (x : Seat). x ∷ map seat_of (map flat_seat ds)) (state_back s.state) ∙ ap (λ (xs : List Seat). s ∷ xs) (desk_back ds)
