-- How a call on the desk ends, by the tests that led there: its promise is kept.
-- Assumes nothing.
use Prim.Native.Nat.{ℕ, ◌<◌, ◌≤◌}
use mathlib.Core.Path.{◌≡◌, refl, sym, ap, ◌∙◌}
use mathlib.Core.Bool.{Bool, true, false, not, ◌||◌}
use mathlib.Core.List.{List, [], ◌∷◌}
use lib.Dec.{ltb}
use lib.ListN.{length, set, replicate}
use native.Mathlib.Omega.{arith}
use denote.Ref.{Bor}
use borrow.Author.Tests.{ne_eqb}
use Rattle.words.specs.Lists.{first_no}
use Rattle.words.proofs.Tests.{eq_yes, lt_yes, lt_no, nlt_of, not_false, and_true, and_false, first_0}
use Rattle.regions.specs.Limits.{last_seat, seat_count, buffer_words}
use Rattle.regions.specs.Numbers.{DONE, DESK, SEAT}
use Rattle.regions.specs.Desk.{closed, opened, seat_at, is_open, desk_fits, buffer_fits, open_desk_no, open_seat_no, close_seat_no, part_no, part}
use Rattle.regions.specs.declared.Kind.{Kind}
use Rattle.regions.specs.declared.Seat.{Seat}
use Rattle.seats.specs.Steps.{Opens, opens_no, Closes, closes_no, asked_no}
use Rattle.parts.specs.Lent.{PartBy}
use Rattle.desk.specs.Promises.{OpensDesk, OpensSeat, ClosesSeat, LendsPart, PartNumber, place_no}

-- the tests behind those of the place are asked of nobody whom these refuse
placed_behind : (u v w : Bool) (ts : List (Bool × ℕ)) → (first_no ((not u, DESK) ∷ (v, SEAT) ∷ []) ≡ 0 → ⊥)
    → first_no ((not u, DESK) ∷ (v, SEAT) ∷ []) ≡ first_no ((not u, DESK) ∷ (v || w, SEAT) ∷ ts)
unfolding first_no
placed_behind false v w ts h = refl
placed_behind true true w ts h = refl
placed_behind true false w ts h = absurd (h refl)

module _ (ds : List Seat) where
  pub desk_opened : length ds ≡ 8 → OpensDesk ds 0 (replicate seat_count closed)
  unfolding open_desk_no first_no
  desk_opened e = record { number_is = rw (eq_yes (length ds) 8 e) refl; desk_is = refl }

  pub desk_unopened : (length ds ≡ 8 → ⊥) → OpensDesk ds DESK ds
  unfolding open_desk_no first_no
  desk_unopened h = record { number_is = rw (ne_eqb (length ds) 8 h) refl; desk_is = refl }

  module _ (i : ℕ) where
    -- THE PLACE: what its three ways out say, and what an answer without a refusal shows
    pub place_unfit : desk_fits ds ≡ false → DESK ≡ place_no ds i
    unfolding place_no first_no
    place_unfit e = rw e refl

    pub place_none : desk_fits ds ≡ true → last_seat < i → SEAT ≡ place_no ds i
    unfolding place_no first_no
    place_none e l = rw (e, lt_yes 7 i l) refl

    pub place_there : desk_fits ds ≡ true → i ≤ last_seat → DONE ≡ place_no ds i
    unfolding place_no first_no
    place_there e l = rw (e, lt_no 7 i l) refl

    pub place_fits : DONE ≡ place_no ds i → desk_fits ds ≡ true
    unfolding place_no
    place_fits z = not_false (desk_fits ds) (first_0 (not (desk_fits ds)) 10 _ (sym z)).0

    pub place_below : DONE ≡ place_no ds i → i < seat_count
    unfolding place_no
    place_below z =
        let l = nlt_of 7 i (first_0 (ltb 7 i) 8 [] (first_0 (not (desk_fits ds)) 10 _ (sym z)).1).0 in
        omega arith

  module _ (i account : ℕ) (kind : Kind) (limit : ℕ) where
    pub open_no_place : (n : ℕ) → (n ≡ 0 → ⊥) → n ≡ place_no ds i → OpensSeat ds i account kind limit n ds
    unfolding place_no open_seat_no
    open_no_place n h e =
        record { number_is = e ∙ placed_behind (desk_fits ds) (ltb 7 i) (is_open (seat_at ds i)) _ (λ z. h (e ∙ z)); desk_is = rw (ne_eqb n 0 h) refl }

    opens_number : DONE ≡ place_no ds i → (n : ℕ) → n ≡ opens_no (seat_at ds i).state account limit → n ≡ open_seat_no ds i account limit
    unfolding open_seat_no first_no
    opens_number z n e = let l = place_below i z in rw (place_fits i z, lt_no 7 i (omega arith)) e

    pub open_refused : DONE ≡ place_no ds i → (j : ℕ) → j ≡ i → (n : ℕ) (s : Seat) → (n ≡ 0 → ⊥) → Opens (seat_at ds j) account kind limit n s → OpensSeat ds i account kind limit n ds
    open_refused z j same n s h o =
        record { number_is = opens_number z n (o.number_is ∙ ap (λ (k : ℕ). opens_no (seat_at ds k).state account limit) same); desk_is = rw (ne_eqb n 0 h) refl }

    pub open_stored : DONE ≡ place_no ds i → (j : ℕ) → j ≡ i → (s : Seat) → Opens (seat_at ds j) account kind limit 0 s → OpensSeat ds i account kind limit 0 (set ds j s)
    open_stored z j same s o =
        record {
          number_is = opens_number z 0 (o.number_is ∙ ap (λ (k : ℕ). opens_no (seat_at ds k).state account limit) same);
          desk_is = ap (set ds j) o.seat_is ∙ ap (λ (k : ℕ). set ds k (opened account kind limit)) same;
        }

  module _ (i : ℕ) where
    pub close_no_place : (n : ℕ) → (n ≡ 0 → ⊥) → n ≡ place_no ds i → ClosesSeat ds i n ds
    unfolding place_no close_seat_no
    close_no_place n h e =
        record { number_is = e ∙ placed_behind (desk_fits ds) (ltb 7 i) (not (is_open (seat_at ds i))) _ (λ z. h (e ∙ z)); desk_is = rw (ne_eqb n 0 h) refl }

    closes_number : DONE ≡ place_no ds i → (n : ℕ) → n ≡ closes_no (seat_at ds i).state → n ≡ close_seat_no ds i
    unfolding close_seat_no first_no
    closes_number z n e = let l = place_below i z in rw (place_fits i z, lt_no 7 i (omega arith)) e

    pub close_refused : DONE ≡ place_no ds i → (j : ℕ) → j ≡ i → (n : ℕ) (s : Seat) → (n ≡ 0 → ⊥) → Closes (seat_at ds j) n s → ClosesSeat ds i n ds
    close_refused z j same n s h o =
        record { number_is = closes_number z n (o.number_is ∙ ap (λ (k : ℕ). closes_no (seat_at ds k).state) same); desk_is = rw (ne_eqb n 0 h) refl }

    pub close_stored : DONE ≡ place_no ds i → (j : ℕ) → j ≡ i → (s : Seat) → Closes (seat_at ds j) 0 s → ClosesSeat ds i 0 (set ds j s)
    close_stored z j same s o =
        record {
          number_is = closes_number z 0 (o.number_is ∙ ap (λ (k : ℕ). closes_no (seat_at ds k).state) same);
          desk_is = ap (set ds j) o.seat_is ∙ ap (λ (k : ℕ). set ds k closed) same;
        }

  -- the number of a request, by the tests that led there
  module _ (b : List ℕ) (i n : ℕ) where
    pub asked_no_buffer : (length b ≡ buffer_words → ⊥) → PartNumber ds b i n DESK
    unfolding part_no first_no buffer_fits
    asked_no_buffer f = record { number_is = rw (ne_eqb (length b) 1024 f, and_false (desk_fits ds)) refl }

    pub asked_no_desk : desk_fits ds ≡ false → PartNumber ds b i n DESK
    unfolding part_no first_no
    asked_no_desk e = record { number_is = rw e refl }

    pub asked_no_seat : desk_fits ds ≡ true → length b ≡ buffer_words → last_seat < i → PartNumber ds b i n SEAT
    unfolding part_no first_no buffer_fits
    asked_no_seat e f l = record { number_is = rw (e, eq_yes (length b) 1024 f, lt_yes 7 i l) refl }

    pub asked_no_place : length b ≡ buffer_words → (r : ℕ) → (r ≡ 0 → ⊥) → r ≡ place_no ds i → PartNumber ds b i n r
    unfolding place_no part_no buffer_fits
    asked_no_place f r h e =
        record {
          number_is = rw (eq_yes (length b) 1024 f, and_true (desk_fits ds))
              (e ∙ placed_behind (desk_fits ds) (ltb 7 i) (not (is_open (seat_at ds i))) _ (λ z. h (e ∙ z)));
        }

    pub asked_answered : length b ≡ buffer_words → DONE ≡ place_no ds i → (j : ℕ) → j ≡ i → (r : ℕ) → r ≡ asked_no (seat_at ds j).state n → PartNumber ds b i n r
    unfolding part_no first_no buffer_fits
    asked_answered f z j same r s =
        let l = place_below i z in
        record {
          number_is = rw (place_fits i z, eq_yes (length b) 1024 f, lt_no 7 i (omega arith))
              (s ∙ ap (λ (k : ℕ). asked_no (seat_at ds k).state n) same);
        }

  -- the part by its number is the part, and stands where the part does
  pub part_is : (b : Bor (List ℕ)) (i n : ℕ) (r : Bor (List ℕ)) → PartBy (part_no ds b.now i n) b i n r → LendsPart ds b i n r
  unfolding part
  part_is b i n r e = record { part_is = record { words_are = e.words_are }; place_is = e.place_is }
