-- What stands after i turns of a round: the seats, the counts and the buffer, each as a function of i. After the last one it is what all eight do.
-- Assumes nothing.
use Prim.Native.Nat.{ℕ, ◌+◌, ◌<◌, ◌≤◌}
use native.Mathlib.Numerals.{add-one}
use native.Mathlib.Omega.{arith}
use mathlib.Core.Path.{◌≡◌, refl, sym, ap, ap₂, ◌∙◌, subst}
use mathlib.Core.List.{List, map}
use lib.ListN.{length, set, replicate, length-map, get_or-map}
use lib.Seq.{sets}
use Rattle.regions.specs.Limits.{seat_count}
use Rattle.regions.specs.Sets.{Set}
use Rattle.regions.specs.Desk.{closed, seat_at, seat_fits, seat_word, state_handed, state_turned, turned, handed_words, count_handed, counts, served}
use Rattle.regions.specs.declared.Seat.{Seat}
use Rattle.image.specs.Read.{set_of}
use Rattle.seats.proofs.Fitting.{eight_seats, each_fits}
use Rattle.turns.specs.Steps.{MayTurn, Turns, MayServe, Serves}
use Rattle.turns.proofs.Turned.{put_at, put_later, put_all, poured_at, poured_at_long, poured_all}

module _ (X Y : Set) (ys : List Seat) where
  abbrev pub desk_at : ℕ → List Seat
  desk_at i = put_at (λ k. turned X Y (seat_at ys k)) i ys

  abbrev pub counts_at : ℕ → List ℕ
  counts_at i = put_at (λ k. count_handed X Y (seat_at ys k)) i (replicate 8 0)

  -- the seat whose turn it is has not been touched
  pub seat_now : (i : ℕ) → seat_at (desk_at i) i ≡ seat_at ys i
  seat_now i = put_later (λ k. turned X Y (seat_at ys k)) i ys i closed (omega arith)

  pub desk_next : (i : ℕ) (s : Seat) → s ≡ turned X Y (seat_at (desk_at i) i) → set (desk_at i) i s ≡ desk_at (i + 1)
  unfolding put_at
  desk_next i s e = ap (set (desk_at i) i) (e ∙ ap (turned X Y) (seat_now i)) ∙ ap desk_at (sym (add-one i))

  pub counts_next : (i n : ℕ) → n ≡ count_handed X Y (seat_at (desk_at i) i) → set (counts_at i) i n ≡ counts_at (i + 1)
  unfolding put_at
  counts_next i n e = ap (set (counts_at i) i) (e ∙ ap (count_handed X Y) (seat_now i)) ∙ ap counts_at (sym (add-one i))

  module _ (zs : List ℕ) where
    abbrev pub buffer_at : ℕ → List ℕ
    buffer_at i = poured_at (handed_words X Y) i ys zs

    pub buffer_next : (i : ℕ) (w : List ℕ) → w ≡ sets (buffer_at i) (seat_word i) (handed_words X Y (seat_at (desk_at i) i)) → w ≡ buffer_at (i + 1)
    unfolding poured_at
    buffer_next i w e = e ∙ ap (λ (s : Seat). sets (buffer_at i) (seat_word i) (handed_words X Y s)) (seat_now i) ∙ ap buffer_at (sym (add-one i))

    -- THE LAST TURN
    all_desk : length ys ≡ 8 → desk_at 8 ≡ map (turned X Y) ys
    unfolding state_turned
    all_desk e = put_all _ 8 ys (map (turned X Y) ys) closed e (length-map ys (turned X Y) ∙ e) (λ j h. sym (get_or-map (turned X Y) ys j closed))

    all_counts : length ys ≡ 8 → counts_at 8 ≡ counts X Y ys
    unfolding state_handed
    all_counts e = put_all _ 8 (replicate 8 0) (counts X Y ys) 0 refl (length-map ys (count_handed X Y) ∙ e) (λ j h. sym (get_or-map (count_handed X Y) ys j closed))

    all_words : length ys ≡ 8 → buffer_at 8 ≡ served X Y ys zs
    all_words e = ap buffer_at (sym e) ∙ poured_all (handed_words X Y) ys zs

    pub all_served : length ys ≡ 8 → Serves X Y ys zs (desk_at 8) (counts_at 8) (buffer_at 8)
    all_served e = record { desk_is = all_desk e; counts_are = all_counts e; buffer_is = all_words e }

-- WHAT STANDS, said of the seats, counts and words at hand
module _ (os ns : List ℕ) (ys : List Seat) (zs : List ℕ) where
  abbrev X : Set
  X = set_of os

  abbrev Y : Set
  Y = set_of ns

  pub record Stands (i : ℕ) (ds : List Seat) (cs b : List ℕ) : Type 0 where
    pub few : i ≤ seat_count
    pub desk_is : ds ≡ desk_at X Y ys i
    pub counts_are : cs ≡ counts_at X Y ys i
    pub buffer_is : b ≡ buffer_at X Y ys zs i

  pub stands_first : Stands 0 ys (replicate 8 0) zs
  unfolding put_at poured_at
  stands_first = record { few = omega arith; desk_is = refl; counts_are = refl; buffer_is = refl }

  module _ (i : ℕ) (ds : List Seat) (cs b : List ℕ) (s : Stands i ds cs b) where
    pub stands_long : length b ≡ length zs
    stands_long = ap length s.buffer_is ∙ poured_at_long (handed_words X Y) i ys zs

    seat_same : seat_at ds i ≡ seat_at (desk_at X Y ys i) i
    seat_same = ap (λ (l : List Seat). seat_at l i) s.desk_is

    pub stands_may : MayServe os ns ys zs → i < seat_count → MayTurn os ns (seat_at ds i) b i
    stands_may m l =
        record {
          outer_valid = m.outer_valid;
          inner_valid = m.inner_valid;
          words = stands_long ∙ m.words;
          seat = l;
          fits = ap seat_fits (seat_same ∙ seat_now X Y ys i) ∙ each_fits ys i m.fits l;
        }

    pub stands_next : i < seat_count → (t : Seat) (n : ℕ) (b' : List ℕ) → Turns X Y (seat_at ds i) b i t n b' → Stands (i + 1) (set ds i t) (set cs i n) b'
    stands_next l t n b' u =
        record {
          few = omega arith;
          desk_is = ap (λ (l : List Seat). set l i t) s.desk_is ∙ desk_next X Y ys i t (subst (λ (v : Seat). t ≡ turned X Y v) seat_same u.seat_is);
          counts_are = ap (λ (l : List ℕ). set l i n) s.counts_are ∙ counts_next X Y ys i n (u.count_is ∙ ap (count_handed X Y) seat_same);
          buffer_is = buffer_next X Y ys zs i b' (u.buffer_is ∙ ap₂ (λ (l : List ℕ) (v : Seat). sets l (seat_word i) (handed_words X Y v)) s.buffer_is seat_same);
        }

    pub stands_last : MayServe os ns ys zs → seat_count ≤ i → Serves X Y ys zs ds cs b
    stands_last m l =
        let eight : i ≡ 8 = omega (arith, s.few) in
        let all = all_served X Y ys zs (eight_seats ys m.fits) in
        record {
          desk_is = s.desk_is ∙ ap (desk_at X Y ys) eight ∙ all.desk_is;
          counts_are = s.counts_are ∙ ap (counts_at X Y ys) eight ∙ all.counts_are;
          buffer_is = s.buffer_is ∙ ap (buffer_at X Y ys zs) eight ∙ all.buffer_is;
        }
