-- The desk: a seat's turn keeps its ranges and hands no more than its limit; where a round's words stand, and that all others stay.
-- Assumes nothing.
use Prim.Native.Nat.{ℕ, zero, suc, ◌+◌, ◌*◌, ◌<◌, ◌≤◌}
use mathlib.Core.Path.{◌≡◌, refl, ◌∙◌}
use mathlib.Core.Bool.{true, ◌&&◌}
use mathlib.Core.List.{List, [], ◌∷◌, map}
use lib.Dec.{leb, eqb}
use lib.ListN.{length, get_or, length-take, length-map}
use lib.Seq.{sets, length-sets}
use native.Mathlib.Omega.{arith}
use Rattle.words.specs.Lists.{all, All}
use Rattle.words.proofs.Tests.{T_of, of_T, and_left, and_right, le_yes, ne_of, either}
use Rattle.words.proofs.Listed.{all_mono, all_take, all_kept, all_map}
use Rattle.words.proofs.Says.{and_says, all_says, le_says}
use Rattle.words.proofs.Written.{sets_below, sets_above, sets_in, flat_long}
use Rattle.regions.specs.declared.Kind.{Kind}
use Rattle.regions.specs.declared.Open.{Open}
use Rattle.regions.specs.declared.State.{State}
use Rattle.regions.specs.declared.State.TheVariants.{Closed, Open as Opened}
use Rattle.regions.specs.declared.Seat.{Seat}
use Rattle.regions.specs.Limits.{house_limit, most_a_round}
use Rattle.regions.specs.Sets.{Set}
use Rattle.regions.specs.Calls.{joined, pair_words}
use Rattle.regions.specs.Desk.{is_past, past, mark_fits, state_fits, seat_fits, limit_asked, opened, closed, seat_at, state_limit, state_handed, handed, handed_words, state_turned, turned, poured}
use Rattle.regions.proofs.Done.{DeskOk}
use Rattle.regions.proofs.Joined.{Joins, joined_joins, mark_fits_lem}
use Rattle.regions.proofs.Fits.{pair_wide}

-- RANGES
pub record OpenOk (o : Open) : Type 0 where
  pub range : o.account ≤ 15
  pub low : 1 ≤ o.limit
  pub high : o.limit ≤ most_a_round
  pub mark_in : mark_fits o.account o.mark ≡ true

pub open_ok : (o : Open) → state_fits (Opened o) ≡ true → OpenOk o
unfolding state_fits
open_ok o h =
    let b = leb o.account 15 && (leb 1 o.limit && leb o.limit most_a_round) in
    let m = (and_says (le_says o.account 15) (and_says (le_says 1 o.limit) (le_says o.limit most_a_round))).yes_so (and_left b (mark_fits o.account o.mark) (T_of h)) in
    record { range = m.0; low = m.1.0; high = m.1.1; mark_in = of_T _ (and_right b (mark_fits o.account o.mark) (T_of h)) }

pub ok_open : (o : Open) → OpenOk o → state_fits (Opened o) ≡ true
unfolding state_fits
ok_open o k = rw (le_yes o.account 15 k.range, le_yes 1 o.limit k.low, le_yes o.limit most_a_round k.high) k.mark_in

pub opened_fits : (a : ℕ) (k : Kind) (l : ℕ) → a ≤ 15 → l ≤ most_a_round → seat_fits (opened a k l) ≡ true
unfolding mark_fits
opened_fits a k l h m =
    let f : (1 ≤ limit_asked l) × (limit_asked l ≤ most_a_round) =
    either (λ x. (1 ≤ x) × (x ≤ most_a_round)) (eqb l 0) house_limit l (λ e. omega arith) (λ e. let z = ne_of l 0 e in omega arith) in
    ok_open _ (record { range = h; low = f.0; high = f.1; mark_in = refl })

pub closed_fits : seat_fits closed ≡ true
unfolding state_fits
closed_fits = refl

-- A TURN
pub handed_joins : (X Y : Set) (o : Open) → All (Joins o.account o.kind) (state_handed X Y (Opened o))
unfolding state_handed
handed_joins X Y o =
    let J = Joins o.account o.kind in
    let L = joined X Y o.account o.kind in
    all_take J o.limit (past o.mark L) (all_kept J (is_past o.mark) L (joined_joins X Y o.account o.kind))

pub state_turned_lem : (X Y : Set) (t : State) → state_fits t ≡ true → state_fits (state_turned X Y t) ≡ true
unfolding state_turned
state_turned_lem X Y Closed h = h
state_turned_lem X Y (Opened o) h =
    let k = open_ok o h in
    ok_open _ (record { range = k.range; low = k.low; high = k.high; mark_in = mark_fits_lem o.account o.kind o.mark (state_handed X Y (Opened o)) k.mark_in (handed_joins X Y o) })

-- all its seats, as a fact of each
pub seats_each : (desk : List Seat) → all seat_fits desk ≡ true → All (λ s. seat_fits s ≡ true) desk
seats_each desk h = (all_says (λ s. record { yes_so = of_T (seat_fits s); so_yes = λ e. T_of e }) desk).yes_so (T_of h)

pub each_seats : (desk : List Seat) → All (λ s. seat_fits s ≡ true) desk → all seat_fits desk ≡ true
each_seats desk k = of_T _ ((all_says (λ s. record { yes_so = of_T (seat_fits s); so_yes = λ e. T_of e }) desk).so_yes k)

pub desk_turned : (X Y : Set) (desk : List Seat) → DeskOk desk → DeskOk (map (turned X Y) desk)
desk_turned X Y desk d =
    record {
      eight = length-map desk (turned X Y) ∙ d.eight;
      seats = each_seats (map (turned X Y) desk)
          (all_map (λ s. seat_fits s ≡ true) (turned X Y) desk (all_mono {Q = λ s. seat_fits (turned X Y s) ≡ true} (λ s h. state_turned_lem X Y s.state h) desk (seats_each desk d.seats)));
    }

pub handed_limit : (X Y : Set) (t : State) → length (state_handed X Y t) ≤ state_limit t
unfolding state_handed state_limit
handed_limit X Y Closed = omega arith
handed_limit X Y (Opened o) = omega (arith, length-take o.limit (past o.mark (joined X Y o.account o.kind)))

pub limit_small : (t : State) → state_fits t ≡ true → state_limit t ≤ most_a_round
unfolding state_limit
limit_small Closed h = omega arith
limit_small (Opened o) h = (open_ok o h).high

pub handed_long : (X Y : Set) (s : Seat) → length (handed_words X Y s) ≡ 4 * length (handed X Y s)
handed_long X Y s = flat_long pair_words 4 pair_wide (handed X Y s)

pub handed_fits : (X Y : Set) (s : Seat) → seat_fits s ≡ true → length (handed_words X Y s) ≤ 128
handed_fits X Y s h = omega (arith, handed_long X Y s, handed_limit X Y s.state, limit_small s.state h)

-- A ROUND'S WORDS
module _ {A : Type 0} (f : Seat → List A) where
  pub poured_long : (i : ℕ) (ss : List Seat) (b : List A) → length (poured f i ss b) ≡ length b
  unfolding poured
  poured_long i [] b = refl
  poured_long i (s ∷ ss) b = poured_long (suc i) ss (sets b (128 * i) (f s)) ∙ length-sets b (128 * i) (f s)

  pour_below : (i : ℕ) (ss : List Seat) (b : List A) (p : ℕ) (d : A) → p < 128 * i → get_or (poured f i ss b) p d ≡ get_or b p d
  unfolding poured
  pour_below i [] b p d h = refl
  pour_below i (s ∷ ss) b p d h = pour_below (suc i) ss (sets b (128 * i) (f s)) p d (omega arith) ∙ sets_below (f s) b (128 * i) p d h

  -- the words that the seat at j is handed
  pour_in : (i : ℕ) (ss : List Seat) (b : List A) (j k : ℕ) (d : A) → All (λ s. length (f s) ≤ 128) ss → 128 * (i + length ss) ≤ length b
      → j < length ss → k < length (f (seat_at ss j)) → get_or (poured f i ss b) (128 * (i + j) + k) d ≡ get_or (f (seat_at ss j)) k d
  unfolding poured
  pour_in i [] b j k d a r h g = absurd (omega arith)
  pour_in i (s ∷ ss) b zero k d a r h g =
      let l = a.0 in
      let e : i + 0 ≡ i = omega arith in
      rw e (pour_below (suc i) ss (sets b (128 * i) (f s)) (128 * i + k) d (omega arith) ∙ sets_in (f s) b (128 * i) k d g (omega arith))
  pour_in i (s ∷ ss) b (suc j) k d a r h g =
      let e : i + suc j ≡ suc i + j = omega arith in
      rw e (pour_in (suc i) ss (sets b (128 * i) (f s)) j k d a.1 (omega (arith, length-sets b (128 * i) (f s))) (omega arith) g)

  -- the rest of its part stays
  pour_out : (i : ℕ) (ss : List Seat) (b : List A) (j k : ℕ) (d : A) → All (λ s. length (f s) ≤ 128) ss
      → j < length ss → length (f (seat_at ss j)) ≤ k → k < 128 → get_or (poured f i ss b) (128 * (i + j) + k) d ≡ get_or b (128 * (i + j) + k) d
  unfolding poured
  pour_out i [] b j k d a h g l = absurd (omega arith)
  pour_out i (s ∷ ss) b zero k d a h g l =
      let e : i + 0 ≡ i = omega arith in
      rw e (pour_below (suc i) ss (sets b (128 * i) (f s)) (128 * i + k) d (omega arith) ∙ sets_above (f s) b (128 * i) (128 * i + k) d (omega arith))
  pour_out i (s ∷ ss) b (suc j) k d a h g l =
      let m = a.0 in
      let e : i + suc j ≡ suc i + j = omega arith in
      rw e (pour_out (suc i) ss (sets b (128 * i) (f s)) j k d a.1 (omega arith) g l ∙ sets_above (f s) b (128 * i) (128 * (suc i + j) + k) d (omega arith))

-- from seat 0 on, over eight seats and 1,024 words
module _ {A : Type 0} (f : Seat → List A) (ds : List Seat) (b : List A) (eight : length ds ≡ 8) (long : length b ≡ 1024) (fit : All (λ s. length (f s) ≤ 128) ds) where
  pub poured_in : (i k : ℕ) (d : A) → i < 8 → k < length (f (seat_at ds i)) → get_or (poured f 0 ds b) (128 * i + k) d ≡ get_or (f (seat_at ds i)) k d
  poured_in i k d h g = let e : 0 + i ≡ i = omega arith in rw e at (pour_in f 0 ds b i k d fit (omega arith) (omega arith) g)

  pub poured_out : (i k : ℕ) (d : A) → i < 8 → length (f (seat_at ds i)) ≤ k → k < 128 → get_or (poured f 0 ds b) (128 * i + k) d ≡ get_or b (128 * i + k) d
  poured_out i k d h g l = let e : 0 + i ≡ i = omega arith in rw e at (pour_out f 0 ds b i k d fit (omega arith) g l)
