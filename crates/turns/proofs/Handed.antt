-- What an open seat is handed: the part that the join's writer filled is the buffer's words, its last pair's words are the mark, and the turn is the promise's.
-- Assumes nothing.
use Prim.Native.Nat.{ℕ, ◌+◌, ◌*◌, ◌/◌, ◌<◌, ◌≤◌}
use native.Mathlib.Nat.{mul-div_right}
use native.Mathlib.Omega.{arith}
use mathlib.Core.Path.{◌≡◌, sym, ap, ap₂, ◌∙◌, subst}
use mathlib.Core.Bool.{Bool, true, false}
use mathlib.Core.List.{List, ◌++◌, flat_map, append_assoc}
use lib.ListN.{length, take, drop, length-take, length-drop, take-append-drop}
use lib.Seq.{sets, sets-eq, length-sets, drop-append-le, drop-drop}
use borrow.Rule.Slice.PartMut.{mid_of, put_mid}
use Rattle.words.proofs.Written.{flat_long}
use Rattle.regions.specs.Limits.{most_a_round}
use Rattle.regions.specs.Sets.{Set}
use Rattle.regions.specs.Calls.{pair_words, written, count_written, joined}
use Rattle.regions.specs.Desk.{open_at, state_fits, seat_word, past, mark_behind, state_handed, handed_words, state_turned}
use Rattle.regions.specs.declared.Mark.{Mark}
use Rattle.regions.specs.declared.Open.{Open}
use Rattle.regions.specs.declared.State.{State}
use Rattle.regions.specs.declared.State.TheVariants.{Closed, Open as Opened}
use Rattle.regions.specs.declared.Seat.{Seat}
use Rattle.regions.proofs.Seats.{open_ok, handed_limit, limit_small}
use Rattle.regions.proofs.Fits.{pair_wide}
use Rattle.join.specs.Joins.{Joined}
use Rattle.seats.specs.Steps.{moved, mark_read}
use Rattle.seats.proofs.Marks.{mark_read_lem}
use Rattle.turns.specs.Steps.{MayTurn, Hands, Turns}

abbrev seat_of : State → Seat
seat_of t = record { state = t }

-- THE PART: words written from its start on are words written from a on
put_part : {A : Type 0} (a k : ℕ) (xs vs : List A) → a + k ≤ length xs → length vs ≤ k → put_mid a k xs (sets (mid_of a k xs) 0 vs) ≡ sets xs a vs
put_part {A} a k xs vs h l =
    let mid = mid_of a k xs in
    let post = drop k (drop a xs) in
    let long : length (mid_of a k xs) ≡ k = length-take k (drop a xs) ∙ (let e = length-drop a xs in omega arith) in
    let none : 0 + length vs ≡ length vs = omega arith in
    let filled : sets (mid_of a k xs) 0 vs ≡ vs ++ drop (length vs) (mid_of a k xs) =
    sets-eq vs mid 0 (omega arith) ∙ ap (λ (n : ℕ). vs ++ drop n mid) none in
    let rest : drop (length vs) (mid_of a k xs) ++ drop k (drop a xs) ≡ drop (a + length vs) xs =
    sym (drop-append-le (length vs) mid post (omega arith)) ∙ ap (drop (length vs)) (take-append-drop k (drop a xs)) ∙ drop-drop (length vs) a xs in
    ap (λ (l : List A). take a xs ++ (l ++ post)) filled ∙ ap (λ (l : List A). take a xs ++ l) (append_assoc vs (drop (length vs) mid) post ∙ ap (λ (l : List A). vs ++ l) rest)
    ∙ sym (sets-eq vs xs a (omega arith) ∙ append_assoc (take a xs) vs (drop (a + length vs) xs))

-- the writer was lent k words from the seat's first on, those of its limit, and asked for no total
pub hands : (X Y : Set) (o : Open) (b : List ℕ) (i k : ℕ) (all : Bool) (n : ℕ) (w : List ℕ) → length b ≡ 1024 → i < 8 → state_fits (Opened o) ≡ true
    → Joined (past o.mark (joined X Y o.account o.kind)) all (mid_of (128 * i) k b) w n → k ≡ 4 * o.limit → all ≡ false
    → Hands X Y o b i n (put_mid (128 * i) k b w)
unfolding state_handed written count_written
hands X Y o b i k all n w e h f joins g z =
    let qs = past o.mark (joined X Y o.account o.kind) in
    let j = subst (λ (t : Bool). Joined qs t (mid_of (128 * i) k b) w n) z joins in
    let high = (open_ok o f).high in
    let fit : 128 * i + k ≤ length b = omega arith in
    let long : length (mid_of (128 * i) k b) ≡ k = length-take k (drop (128 * i) b) ∙ (let m = length-drop (128 * i) b in omega arith) in
    let room : length (mid_of (128 * i) k b) / 4 ≡ o.limit = ap (λ (m : ℕ). m / 4) (long ∙ g) ∙ mul-div_right o.limit (omega arith) in
    let few : length (flat_map pair_words (take o.limit qs)) ≤ k = (let m = flat_long pair_words 4 pair_wide (take o.limit qs) in let p = length-take o.limit qs in omega arith) in
    record {
      count = j.total ∙ ap (λ (m : ℕ). length (take m qs)) room;
      words = ap (put_mid (128 * i) k b) (j.words ∙ ap (λ (m : ℕ). sets (mid_of (128 * i) k b) 0 (flat_map pair_words (take m qs))) room) ∙ put_part (128 * i) k b (flat_map pair_words (take o.limit qs)) fit few;
    }

pub hands_few : (X Y : Set) (o : Open) (b : List ℕ) (i n : ℕ) (w : List ℕ) → state_fits (Opened o) ≡ true → Hands X Y o b i n w → n ≤ most_a_round
hands_few X Y o b i n w f h = let e = h.count in let l = handed_limit X Y (Opened o) in let m = limit_small (Opened o) f in omega arith

pub hands_long : (X Y : Set) (o : Open) (b : List ℕ) (i n : ℕ) (w : List ℕ) → length b ≡ 1024 → Hands X Y o b i n w → length w ≡ 1024
hands_long X Y o b i n w e h = ap length h.words ∙ length-sets b (seat_word i) (handed_words X Y (open_at o)) ∙ e

-- THE TURN
pub may_open : (w w' : List ℕ) (s : Seat) (o : Open) (b : List ℕ) (i : ℕ) → s.state ≡ Opened o → MayTurn w w' s b i → MayTurn w w' (open_at o) b i
may_open w w' s o b i e m = record { outer_valid = m.outer_valid; inner_valid = m.inner_valid; words = m.words; seat = m.seat; fits = sym (ap state_fits e) ∙ m.fits }

pub open_turn : (X Y : Set) (s : Seat) (o : Open) (b : List ℕ) (i n : ℕ) (w : List ℕ) (m : Mark) (s' : Seat)
    → s.state ≡ Opened o → length b ≡ 1024 → i < 8 → state_fits (Opened o) ≡ true → Hands X Y o b i n w → m ≡ mark_read o.mark w (seat_word i) n → s' ≡ moved o m
    → Turns X Y s b i s' n w
unfolding state_turned
open_turn X Y s o b i n w m s' e long below f h r d =
    let fit = handed_limit X Y (Opened o) in
    let small = limit_small (Opened o) f in
    let marked : m ≡ mark_behind o.mark (state_handed X Y (Opened o)) =
    r ∙ ap₂ (λ (l : List ℕ) (c : ℕ). mark_read o.mark l (seat_word i) c) h.words h.count ∙ mark_read_lem o.mark b (seat_word i) (state_handed X Y (Opened o)) (omega arith) in
    record {
      seat_is = d ∙ ap (moved o) marked ∙ sym (ap (λ (t : State). seat_of (state_turned X Y t)) e);
      count_is = h.count ∙ sym (ap (λ (t : State). length (state_handed X Y t)) e);
      buffer_is = h.words ∙ sym (ap (λ (t : State). sets b (seat_word i) (flat_map pair_words (state_handed X Y t))) e);
    }

pub closed_turn : (X Y : Set) (s : Seat) (b : List ℕ) (i : ℕ) → s.state ≡ Closed → Turns X Y s b i s 0 b
unfolding state_turned state_handed flat_map
closed_turn X Y s b i e =
    record {
      seat_is = ap seat_of e ∙ sym (ap (λ (t : State). seat_of (state_turned X Y t)) e);
      count_is = sym (ap (λ (t : State). length (state_handed X Y t)) e);
      buffer_is = sym (ap (λ (t : State). sets b (seat_word i) (flat_map pair_words (state_handed X Y t))) e);
    }
