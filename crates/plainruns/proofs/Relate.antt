-- Two states that differ only in what concerns one account, A: how they are alike, that a call of A keeps them so when only the first run makes it,
-- and every other call when both make it.
-- Assumes nothing.
use Prim.Native.Nat.{ℕ, ◌+◌, ◌*◌, ◌<◌, ◌≤◌}
use mathlib.Core.Path.{◌≡◌, refl, sym, ap, ap₂, ◌∙◌, subst}
use mathlib.Core.Bool.{Bool, true, false, not, false≢true}
use mathlib.Core.List.{List, map, flat_map}
use lib.Dec.{eqb}
use lib.ListN.{length, take, get_or, set, replicate, length-map, length-replicate, get_or-replicate, get_or-map}
use lib.Seq.{get_or-set_same, get_or-set_other}
use native.Mathlib.Omega.{arith}
use native.Mathlib.Decide.{dec_lt, ℕ_discrete}
use Rattle.words.specs.Lists.{All}
use Rattle.words.proofs.Tests.{by_test, not_true, eq_of, ne_of, either, both_cond}
use Rattle.words.proofs.Listed.{all_mono}
use Rattle.words.proofs.Written.{sets_below, sets_above, sets_in}
use Rattle.regions.specs.declared.Region.{Region}
use Rattle.regions.specs.declared.Kind.{Kind}
use Rattle.regions.specs.declared.Mark.{Mark}
use Rattle.regions.specs.declared.State.{State as SeatState}
use Rattle.regions.specs.declared.State.TheVariants.{Closed, Open as Serving}
use Rattle.regions.specs.declared.Seat.{Seat}
use Rattle.regions.specs.Sets.{Set, only, saved, deleted}
use Rattle.regions.specs.Calls.{save_no, delete_no, joined, pair_words}
use Rattle.regions.specs.Desk.{past, mark_behind, closed, opened, seat_at, state_open, state_limit, open_seat_no, close_seat_no, state_handed, handed, state_turned, turned, handed_words, poured, round_no, part_no}
use Rattle.regions.proofs.Done.{save_done, delete_done, open_seat_done, close_seat_done}
use Rattle.regions.proofs.Local.{save_local, delete_local, joined_local, saved_only, saved_other, deleted_only, deleted_other}
use Rattle.regions.proofs.Seats.{seats_each, handed_fits, poured_in, poured_out}
use Rattle.plainruns.specs.Calls.{Which, State, set_of, with_set, with_desk, Call, is_written, noted, behind_round, unnoted, behind_open, behind_close, next, by_account, state_reads, reads}
use Rattle.plainruns.specs.Calls.Which.{outer, inner}
use Rattle.plainruns.specs.Calls.Call.{save, delete, look, round, open_seat, close_seat, ask_part, ask_part_no, no_batch}
use Rattle.plainruns.proofs.Good.{Good, good_set, desk_fits_lem, buffer_fits_lem, round_0}

-- TWO SEATS that differ at most in their mark, and then read A
abbrev at_mark : ℕ → Kind → ℕ → Mark → SeatState
at_mark a k l m = Serving (record { account = a; kind = k; limit = l; mark = m })

pub data Alike (A : ℕ) : SeatState → SeatState → Type 0 where
  same : (t : SeatState) → Alike A t t
  marks : (a : ℕ) (k : Kind) (l : ℕ) (m n : Mark) → a ≡ A → Alike A (at_mark a k l m) (at_mark a k l n)

-- an open seat that does not read A
abbrev pub state_sees : ℕ → SeatState → Bool
state_sees A Closed = false
state_sees A (Serving o) = not (eqb o.account A)

abbrev pub sees : ℕ → Seat → Bool
sees A s = state_sees A s.state

pub alike_open : {A : ℕ} {u v : SeatState} → Alike A u v → state_open u ≡ state_open v
unfolding state_open
alike_open (same t) = refl
alike_open (marks a k l m n e) = refl

pub alike_limit : {A : ℕ} {u v : SeatState} → Alike A u v → state_limit u ≡ state_limit v
unfolding state_limit
alike_limit (same t) = refl
alike_limit (marks a k l m n e) = refl

pub alike_reads : {A : ℕ} {u v : SeatState} → Alike A u v → state_reads A u ≡ state_reads A v
unfolding state_reads
alike_reads (same t) = refl
alike_reads (marks a k l m n e) = refl

pub sees_reads : (A : ℕ) (t : SeatState) → state_sees A t ≡ true → state_reads A t ≡ false
unfolding state_reads
sees_reads A Closed h = refl
sees_reads A (Serving o) h = not_true _ h

pub sees_of : (A : ℕ) (t : SeatState) → state_open t ≡ true → state_reads A t ≡ false → state_sees A t ≡ true
unfolding state_open state_reads
sees_of A Closed h k = h
sees_of A (Serving o) h k = ap not k

sees_turned : (A : ℕ) (X Y : Set) (t : SeatState) → state_sees A (state_turned X Y t) ≡ state_sees A t
unfolding state_turned
sees_turned A X Y Closed = refl
sees_turned A X Y (Serving o) = refl

-- TWO SETS that agree on every account but A, shares and all
abbrev pub Apart : ℕ → Set → Set → Type 0
Apart A S S' = (b : ℕ) → (b ≡ A → ⊥) → only b S ≡ only b S'

-- TWO STATES: their sets are apart, their seats alike; of every open seat that does not read A the same words are written since it was opened, and
-- these words are the same
pub record Rel (A : ℕ) (s s' : State) : Type 0 where
  pub sets_apart : (w : Which) → Apart A (set_of w s) (set_of w s')
  pub seats : (i : ℕ) → Alike A (seat_at s.desk i).state (seat_at s'.desk i).state
  pub notes : (i k : ℕ) → i < 8 → k < 128 → sees A (seat_at s.desk i) ≡ true → get_or s.wrote (128 * i + k) false ≡ get_or s'.wrote (128 * i + k) false
  pub words : (i k : ℕ) → i < 8 → k < 128 → sees A (seat_at s.desk i) ≡ true → get_or s.wrote (128 * i + k) false ≡ true
      → get_or s.buffer (128 * i + k) 0 ≡ get_or s'.buffer (128 * i + k) 0

-- SETS
saved_apart : (A : ℕ) (S S' : Set) (r : Region) → Apart A S S' → Apart A (saved r S) (saved r S')
saved_apart A S S' r h b n = saved_only S b r ∙ ap (λ Z. only b (saved r Z)) (h b n) ∙ sym (saved_only S' b r)

deleted_apart : (A : ℕ) (S S' : Set) (p : ℕ) → Apart A S S' → Apart A (deleted p S) (deleted p S')
deleted_apart A S S' p h b n = deleted_only S b p ∙ ap (λ Z. only b (deleted p Z)) (h b n) ∙ sym (deleted_only S' b p)

apart_with : (A : ℕ) (s s' : State) (w : Which) (S S' : Set) → Apart A S S' → Rel A s s' → Rel A (with_set w S s) (with_set w S' s')
apart_with A s s' outer S S' h r = record { sets_apart = at; seats = r.seats; notes = r.notes; words = r.words }
  where
    at : (v : Which) → Apart A (set_of v (with_set outer S s)) (set_of v (with_set outer S' s'))
    at outer = h
    at inner = r.sets_apart inner
apart_with A s s' inner S S' h r = record { sets_apart = at; seats = r.seats; notes = r.notes; words = r.words }
  where
    at : (v : Which) → Apart A (set_of v (with_set inner S s)) (set_of v (with_set inner S' s'))
    at outer = r.sets_apart outer
    at inner = h

apart_left : (A : ℕ) (s s' : State) (w : Which) (S : Set) → Apart A S (set_of w s) → Rel A s s' → Rel A (with_set w S s) s'
apart_left A s s' outer S h r = record { sets_apart = at; seats = r.seats; notes = r.notes; words = r.words }
  where
    at : (v : Which) → Apart A (set_of v (with_set outer S s)) (set_of v s')
    at outer b n = h b n ∙ r.sets_apart outer b n
    at inner b n = r.sets_apart inner b n
apart_left A s s' inner S h r = record { sets_apart = at; seats = r.seats; notes = r.notes; words = r.words }
  where
    at : (v : Which) → Apart A (set_of v (with_set inner S s)) (set_of v s')
    at outer b n = r.sets_apart outer b n
    at inner b n = h b n ∙ r.sets_apart inner b n

apart_desk : (A : ℕ) (s s' : State) (ds ds' : List Seat) (b b' : List ℕ) (w w' : List Bool) → Rel A s s' → (v : Which) → Apart A (set_of v (with_desk ds b w s)) (set_of v (with_desk ds' b' w' s'))
apart_desk A s s' ds ds' b b' w w' r outer = r.sets_apart outer
apart_desk A s s' ds ds' b b' w w' r inner = r.sets_apart inner

-- ONLY THE FIRST RUN makes a call of A
pub skip : (A : ℕ) (s s' : State) (c : Call) → by_account A c ≡ true → Rel A s s' → Rel A (next c s) s'
unfolding next
skip A s s' (save w a r) h k =
    either (λ t. Rel A t s') (eqb (save_no (set_of w s) a r) 0) (with_set w (saved r (set_of w s)) s) s
    (λ e. apart_left A s s' w (saved r (set_of w s)) (λ b n. saved_other (set_of w s) b r (λ q. n (q ∙ (save_done (set_of w s) a r (eq_of _ _ e)).own.same ∙ eq_of a A h))) k)
    (λ e. k)
skip A s s' (delete w a p) h k =
    either (λ t. Rel A t s') (eqb (delete_no (set_of w s) a p) 0) (with_set w (deleted p (set_of w s)) s) s
    (λ e. apart_left A s s' w (deleted p (set_of w s)) (λ b n. deleted_other (set_of w s) b p (λ q. n (q ∙ (delete_done (set_of w s) a p (eq_of _ _ e)).own.same ∙ eq_of a A h))) k)
    (λ e. k)
skip A s s' (look a o) h k = k
skip A s s' (round x y) h k = absurd (false≢true h)
skip A s s' (open_seat i a j l) h k = absurd (false≢true h)
skip A s s' (close_seat i) h k = absurd (false≢true h)
skip A s s' (ask_part i n) h k = absurd (false≢true h)
skip A s s' (ask_part_no i n) h k = absurd (false≢true h)
skip A s s' (no_batch w ws places) h k = absurd (false≢true h)

-- A SEAT'S TURN over sets that are apart
module _ (A : ℕ) (X Y X' Y' : Set) (hx : Apart A X X') (hy : Apart A Y Y') where
  pub joined_same : (a : ℕ) (k : Kind) → (a ≡ A → ⊥) → joined X Y a k ≡ joined X' Y' a k
  joined_same a k n = joined_local X Y a k ∙ ap₂ (λ (P Q : Set). joined P Q a k) (hx a n) (hy a n) ∙ sym (joined_local X' Y' a k)

  handed_same : (t : SeatState) → state_reads A t ≡ false → state_handed X Y t ≡ state_handed X' Y' t
  unfolding state_handed state_reads
  handed_same Closed h = refl
  handed_same (Serving o) h = ap (λ qs. take o.limit (past o.mark qs)) (joined_same o.account o.kind (ne_of o.account A h))

  turned_same : (t : SeatState) → Alike A (state_turned X Y t) (state_turned X' Y' t)
  unfolding state_turned state_reads
  turned_same Closed = same Closed
  turned_same (Serving o) =
      by_test (eqb o.account A)
      (λ e. marks o.account o.kind o.limit (mark_behind o.mark (state_handed X Y (Serving o))) (mark_behind o.mark (state_handed X' Y' (Serving o))) (eq_of _ _ e))
      (λ e.
      subst (λ z. Alike A (at_mark o.account o.kind o.limit (mark_behind o.mark (state_handed X Y (Serving o)))) (at_mark o.account o.kind o.limit (mark_behind o.mark z)))
      (handed_same (Serving o) e) (same _))

  turned_alike : {u v : SeatState} → Alike A u v → Alike A (state_turned X Y u) (state_turned X' Y' v)
  unfolding state_turned
  turned_alike (same t) = turned_same t
  turned_alike (marks a k l m n e) = marks a k l _ _ e

  handed_alike : {u v : SeatState} → Alike A u v → state_reads A u ≡ false → state_handed X Y u ≡ state_handed X' Y' v
  unfolding state_reads
  handed_alike (same t) h = handed_same t h
  handed_alike (marks a k l m n e) h = absurd (ne_of a A h e)

seat_turned : (X Y : Set) (ds : List Seat) (i : ℕ) → seat_at (map (turned X Y) ds) i ≡ turned X Y (seat_at ds i)
unfolding state_turned
seat_turned X Y ds i = get_or-map (turned X Y) ds i closed

-- the words of a turn fit its part, and so do their notes
pub desk_words : (so si : List ℕ) (X Y : Set) (s : State) → Good so si s → All (λ t. length (handed_words X Y t) ≤ 128) s.desk
desk_words so si X Y s g = all_mono {Q = λ t. length (handed_words X Y t) ≤ 128} (λ t h. handed_fits X Y t h) s.desk (seats_each s.desk g.desk_good.seats)

pub desk_notes : (so si : List ℕ) (X Y : Set) (s : State) → Good so si s → All (λ t. length (noted X Y t) ≤ 128) s.desk
desk_notes so si X Y s g =
    all_mono {Q = λ t. length (noted X Y t) ≤ 128} (λ t h. omega (arith, length-map (handed_words X Y t) is_written, handed_fits X Y t h)) s.desk (seats_each s.desk g.desk_good.seats)

-- the notes of a seat just opened are cleared, all others stay
pub unnoted_at : (i : ℕ) → i < 8 → (w : List Bool) (k : ℕ) → length w ≡ 1024 → k < 128 → get_or (unnoted i w) (128 * i + k) false ≡ false
unnoted_at i low w k e l =
    sets_in (replicate 128 false) w (128 * i) k false (omega (arith, length-replicate 128 false)) (omega (arith, length-replicate 128 false)) ∙ get_or-replicate 128 k false false l

pub unnoted_off : (i : ℕ) (w : List Bool) (j k : ℕ) → (j ≡ i → ⊥) → k < 128 → get_or (unnoted i w) (128 * j + k) false ≡ get_or w (128 * j + k) false
unnoted_off i w j k n l =
    elim (dec_lt j i) [
      | yes u ↦ sets_below (replicate 128 false) w (128 * i) (128 * j + k) false (omega arith)
      | no u ↦ sets_above (replicate 128 false) w (128 * i) (128 * j + k) false (omega (arith, length-replicate 128 false))
    ]

module _ (so si : List ℕ) (A : ℕ) (s s' : State) (g : Good so si s) (g' : Good so si s') (r : Rel A s s') where
  pub save_same : (w : Which) (a : ℕ) (q : Region) → (a ≡ A → ⊥) → save_no (set_of w s) a q ≡ save_no (set_of w s') a q
  save_same w a q n =
      save_local (set_of w s) a q (good_set so si w s g).sound.formed ∙ ap (λ S. save_no S a q) (r.sets_apart w a n) ∙ sym (save_local (set_of w s') a q (good_set so si w s' g').sound.formed)

  pub delete_same : (w : Which) (a p : ℕ) → (a ≡ A → ⊥) → delete_no (set_of w s) a p ≡ delete_no (set_of w s') a p
  delete_same w a p n = delete_local (set_of w s) a p ∙ ap (λ S. delete_no S a p) (r.sets_apart w a n) ∙ sym (delete_local (set_of w s') a p)

  -- the desk's numbers
  pub open_same : (i a l : ℕ) → open_seat_no s.desk i a l ≡ open_seat_no s'.desk i a l
  unfolding open_seat_no
  open_same i a l = rw (desk_fits_lem so si s g, desk_fits_lem so si s' g', alike_open (r.seats i))

  pub close_same : (i : ℕ) → close_seat_no s.desk i ≡ close_seat_no s'.desk i
  unfolding close_seat_no
  close_same i = rw (desk_fits_lem so si s g, desk_fits_lem so si s' g', alike_open (r.seats i))

  pub part_same : (i n : ℕ) → part_no s.desk s.buffer i n ≡ part_no s'.desk s'.buffer i n
  unfolding part_no
  part_same i n =
      rw (desk_fits_lem so si s g, desk_fits_lem so si s' g', buffer_fits_lem so si s g, buffer_fits_lem so si s' g', alike_open (r.seats i), alike_limit (r.seats i))

  -- BOTH RUNS serve a round
  module _ (x y : Which) where
    abbrev F : Seat → List ℕ
    F = handed_words (set_of x s) (set_of y s)

    abbrev F' : Seat → List ℕ
    F' = handed_words (set_of x s') (set_of y s')

    abbrev M : Seat → List Bool
    M = noted (set_of x s) (set_of y s)

    abbrev M' : Seat → List Bool
    M' = noted (set_of x s') (set_of y s')

    abbrev here : ℕ → Seat
    here i = seat_at s.desk i

    abbrev there : ℕ → Seat
    there i = seat_at s'.desk i

    sees_here : (i : ℕ) → sees A (seat_at (map (turned (set_of x s) (set_of y s)) s.desk) i) ≡ true → sees A (here i) ≡ true
    sees_here i h = sym (ap (sees A) (seat_turned (set_of x s) (set_of y s) s.desk i) ∙ sees_turned A (set_of x s) (set_of y s) (here i).state) ∙ h

    pub hands_same : (i : ℕ) → reads A (here i) ≡ false → handed (set_of x s) (set_of y s) (here i) ≡ handed (set_of x s') (set_of y s') (there i)
    hands_same i h = handed_alike A (set_of x s) (set_of y s) (set_of x s') (set_of y s') (r.sets_apart x) (r.sets_apart y) (r.seats i) h

    pub words_same : (i : ℕ) → reads A (here i) ≡ false → F (here i) ≡ F' (there i)
    words_same i h = ap (flat_map pair_words) (hands_same i h)

    round_notes : (i k : ℕ) → i < 8 → k < 128 → sees A (here i) ≡ true
        → get_or (poured M 0 s.desk s.wrote) (128 * i + k) false ≡ get_or (poured M' 0 s'.desk s'.wrote) (128 * i + k) false
    round_notes i k h l v =
        let e : M (here i) ≡ M' (there i) = ap (map is_written) (words_same i (sees_reads A (here i).state v)) in
        let n = ap length e in
        let fit = desk_notes so si (set_of x s) (set_of y s) s g in
        let fit' = desk_notes so si (set_of x s') (set_of y s') s' g' in
        elim (dec_lt k (length (M (here i)))) [
          | yes u ↦
              poured_in M s.desk s.wrote g.desk_good.eight g.notes fit i k false h u ∙ ap (λ z. get_or z k false) e
              ∙ sym (poured_in M' s'.desk s'.wrote g'.desk_good.eight g'.notes fit' i k false h (omega arith))
          | no u ↦
              poured_out M s.desk s.wrote g.desk_good.eight g.notes fit i k false h (omega arith) l ∙ r.notes i k h l v
              ∙ sym (poured_out M' s'.desk s'.wrote g'.desk_good.eight g'.notes fit' i k false h (omega arith) l)
        ]

    round_words : (i k : ℕ) → i < 8 → k < 128 → sees A (here i) ≡ true → get_or (poured M 0 s.desk s.wrote) (128 * i + k) false ≡ true
        → get_or (poured F 0 s.desk s.buffer) (128 * i + k) 0 ≡ get_or (poured F' 0 s'.desk s'.buffer) (128 * i + k) 0
    round_words i k h l v t =
        let e : F (here i) ≡ F' (there i) = words_same i (sees_reads A (here i).state v) in
        let n = ap length e in
        let m = length-map (F (here i)) is_written in
        let fit = desk_words so si (set_of x s) (set_of y s) s g in
        let fit' = desk_words so si (set_of x s') (set_of y s') s' g' in
        elim (dec_lt k (length (F (here i)))) [
          | yes u ↦
              poured_in F s.desk s.buffer g.desk_good.eight g.words fit i k 0 h u ∙ ap (λ z. get_or z k 0) e
              ∙ sym (poured_in F' s'.desk s'.buffer g'.desk_good.eight g'.words fit' i k 0 h (omega arith))
          | no u ↦
              poured_out F s.desk s.buffer g.desk_good.eight g.words fit i k 0 h (omega arith) l
              ∙ r.words i k h l v (sym (poured_out M s.desk s.wrote g.desk_good.eight g.notes (desk_notes so si (set_of x s) (set_of y s) s g) i k false h (omega arith) l) ∙ t)
              ∙ sym (poured_out F' s'.desk s'.buffer g'.desk_good.eight g'.words fit' i k 0 h (omega arith) l)
        ]

    rel_round : Rel A (behind_round (set_of x s) (set_of y s) s) (behind_round (set_of x s') (set_of y s') s')
    rel_round =
        record {
          sets_apart = apart_desk A s s' _ _ _ _ _ _ r;
          seats = λ i.
              rw (seat_turned (set_of x s) (set_of y s) s.desk i, seat_turned (set_of x s') (set_of y s') s'.desk i)
              (turned_alike A (set_of x s) (set_of y s) (set_of x s') (set_of y s') (r.sets_apart x) (r.sets_apart y) (r.seats i));
          notes = λ i k h l v. round_notes i k h l (sees_here i v);
          words = λ i k h l v t. round_words i k h l (sees_here i v) t;
        }

  -- BOTH RUNS open or close a seat
  module _ (i : ℕ) (low : i < 8) where
    alike_set : (t : Seat) (j : ℕ) → Alike A (seat_at (set s.desk i t) j).state (seat_at (set s'.desk i t) j).state
    alike_set t j =
        let e = g.desk_good.eight in
        let e' = g'.desk_good.eight in
        elim (ℕ_discrete j i) [
          | yes q ↦ rw (q, get_or-set_same s.desk i t closed (omega arith), get_or-set_same s'.desk i t closed (omega arith)) (same t.state)
          | no q ↦ rw (get_or-set_other s.desk i j t closed q, get_or-set_other s'.desk i j t closed q) (r.seats j)
        ]

    rel_open : (t : Seat) → Rel A (behind_open i t s) (behind_open i t s')
    rel_open t =
        record {
          sets_apart = apart_desk A s s' _ _ _ _ _ _ r;
          seats = alike_set t;
          notes = λ j k h l v. elim (ℕ_discrete j i) [
            | yes q ↦ rw q (unnoted_at i low s.wrote k g.notes l ∙ sym (unnoted_at i low s'.wrote k g'.notes l))
            | no q ↦
                unnoted_off i s.wrote j k q l ∙ r.notes j k h l (sym (ap (sees A) (get_or-set_other s.desk i j t closed q)) ∙ v)
                ∙ sym (unnoted_off i s'.wrote j k q l)
          ];
          words = λ j k h l v w. elim (ℕ_discrete j i) [
            | yes q ↦ absurd (false≢true (sym (unnoted_at i low s.wrote k g.notes l) ∙ (rw q at w)))
            | no q ↦ r.words j k h l (sym (ap (sees A) (get_or-set_other s.desk i j t closed q)) ∙ v) (sym (unnoted_off i s.wrote j k q l) ∙ w)
          ];
        }

    rel_close : Rel A (behind_close i s) (behind_close i s')
    rel_close =
        record {
          sets_apart = apart_desk A s s' _ _ _ _ _ _ r;
          seats = alike_set closed;
          notes = λ j k h l v. elim (ℕ_discrete j i) [
            | yes q ↦ absurd (shut j q v)
            | no q ↦ r.notes j k h l (sym (ap (sees A) (get_or-set_other s.desk i j closed closed q)) ∙ v)
          ];
          words = λ j k h l v w. elim (ℕ_discrete j i) [
            | yes q ↦ absurd (shut j q v)
            | no q ↦ r.words j k h l (sym (ap (sees A) (get_or-set_other s.desk i j closed closed q)) ∙ v) w
          ];
        }
      where
        shut : (j : ℕ) → j ≡ i → sees A (seat_at (set s.desk i closed) j) ≡ true → ⊥
        shut j q v =
            let e = g.desk_good.eight in
            false≢true (sym (ap (sees A) (ap (seat_at (set s.desk i closed)) q ∙ get_or-set_same s.desk i closed closed (omega arith))) ∙ v)

  -- BOTH RUNS make a call that is not A's
  pub keep : (c : Call) → by_account A c ≡ false → Rel A (next c s) (next c s')
  unfolding next
  keep (save w a q) h =
      both_cond (Rel A) (eqb (save_no (set_of w s) a q) 0) (eqb (save_no (set_of w s') a q) 0) _ s _ s' (ap (λ n. eqb n 0) (save_same w a q (ne_of a A h)))
      (λ e e'. apart_with A s s' w (saved q (set_of w s)) (saved q (set_of w s')) (saved_apart A (set_of w s) (set_of w s') q (r.sets_apart w)) r) r
  keep (delete w a p) h =
      both_cond (Rel A) (eqb (delete_no (set_of w s) a p) 0) (eqb (delete_no (set_of w s') a p) 0) _ s _ s' (ap (λ n. eqb n 0) (delete_same w a p (ne_of a A h)))
      (λ e e'. apart_with A s s' w (deleted p (set_of w s)) (deleted p (set_of w s')) (deleted_apart A (set_of w s) (set_of w s') p (r.sets_apart w)) r) r
  keep (look a o) h = r
  keep (round x y) h =
      both_cond (Rel A) (eqb (round_no s.desk s.buffer) 0) (eqb (round_no s'.desk s'.buffer) 0) _ s _ s' (ap (λ n. eqb n 0) (round_0 so si s g ∙ sym (round_0 so si s' g')))
      (λ e e'. rel_round x y) r
  keep (open_seat i a k l) h =
      both_cond (Rel A) (eqb (open_seat_no s.desk i a l) 0) (eqb (open_seat_no s'.desk i a l) 0) _ s _ s' (ap (λ n. eqb n 0) (open_same i a l))
      (λ e e'. let f = (open_seat_done s.desk i a l (eq_of _ _ e)).seat in rel_open i (omega arith) (opened a k l)) r
  keep (close_seat i) h =
      both_cond (Rel A) (eqb (close_seat_no s.desk i) 0) (eqb (close_seat_no s'.desk i) 0) _ s _ s' (ap (λ n. eqb n 0) (close_same i))
      (λ e e'. let f = (close_seat_done s.desk i (eq_of _ _ e)).seat in rel_close i (omega arith)) r
  keep (ask_part i n) h = r
  keep (ask_part_no i n) h = r
  keep (no_batch w ws places) h = r
