-- What every state has that a run reaches: both sets sound, of the shares given, with regions of the sixteen accounts only; a desk in its ranges; 1,024 words.
-- Hence no account ever holds more than its share, and no call is answered IMAGE or DESK.
-- Assumes nothing.
use Prim.Native.Nat.{ℕ, zero, suc, ◌/◌, ◌%◌, ◌≤◌}
use mathlib.Core.Path.{◌≡◌, refl, ap, ◌∙◌}
use mathlib.Core.Bool.{Bool, true, false, not, ◌||◌}
use mathlib.Core.List.{List, [], ◌∷◌}
use lib.Dec.{leb, ltb, eqb}
use lib.ListN.{length, get_or, set, replicate, length-set, length-replicate}
use lib.Seq.{length-sets}
use native.Mathlib.Omega.{arith}
use Rattle.words.specs.Lists.{All, first_no}
use Rattle.words.proofs.Tests.{eq_of, either}
use Rattle.regions.specs.declared.Region.{Region}
use Rattle.regions.specs.declared.Seat.{Seat}
use Rattle.regions.specs.Positions.{account, well_bound, well_formed}
use Rattle.regions.specs.Limits.{most_a_round, item_width}
use Rattle.regions.specs.Sets.{Set, empty_set, held_by, share_of, held_at, crossed, contradicted, saved, deleted}
use Rattle.regions.specs.Numbers.{REGION, ACCOUNT, HELD, CROSS, LEVEL, SHARE, ABSENT, SEAT, LIMIT, DESK, FORM, ROOM, unless}
use Rattle.regions.specs.Calls.{foreign, open_set_no, save_no, delete_no, point_no, bounds_no, join_no, ancestors, parent, descendants, children, joined}
use Rattle.regions.specs.Items.{batch_no}
use Rattle.regions.specs.Desk.{seat_fits, desk_fits, buffer_fits, is_open, limit_of, closed, opened, seat_at, open_seat_no, close_seat_no, handed_words, round_no, part_no}
use Rattle.words.proofs.Listed.{first_no_lem}
use Rattle.regions.proofs.Done.{DeskOk, fits_desk, fits_buffer, open_set_done, save_done, open_seat_done, done_round}
use Rattle.regions.specs.Sound.{Sound}
use Rattle.regions.proofs.Rising.{empty_sound, saved_sound, deleted_sound, saved_all, deleted_all}
use Rattle.regions.proofs.Seats.{opened_fits, closed_fits, seats_each, each_seats, desk_turned, poured_long}
use Rattle.plainruns.specs.Calls.{Which, State, set_of, with_set, with_desk, Look, Call, Shown, Answer, says, refuses, lists, pages, finds, joins, dealt, looked, answer, noted, behind_round, next, Step, Done, Run, Opened, share_given, shares_given, Fair}
use Rattle.plainruns.specs.Calls.Which.{outer, inner}
use Rattle.plainruns.specs.Calls.Look.{ancestor_search, parent_search, descendant_search, child_search, join, no_item}
use Rattle.plainruns.specs.Calls.Call.{save, delete, look, round, open_seat, close_seat, ask_part, ask_part_no, no_batch}
use Rattle.plainruns.specs.Calls.Run.{none, then}

-- LISTS
module _ {X : Type 0} where
  pub all_set : (P : X → Type 0) (xs : List X) (i : ℕ) (x : X) → P x → All P xs → All P (set xs i x)
  all_set P [] i x h k = tt
  all_set P (y ∷ ys) zero x h k = (h, k.1)
  all_set P (y ∷ ys) (suc i) x h k = (k.0, all_set P ys i x h k.1)

  pub all_get_d : (P : X → Type 0) (xs : List X) (i : ℕ) (d : X) → P d → All P xs → P (get_or xs i d)
  all_get_d P [] i d h k = h
  all_get_d P (x ∷ xs) zero d h k = k.0
  all_get_d P (x ∷ xs) (suc i) d h k = all_get_d P xs i d h k.1

  pub all_replicate : (P : X → Type 0) (n : ℕ) (x : X) → P x → All P (replicate n x)
  all_replicate P zero x h = tt
  all_replicate P (suc n) x h = (h, all_replicate P n x h)

-- WHAT A REACHED STATE HAS
abbrev pub InRange : Region → Type 0
InRange r = account r.start ≤ 15

pub record GoodSet (shares : List ℕ) (S : Set) : Type 0 where
  pub given : S.shares ≡ shares
  pub sound : Sound S
  pub ranged : All InRange S.regions

abbrev pub Fits : Seat → Type 0
Fits s = seat_fits s ≡ true

pub record Good (so si : List ℕ) (s : State) : Type 0 where
  pub outer_good : GoodSet so s.outer_set
  pub inner_good : GoodSet si s.inner_set
  pub desk_good : DeskOk s.desk
  pub words : length s.buffer ≡ 1024
  pub notes : length s.wrote ≡ 1024

-- a save and a delete that are done
saved_good : (shares : List ℕ) (S : Set) (a : ℕ) (r : Region) → save_no S a r ≡ 0 → GoodSet shares S → GoodSet shares (saved r S)
unfolding saved
saved_good shares S a r e g =
    let m = (save_done S a r e).own in
    record { given = g.given; sound = saved_sound S a r e g.sound; ranged = saved_all InRange S r (omega arith) g.ranged }

deleted_good : (shares : List ℕ) (S : Set) (a p : ℕ) → delete_no S a p ≡ 0 → GoodSet shares S → GoodSet shares (deleted p S)
unfolding deleted
deleted_good shares S a p e g = record { given = g.given; sound = deleted_sound S a p e g.sound; ranged = deleted_all InRange S p g.ranged }

module _ (so si : List ℕ) where
  pub good_set : (w : Which) (s : State) → Good so si s → GoodSet (shares_given so si w) (set_of w s)
  good_set outer s g = g.outer_good
  good_set inner s g = g.inner_good

  good_with : (w : Which) (S : Set) (s : State) → GoodSet (shares_given so si w) S → Good so si s → Good so si (with_set w S s)
  good_with outer S s h g = record { outer_good = h; inner_good = g.inner_good; desk_good = g.desk_good; words = g.words; notes = g.notes }
  good_with inner S s h g = record { outer_good = g.outer_good; inner_good = h; desk_good = g.desk_good; words = g.words; notes = g.notes }

  good_desk : (desk : List Seat) (buffer : List ℕ) (wrote : List Bool) (s : State) → DeskOk desk → length buffer ≡ 1024 → length wrote ≡ 1024
      → Good so si s → Good so si (with_desk desk buffer wrote s)
  good_desk desk buffer wrote s d b w g = record { outer_good = g.outer_good; inner_good = g.inner_good; desk_good = d; words = b; notes = w }

  -- one seat set to one in its ranges
  seat_set : (desk : List Seat) (i : ℕ) (t : Seat) → Fits t → DeskOk desk → DeskOk (set desk i t)
  seat_set desk i t h d =
      record { eight = length-set desk i t ∙ d.eight; seats = each_seats (set desk i t) (all_set Fits desk i t h (seats_each desk d.seats)) }

  pub good_next : (c : Call) (s : State) → Good so si s → Good so si (next c s)
  unfolding next
  good_next (save w a r) s g =
      either (Good so si) (eqb (save_no (set_of w s) a r) 0) _ s (λ e. good_with w _ s (saved_good _ (set_of w s) a r (eq_of _ _ e) (good_set w s g)) g) (λ e. g)
  good_next (delete w a p) s g =
      either (Good so si) (eqb (delete_no (set_of w s) a p) 0) _ s (λ e. good_with w _ s (deleted_good _ (set_of w s) a p (eq_of _ _ e) (good_set w s g)) g) (λ e. g)
  good_next (look a o) s g = g
  good_next (round x y) s g =
      let X = set_of x s in
      let Y = set_of y s in
      either (Good so si) (eqb (round_no s.desk s.buffer) 0) _ s
      (λ e. good_desk _ _ _ s (desk_turned X Y s.desk g.desk_good) (poured_long (handed_words X Y) 0 s.desk s.buffer ∙ g.words)
      (poured_long (noted X Y) 0 s.desk s.wrote ∙ g.notes) g) (λ e. g)
  good_next (open_seat i a k l) s g =
      either (Good so si) (eqb (open_seat_no s.desk i a l) 0) _ s
      (λ e.
      let m = open_seat_done s.desk i a l (eq_of _ _ e) in
      good_desk _ _ _ s (seat_set s.desk i (opened a k l) (opened_fits a k l m.range m.limit) g.desk_good) g.words (length-sets s.wrote _ (replicate 128 false) ∙ g.notes) g)
      (λ e. g)
  good_next (close_seat i) s g =
      either (Good so si) (eqb (close_seat_no s.desk i) 0) _ s (λ e. good_desk _ _ _ s (seat_set s.desk i closed closed_fits g.desk_good) g.words g.notes g) (λ e. g)
  good_next (ask_part i n) s g = g
  good_next (ask_part_no i n) s g = g
  good_next (no_batch w ws places) s g = g

  empty_good : (shares : List ℕ) (S : Set) → S ≡ empty_set shares → open_set_no shares ≡ 0 → GoodSet shares S
  empty_good shares S e d = rw e (record { given = refl; sound = empty_sound shares (open_set_done shares d); ranged = tt })

  pub good_opened : (s : State) → Opened so si s → Good so si s
  good_opened s o =
      record {
        outer_good = empty_good so s.outer_set o.outer_is o.outer_done;
        inner_good = empty_good si s.inner_set o.inner_is o.inner_done;
        desk_good = rw o.desk_is (record { eight = refl; seats = each_seats (replicate 8 closed) (all_replicate Fits 8 closed closed_fits) });
        words = o.buffer_is;
        notes = rw o.wrote_is (length-replicate 1024 false);
      }

  pub good_run : {s t : State} {ds : List Done} → Run s ds t → Good so si s → Good so si t
  good_run none g = g
  good_run (then {d = d} st r) g = good_run r (rw st.leaves (good_next d.call _ g))

  pub good_reached : {s t : State} {ds : List Done} → Opened so si s → Run s ds t → Good so si t
  good_reached {s} o r = good_run r (good_opened s o)

  -- SHARES: those given at the opening, and no account ever holds more
  pub share_given_lem : (w : Which) (a : ℕ) (s : State) → Good so si s → share_of a (set_of w s) ≡ share_given so si w a
  share_given_lem outer a s g = ap (λ l. get_or l a 0) g.outer_good.given
  share_given_lem inner a s g = ap (λ l. get_or l a 0) g.inner_good.given

  -- THE DESK is never at fault
  pub round_0 : (s : State) → Good so si s → round_no s.desk s.buffer ≡ 0
  round_0 s g = done_round s.desk s.buffer (record { fits = g.desk_good; words = g.words })

  pub desk_fits_lem : (s : State) → Good so si s → desk_fits s.desk ≡ true
  desk_fits_lem s g = fits_desk s.desk g.desk_good

  pub buffer_fits_lem : (s : State) → Good so si s → buffer_fits s.buffer ≡ true
  buffer_fits_lem s g = fits_buffer s.buffer g.words

  pub seat_fits_lem : (s : State) (i : ℕ) → Good so si s → Fits (seat_at s.desk i)
  seat_fits_lem s i g = all_get_d Fits s.desk i closed closed_fits (seats_each s.desk g.desk_good.seats)

  pub round_answer : (s : State) (x y : Which) → Good so si s → answer (round x y) s ≡ dealt (set_of x s) (set_of y s) s.desk
  unfolding answer
  round_answer s x y g = rw (round_0 s g)

  pub round_leaves : (s : State) (x y : Which) → Good so si s → next (round x y) s ≡ behind_round (set_of x s) (set_of y s) s
  unfolding next
  round_leaves s x y g = rw (round_0 s g)

-- NEVER IMAGE, NEVER DESK
fair_first : (ts : List (Bool × ℕ)) → All (λ t. Fair t.1) ts → Fair (first_no ts)
unfolding first_no
fair_first [] h = omega arith
fair_first (t ∷ ts) h = either Fair t.0 t.1 (first_no ts) (λ e. h.0) (λ e. fair_first ts h.1)

fair_unless : (n : ℕ) (x y : Shown) → Fair n → x.number ≡ 0 → y.number ≡ n → Fair (unless n x y).number
fair_unless n x y f e h = either (λ z. Fair z.number) (eqb n 0) x y (λ q. rw e (omega arith)) (λ q. rw h f)

fair_point : (a p : ℕ) → Fair (point_no a p)
unfolding point_no
fair_point a p = fair_first ((foreign a p, ACCOUNT) ∷ []) (omega arith)

fair_bounds : (a s e : ℕ) → Fair (bounds_no a s e)
unfolding bounds_no
fair_bounds a s e = fair_first ((not (well_bound s e), REGION) ∷ (foreign a s, ACCOUNT) ∷ []) (omega arith)

fair_join : (a : ℕ) → Fair (join_no a)
unfolding join_no
fair_join a = fair_first ((ltb 15 a, ACCOUNT) ∷ []) (omega arith)

fair_batch : (words places : ℕ) → Fair (batch_no words places)
unfolding batch_no
fair_batch words places = fair_first ((not (eqb (words % item_width) 0), FORM) ∷ (ltb places (words / item_width), ROOM) ∷ []) (omega arith)

fair_look : (a : ℕ) (o : Look) (s : State) → Fair (looked a o s).number
unfolding looked
fair_look a (ancestor_search w p ch out) s = fair_unless (point_no a p) (lists out (ancestors ch p (set_of w s))) (refuses (point_no a p) out) (fair_point a p) refl refl
fair_look a (parent_search w p l) s = fair_unless (point_no a p) (finds (parent p l (set_of w s))) (says (point_no a p)) (fair_point a p) refl refl
fair_look a (descendant_search w b e f out) s = fair_unless (bounds_no a b e) (pages out (descendants b e f (set_of w s))) (refuses (bounds_no a b e) out) (fair_bounds a b e) refl refl
fair_look a (child_search w b e l f out) s = fair_unless (bounds_no a b e) (pages out (children b e l f (set_of w s))) (refuses (bounds_no a b e) out) (fair_bounds a b e) refl refl
fair_look a (join x y k out) s = fair_unless (join_no a) (joins out (joined (set_of x s) (set_of y s) a k)) (refuses (join_no a) out) (fair_join a) refl refl
fair_look a (no_item w k) s = omega arith

pub fair : (so si : List ℕ) (c : Call) (s : State) → Good so si s → Fair (answer c s).number
unfolding answer save_no delete_no open_seat_no close_seat_no part_no
fair so si (save w a r) s g =
    fair_first
    ((not (well_formed r), REGION) ∷
    (foreign a r.start, ACCOUNT) ∷
    (held_at r.start (set_of w s), HELD) ∷
    (crossed r (set_of w s), CROSS) ∷
    (contradicted r (set_of w s), LEVEL) ∷
    (leb (share_of a (set_of w s)) (held_by a (set_of w s)), SHARE) ∷
    [])
    (omega arith)
fair so si (delete w a p) s g = fair_first ((foreign a p, ACCOUNT) ∷ (not (held_at p (set_of w s)), ABSENT) ∷ []) (omega arith)
fair so si (look a o) s g = fair_look a o s
fair so si (round x y) s g = rw (ap (λ (z : Shown). z.number) (round_answer so si s x y g)) (omega arith)
fair so si (open_seat i a k l) s g =
    rw (desk_fits_lem so si s g, first_no_lem false DESK _ refl) (fair_first ((ltb 7 i || is_open (seat_at s.desk i), SEAT) ∷ (ltb 15 a, ACCOUNT) ∷ (ltb most_a_round l, LIMIT) ∷ []) (omega arith))
fair so si (close_seat i) s g =
    rw (desk_fits_lem so si s g, first_no_lem false DESK _ refl) (fair_first ((ltb 7 i || not (is_open (seat_at s.desk i)), SEAT) ∷ []) (omega arith))
fair so si (ask_part i n) s g = omega arith
fair so si (ask_part_no i n) s g =
    rw (desk_fits_lem so si s g, buffer_fits_lem so si s g, first_no_lem false DESK _ refl)
    (fair_first ((ltb 7 i || not (is_open (seat_at s.desk i)), SEAT) ∷ (ltb (limit_of (seat_at s.desk i)) n, LIMIT) ∷ []) (omega arith))
fair so si (no_batch w ws places) s g = fair_batch (length ws) (length places)

pub never : (so si : List ℕ) {s₀ s t : State} {ds : List Done} (c : Call) {x : Answer} → Opened so si s₀ → Run s₀ ds s → Step s c x t → Fair x.shown.number
never so si {s = s} c o r st = rw st.answers (fair so si c s (good_reached so si o r))
