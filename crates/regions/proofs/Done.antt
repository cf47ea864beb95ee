-- What a call's number 0 says: every one of its tests failed. Each law with its converse, so that 0 is answered exactly there.
-- Assumes nothing.
use Prim.Native.Nat.{ℕ, ◌/◌, ◌%◌, ◌<◌, ◌≤◌}
use mathlib.Core.Path.{◌≡◌, refl, ap}
use mathlib.Core.Bool.{Bool, true, false, not, ◌&&◌, ◌||◌, true≢false}
use mathlib.Core.List.{List, []}
use lib.Dec.{leb, ltb, eqb}
use lib.ListN.{length}
use Rattle.words.specs.Lists.{all, first_no, sum}
use Rattle.words.proofs.Tests.{of_T, T_of, and_left, and_right, or_false_left, or_false_right, not_false, not_true, nlt_of, nle_of, lt_no, le_no, eq_of, eq_yes, first_0}
use Rattle.words.proofs.Says.{true_so, so_true}
use Rattle.regions.specs.declared.Region.{Region}
use Rattle.regions.specs.declared.Seat.{Seat}
use Rattle.regions.specs.Positions.{account, well_bound, well_formed}
use Rattle.regions.specs.Limits.{most_a_round, item_width}
use Rattle.regions.specs.Sets.{Set, held_at, crossed, contradicted, held_by, share_of}
use Rattle.regions.specs.Calls.{foreign, open_set_no, save_no, delete_no, point_no, bounds_no, join_no}
use Rattle.regions.specs.Items.{batch_no}
use Rattle.regions.specs.Desk.{desk_fits, buffer_fits, seat_fits, seat_at, is_open, limit_of, open_desk_no, open_seat_no, close_seat_no, round_no, part_no}
use Rattle.regions.proofs.Means.{foreign_says}

-- an account is in range and a position is its own
pub record Own (a p : ℕ) : Type 0 where
  pub range : a ≤ 15
  pub same : account p ≡ a

pub own_of : (a p : ℕ) → foreign a p ≡ false → Own a p
own_of a p h = let m = true_so (foreign_says a p) (ap not h) in record { range = m.0; same = m.1 }

pub of_own : (a p : ℕ) → Own a p → foreign a p ≡ false
of_own a p o = not_not (so_true (foreign_says a p) (o.range, o.same))
  where
    not_not : {b : Bool} → not b ≡ true → b ≡ false
    not_not {b} e = not_true b e

-- SETS
pub open_set_done : (shares : List ℕ) → open_set_no shares ≡ 0 → sum shares ≤ 500
unfolding open_set_no
open_set_done shares e = nlt_of _ _ (first_0 (ltb 500 (sum shares)) 7 [] e).0

pub done_open_set : (shares : List ℕ) → sum shares ≤ 500 → open_set_no shares ≡ 0
unfolding open_set_no first_no
done_open_set shares l = rw (lt_no 500 (sum shares) l)

pub record MaySave (S : Set) (a : ℕ) (r : Region) : Type 0 where
  pub formed : well_formed r ≡ true
  pub own : Own a r.start
  pub free : held_at r.start S ≡ false
  pub clear : crossed r S ≡ false
  pub level : contradicted r S ≡ false
  pub room : held_by a S < share_of a S

pub save_done : (S : Set) (a : ℕ) (r : Region) → save_no S a r ≡ 0 → MaySave S a r
unfolding save_no
save_done S a r e =
    let u = first_0 (not (well_formed r)) 1 _ e in
    let v = first_0 (foreign a r.start) 2 _ u.1 in
    let w = first_0 (held_at r.start S) 3 _ v.1 in
    let x = first_0 (crossed r S) 4 _ w.1 in
    let y = first_0 (contradicted r S) 13 _ x.1 in
    let z = first_0 (leb (share_of a S) (held_by a S)) 5 _ y.1 in
    record { formed = not_false _ u.0; own = own_of a r.start v.0; free = w.0; clear = x.0; level = y.0; room = nle_of _ _ z.0 }

pub done_save : (S : Set) (a : ℕ) (r : Region) → MaySave S a r → save_no S a r ≡ 0
unfolding save_no first_no
done_save S a r m = rw (m.formed, of_own a r.start m.own, m.free, m.clear, m.level, le_no (share_of a S) (held_by a S) m.room)

pub record MayDelete (S : Set) (a s : ℕ) : Type 0 where
  pub own : Own a s
  pub held : held_at s S ≡ true

pub delete_done : (S : Set) (a s : ℕ) → delete_no S a s ≡ 0 → MayDelete S a s
unfolding delete_no
delete_done S a s e =
    let u = first_0 (foreign a s) 2 _ e in
    let v = first_0 (not (held_at s S)) 6 _ u.1 in
    record { own = own_of a s u.0; held = not_false _ v.0 }

pub done_delete : (S : Set) (a s : ℕ) → MayDelete S a s → delete_no S a s ≡ 0
unfolding delete_no first_no
done_delete S a s m = rw (of_own a s m.own, m.held)

-- a batch, by the words of its items and the places for its answers
pub record MayBatch (words places : ℕ) : Type 0 where
  pub whole : words % item_width ≡ 0
  pub room : words / item_width ≤ places

pub batch_done : (words places : ℕ) → batch_no words places ≡ 0 → MayBatch words places
unfolding batch_no
batch_done words places e =
    let u = first_0 (not (eqb (words % item_width) 0)) 11 _ e in
    let v = first_0 (ltb places (words / item_width)) 12 _ u.1 in
    record { whole = eq_of _ _ (not_false _ u.0); room = nlt_of _ _ v.0 }

pub done_batch : (words places : ℕ) → MayBatch words places → batch_no words places ≡ 0
unfolding batch_no first_no
done_batch words places m = rw (eq_yes (words % item_width) 0 m.whole, lt_no places (words / item_width) m.room)

-- SEARCHES AND THE JOIN
pub point_done : (a p : ℕ) → point_no a p ≡ 0 → Own a p
unfolding point_no
point_done a p e = own_of a p (first_0 (foreign a p) 2 _ e).0

pub done_point : (a p : ℕ) → Own a p → point_no a p ≡ 0
unfolding point_no first_no
done_point a p o = rw (of_own a p o)

pub record MayBound (a s e : ℕ) : Type 0 where
  pub bound : well_bound s e ≡ true
  pub own : Own a s

pub bounds_done : (a s e : ℕ) → bounds_no a s e ≡ 0 → MayBound a s e
unfolding bounds_no
bounds_done a s e z =
    let u = first_0 (not (well_bound s e)) 1 _ z in
    record { bound = not_false _ u.0; own = own_of a s (first_0 (foreign a s) 2 _ u.1).0 }

pub done_bounds : (a s e : ℕ) → MayBound a s e → bounds_no a s e ≡ 0
unfolding bounds_no first_no
done_bounds a s e m = rw (m.bound, of_own a s m.own)

pub join_done : (a : ℕ) → join_no a ≡ 0 → a ≤ 15
unfolding join_no
join_done a e = nlt_of _ _ (first_0 (ltb 15 a) 2 _ e).0

pub done_join : (a : ℕ) → a ≤ 15 → join_no a ≡ 0
unfolding join_no first_no
done_join a l = rw (lt_no 15 a l)

-- THE DESK
pub record DeskOk (desk : List Seat) : Type 0 where
  pub eight : length desk ≡ 8
  pub seats : all seat_fits desk ≡ true

pub desk_fits_lem : (desk : List Seat) → desk_fits desk ≡ true → DeskOk desk
unfolding desk_fits
desk_fits_lem desk h =
    let t = T_of h in
    record { eight = eq_of _ _ (of_T _ (and_left (eqb (length desk) 8) (all seat_fits desk) t)); seats = of_T _ (and_right (eqb (length desk) 8) (all seat_fits desk) t) }

pub fits_desk : (desk : List Seat) → DeskOk desk → desk_fits desk ≡ true
unfolding desk_fits
fits_desk desk d = rw (eq_yes _ _ d.eight) d.seats

pub buffer_fits_lem : (buffer : List ℕ) → buffer_fits buffer ≡ true → length buffer ≡ 1024
unfolding buffer_fits
buffer_fits_lem buffer h = eq_of _ _ h

pub fits_buffer : (buffer : List ℕ) → length buffer ≡ 1024 → buffer_fits buffer ≡ true
unfolding buffer_fits
fits_buffer buffer e = eq_yes _ _ e

both_fit : (a b : Bool) → not (a && b) ≡ false → (a ≡ true) × (b ≡ true)
both_fit true b h = (refl, not_false b h)
both_fit false b h = absurd (true≢false h)

pub open_desk_done : (desk : List Seat) → open_desk_no desk ≡ 0 → length desk ≡ 8
unfolding open_desk_no
open_desk_done desk e = eq_of _ _ (not_false _ (first_0 (not (eqb (length desk) 8)) 10 _ e).0)

pub done_open_desk : (desk : List Seat) → length desk ≡ 8 → open_desk_no desk ≡ 0
unfolding open_desk_no first_no
done_open_desk desk e = rw (eq_yes (length desk) 8 e)

pub record MayOpen (desk : List Seat) (i a l : ℕ) : Type 0 where
  pub fits : DeskOk desk
  pub seat : i ≤ 7
  pub shut : is_open (seat_at desk i) ≡ false
  pub range : a ≤ 15
  pub limit : l ≤ most_a_round

pub open_seat_done : (desk : List Seat) (i a l : ℕ) → open_seat_no desk i a l ≡ 0 → MayOpen desk i a l
unfolding open_seat_no
open_seat_done desk i a l e =
    let u = first_0 (not (desk_fits desk)) 10 _ e in
    let v = first_0 (ltb 7 i || is_open (seat_at desk i)) 8 _ u.1 in
    let w = first_0 (ltb 15 a) 2 _ v.1 in
    let x = first_0 (ltb most_a_round l) 9 _ w.1 in
    record {
      fits = desk_fits_lem desk (not_false _ u.0);
      seat = nlt_of _ _ (or_false_left (ltb 7 i) _ v.0);
      shut = or_false_right (ltb 7 i) _ v.0;
      range = nlt_of _ _ w.0;
      limit = nlt_of _ _ x.0;
    }

pub done_open_seat : (desk : List Seat) (i a l : ℕ) → MayOpen desk i a l → open_seat_no desk i a l ≡ 0
unfolding open_seat_no first_no
done_open_seat desk i a l m = rw (fits_desk desk m.fits, lt_no 7 i m.seat, m.shut, lt_no 15 a m.range, lt_no most_a_round l m.limit)

pub record MayClose (desk : List Seat) (i : ℕ) : Type 0 where
  pub fits : DeskOk desk
  pub seat : i ≤ 7
  pub opened : is_open (seat_at desk i) ≡ true

pub close_seat_done : (desk : List Seat) (i : ℕ) → close_seat_no desk i ≡ 0 → MayClose desk i
unfolding close_seat_no
close_seat_done desk i e =
    let u = first_0 (not (desk_fits desk)) 10 _ e in
    let v = first_0 (ltb 7 i || not (is_open (seat_at desk i))) 8 _ u.1 in
    record { fits = desk_fits_lem desk (not_false _ u.0); seat = nlt_of _ _ (or_false_left (ltb 7 i) _ v.0); opened = not_false _ (or_false_right (ltb 7 i) _ v.0) }

pub done_close_seat : (desk : List Seat) (i : ℕ) → MayClose desk i → close_seat_no desk i ≡ 0
unfolding close_seat_no first_no
done_close_seat desk i m = rw (fits_desk desk m.fits, lt_no 7 i m.seat, m.opened)

pub record MayRound (desk : List Seat) (buffer : List ℕ) : Type 0 where
  pub fits : DeskOk desk
  pub words : length buffer ≡ 1024

pub round_done : (desk : List Seat) (buffer : List ℕ) → round_no desk buffer ≡ 0 → MayRound desk buffer
unfolding round_no
round_done desk buffer e =
    let u = both_fit (desk_fits desk) (buffer_fits buffer) (first_0 (not (desk_fits desk && buffer_fits buffer)) 10 _ e).0 in
    record { fits = desk_fits_lem desk u.0; words = buffer_fits_lem buffer u.1 }

pub done_round : (desk : List Seat) (buffer : List ℕ) → MayRound desk buffer → round_no desk buffer ≡ 0
unfolding round_no first_no
done_round desk buffer m = rw (fits_desk desk m.fits, fits_buffer buffer m.words)

pub record MayPart (desk : List Seat) (buffer : List ℕ) (i n : ℕ) : Type 0 where
  pub round : MayRound desk buffer
  pub seat : i ≤ 7
  pub opened : is_open (seat_at desk i) ≡ true
  pub limit : n ≤ limit_of (seat_at desk i)

pub part_done : (desk : List Seat) (buffer : List ℕ) (i n : ℕ) → part_no desk buffer i n ≡ 0 → MayPart desk buffer i n
unfolding part_no
part_done desk buffer i n e =
    let u = first_0 (not (desk_fits desk && buffer_fits buffer)) 10 _ e in
    let f = both_fit (desk_fits desk) (buffer_fits buffer) u.0 in
    let v = first_0 (ltb 7 i || not (is_open (seat_at desk i))) 8 _ u.1 in
    let w = first_0 (ltb (limit_of (seat_at desk i)) n) 9 _ v.1 in
    record {
      round = record { fits = desk_fits_lem desk f.0; words = buffer_fits_lem buffer f.1 };
      seat = nlt_of _ _ (or_false_left (ltb 7 i) _ v.0);
      opened = not_false _ (or_false_right (ltb 7 i) _ v.0);
      limit = nlt_of _ _ w.0;
    }

pub done_part : (desk : List Seat) (buffer : List ℕ) (i n : ℕ) → MayPart desk buffer i n → part_no desk buffer i n ≡ 0
unfolding part_no first_no
done_part desk buffer i n m =
    rw (fits_desk desk m.round.fits, fits_buffer buffer m.round.words, lt_no 7 i m.seat, m.opened, lt_no (limit_of (seat_at desk i)) n m.limit)
