-- A run of the public calls' records means a history over plain sets: every step that a record allows is history's step with the same answer, and both
-- images stay valid.
-- Assumes nothing.
use Prim.Native.Nat.{ℕ, zero, suc, ◌+◌, ◌*◌, ◌<◌}
use mathlib.Core.Path.{◌≡◌, refl, sym, ap, ap₂, ◌∙◌, subst, subst₂}
use mathlib.Core.Bool.{Bool, true, false, ◌&&◌}
use mathlib.Core.List.{List, [], ◌∷◌, map}
use lib.Dec.{eqb}
use lib.ListN.{length, take, drop, get_or, length-map, length-take, length-drop}
use lib.Seq.{get_or-take, get_or-drop, ext_get_or}
use native.Mathlib.Omega.{arith}
use Rattle.words.proofs.Tests.{by_test, eq_of, ne_of, eq_yes, eq_no}
use Rattle.regions.specs.declared.Region.{Region}
use Rattle.regions.specs.declared.Seat.{Seat}
use Rattle.regions.specs.Numbers.{unless}
use Rattle.regions.specs.Refusals.{number_told}
use Rattle.regions.specs.Sets.{Set, saved, deleted}
use Rattle.regions.specs.Limits.{region_width, pair_width}
use Rattle.regions.specs.Calls.{written, count_written, more_remain, region_words, open_set_no, save_no, delete_no, point_no, ancestors, parent, bounds_no, descendants, children, Pair, joined, join_no, pair_words}
use Rattle.regions.specs.Desk.{seat_at, open_seat_no, close_seat_no, turned, handed_words, count_handed, counts, poured, served, part}
use Rattle.regions.proofs.Numbers.{number_own, own_right}
use Rattle.regions.proofs.Seats.{handed_long, handed_fits, poured_long, poured_in}
use Rattle.image.specs.Read.{set_of as setIn}
use Rattle.image.specs.Valid.{valid}
use Rattle.pages.specs.Layout.{image_words}
use Rattle.index.specs.Opening.{open_no}
use Rattle.queries.specs.Searches.{parent_found}
use Rattle.index.proofs.Empty.{opens_valid}
use Rattle.plainruns.specs.Calls.{Which, State, set_of, with_set, with_desk, Call, Shown, Answer, says, refuses, lists, pages, finds, joins, hands_back, looked, answer, noted, unnoted, next, Step, Done, Run, Opened}
use Rattle.plainruns.specs.Calls.Which.{outer, inner}
use Rattle.plainruns.specs.Calls.Run.{none, then}
use Rattle.plainruns.proofs.Good.{Good, good_next, good_opened, round_0, round_answer, round_leaves, seat_fits_lem}
use Rattle.plainruns.proofs.Relate.{desk_words}
use Rattle.plainruns.proofs.Demand.{count_at, words_at}
use Rattle.runs.specs.Calls.{Lent, image_of, with_image, with_seats, Valid, parts_of, Does, Runs, Singles, Ready, meaning, unwritten}
use Rattle.runs.specs.Calls.Does.{saves, deletes, finds_ancestors, finds_parent, finds_descendants, finds_children, joins_sets, rounds, opens_seat, closes_seat, parts, part_numbers, refuses_item, refuses_batch}
use Rattle.runs.specs.Calls.Singles.{none as no_more, then as and_then}
use Rattle.runs.proofs.Batched.{with_own, one_by_one}

unless_0 : {X : Type 0} (n : ℕ) (x y : X) → n ≡ 0 → unless n x y ≡ x
unless_0 n x y e = rw (eq_yes n 0 e)

unless_no : {X : Type 0} (n : ℕ) (x y : X) → (n ≡ 0 → ⊥) → unless n x y ≡ y
unless_no n x y e = rw (eq_no n 0 e)

by_number : {C : Type 0} (n : ℕ) → (n ≡ 0 → C) → ((n ≡ 0 → ⊥) → C) → C
by_number n f g = by_test (eqb n 0) (λ e. f (eq_of n 0 e)) (λ e. g (ne_of n 0 e))

shown : {x y : Shown} → x ≡ y → x ≡ y
shown e = e

-- THE MEANING of what is lent
pub set_of_lem : (w : Which) (l : Lent) (n : List Bool) → set_of w (meaning l n) ≡ setIn (image_of w l)
set_of_lem outer l n = refl
set_of_lem inner l n = refl

means_with : (w : Which) (w' : List ℕ) (l : Lent) (n : List Bool) → meaning (with_image w w' l) n ≡ with_set w (setIn w') (meaning l n)
means_with outer w' l n = refl
means_with inner w' l n = refl

valid_with : (w : Which) (w' : List ℕ) (l : Lent) → valid w' ≡ true → Valid l → Valid (with_image w w' l)
valid_with outer w' l h k outer = h
valid_with outer w' l h k inner = k inner
valid_with inner w' l h k outer = k outer
valid_with inner w' l h k inner = h

valid_seats : (l : Lent) (desk : List Seat) (b : List ℕ) → Valid l → Valid (with_seats desk b l)
valid_seats l desk b k outer = k outer
valid_seats l desk b k inner = k inner

-- the notes are those of the state meant
settle : (m : Lent) (n : List Bool) (t : State) → meaning m n ≡ t → meaning m t.wrote ≡ t
settle m n t e = ap (meaning m) (sym (ap (λ (s : State). s.wrote) e)) ∙ e

-- a save or delete
update : (w : Which) (l : Lent) (notes : List Bool) (w' : List ℕ) (num n : ℕ) (S : Set) → num ≡ n → Valid l
    → ((num ≡ 0 → ⊥) → w' ≡ image_of w l) → (num ≡ 0 → (valid w' ≡ true) × (setIn w' ≡ S))
    → (meaning (with_image w w' l) notes ≡ unless n (with_set w S (meaning l notes)) (meaning l notes)) × Valid (with_image w w' l)
update w l notes w' num n S e k r d =
    by_number num
    (λ z. (means_with w w' l notes ∙ ap (λ Z. with_set w Z (meaning l notes)) (d z).1 ∙ sym (unless_0 n _ _ (sym e ∙ z)), valid_with w w' l (d z).0 k))
    (λ z. (
      ap (λ v. meaning (with_image w v l) notes) (r z) ∙ ap (λ m. meaning m notes) (with_own w l) ∙ sym (unless_no n _ _ (λ q. z (e ∙ q))),
      subst Valid (sym (ap (λ v. with_image w v l) (r z) ∙ with_own w l)) k,
    ))

-- a call that left every word
unchanged : (w : Which) (l : Lent) (notes : List Bool) (w' : List ℕ) → w' ≡ image_of w l → Valid l → (meaning (with_image w w' l) notes ≡ meaning l notes) × Valid (with_image w w' l)
unchanged w l notes w' e k =
    let q : with_image w w' l ≡ l = ap (λ v. with_image w v l) e ∙ with_own w l in
    (ap (λ m. meaning m notes) q, subst Valid (sym q) k)

-- WHAT A SEARCH SHOWS
shown_lists : (num n total : ℕ) (out out' : List ℕ) (rs : List Region) → num ≡ n → ((num ≡ 0 → ⊥) → (total ≡ 0) × (out' ≡ out))
    → (num ≡ 0 → (total ≡ length rs) × (out' ≡ written region_words region_width out rs))
    → record { number = num; count = total; more = false; found = []; counts = []; hands = []; words = out' } ≡ unless n (lists out rs) (refuses n out)
shown_lists num n total out out' rs e r d =
    by_number num
    (λ z. shown (λ i. record { number = z i; count = (d z).0 i; more = false; found = []; counts = []; hands = []; words = (d z).1 i }) ∙ sym (unless_0 n _ _ (sym e ∙ z)))
    (λ z. shown (λ i. record { number = e i; count = (r z).0 i; more = false; found = []; counts = []; hands = []; words = (r z).1 i }) ∙ sym (unless_no n _ _ (λ q. z (e ∙ q))))

shown_joins : (num n total : ℕ) (out out' : List ℕ) (qs : List Pair) → num ≡ n → ((num ≡ 0 → ⊥) → (total ≡ 0) × (out' ≡ out))
    → (num ≡ 0 → (total ≡ length qs) × (out' ≡ written pair_words pair_width out qs))
    → record { number = num; count = total; more = false; found = []; counts = []; hands = []; words = out' } ≡ unless n (joins out qs) (refuses n out)
shown_joins num n total out out' qs e r d =
    by_number num
    (λ z. shown (λ i. record { number = z i; count = (d z).0 i; more = false; found = []; counts = []; hands = []; words = (d z).1 i }) ∙ sym (unless_0 n _ _ (sym e ∙ z)))
    (λ z. shown (λ i. record { number = e i; count = (r z).0 i; more = false; found = []; counts = []; hands = []; words = (r z).1 i }) ∙ sym (unless_no n _ _ (λ q. z (e ∙ q))))

shown_pages : (num n count : ℕ) (more : Bool) (out out' : List ℕ) (rs : List Region) → num ≡ n
    → ((num ≡ 0 → ⊥) → (count ≡ 0) × (more ≡ false) × (out' ≡ out))
    → (num ≡ 0 → (count ≡ count_written region_width out rs) × (more ≡ more_remain region_width out rs) × (out' ≡ written region_words region_width out rs))
    → record { number = num; count = count; more = more; found = []; counts = []; hands = []; words = out' } ≡ unless n (pages out rs) (refuses n out)
shown_pages num n count more out out' rs e r d =
    by_number num
    (λ z. shown (λ i. record { number = z i; count = (d z).0 i; more = (d z).1 i; found = []; counts = []; hands = []; words = (d z).2 i }) ∙ sym (unless_0 n _ _ (sym e ∙ z)))
    (λ z. shown (λ i. record { number = e i; count = (r z).0 i; more = (r z).1 i; found = []; counts = []; hands = []; words = (r z).2 i }) ∙ sym (unless_no n _ _ (λ q. z (e ∙ q))))

shown_finds : (num n : ℕ) (found rs : List Region) → num ≡ n → ((num ≡ 0 → ⊥) → found ≡ []) → (num ≡ 0 → found ≡ rs)
    → record { number = num; count = 0; more = false; found = found; counts = []; hands = []; words = [] } ≡ unless n (finds rs) (says n)
shown_finds num n found rs e r d =
    by_number num
    (λ z. shown (λ i. record { number = z i; count = 0; more = false; found = d z i; counts = []; hands = []; words = [] }) ∙ sym (unless_0 n _ _ (sym e ∙ z)))
    (λ z. shown (λ i. record { number = e i; count = 0; more = false; found = r z i; counts = []; hands = []; words = [] }) ∙ sym (unless_no n _ _ (λ q. z (e ∙ q))))

-- A ROUND'S WORDS: those that its counts point at are those handed
parts_long : (i : ℕ) (ns b : List ℕ) → length (parts_of i ns b) ≡ length ns
unfolding parts_of
parts_long i [] b = refl
parts_long i (n ∷ ns) b = ap suc (parts_long (suc i) ns b)

parts_at : (i : ℕ) (ns b : List ℕ) (j : ℕ) → j < length ns → get_or (parts_of i ns b) j [] ≡ take (4 * get_or ns j 0) (drop (128 * (i + j)) b)
unfolding parts_of
parts_at i [] b j h = absurd (omega arith)
parts_at i (n ∷ ns) b zero h = let e : i + 0 ≡ i = omega arith in rw e
parts_at i (n ∷ ns) b (suc j) h = let e : i + suc j ≡ suc i + j = omega arith in rw e (parts_at (suc i) ns b j (omega arith))

module _ (so si : List ℕ) (X Y : Set) (s : State) (g : Good so si s) where
  lies : (i : ℕ) → i < 8 → take (4 * count_handed X Y (seat_at s.desk i)) (drop (128 * i) (served X Y s.desk s.buffer)) ≡ handed_words X Y (seat_at s.desk i)
  lies i low =
      let n = count_handed X Y (seat_at s.desk i) in
      let b = served X Y s.desk s.buffer in
      let w = handed_long X Y (seat_at s.desk i) in
      let v = handed_fits X Y (seat_at s.desk i) (seat_fits_lem so si s i g) in
      let lc : length (take (4 * n) (drop (128 * i) b)) ≡ 4 * n =
      length-take (4 * n) (drop (128 * i) b) ∙ omega (arith, length-drop (128 * i) b, poured_long (handed_words X Y) 0 s.desk s.buffer, g.words) in
      ext_get_or 0 (take (4 * n) (drop (128 * i) b)) (handed_words X Y (seat_at s.desk i)) (lc ∙ sym w)
      (λ j h.
      get_or-take (4 * n) (drop (128 * i) b) j 0 (omega arith) ∙ get_or-drop (128 * i) b j 0
      ∙ poured_in (handed_words X Y) s.desk s.buffer g.desk_good.eight g.words (desk_words so si X Y s g) i j 0 low (omega arith))

  round_hands : (ns b : List ℕ) → ns ≡ counts X Y s.desk → b ≡ served X Y s.desk s.buffer → parts_of 0 ns b ≡ map (handed_words X Y) s.desk
  round_hands ns b en eb =
      let n = ap length en ∙ length-map s.desk (count_handed X Y) in
      let p = parts_long 0 ns b in
      let e8 = g.desk_good.eight in
      ext_get_or [] (parts_of 0 ns b) (map (handed_words X Y) s.desk) (p ∙ n ∙ sym (length-map s.desk (handed_words X Y)))
      (λ j h.
      let z : 0 + j ≡ j = omega arith in
      let c : get_or ns j 0 ≡ count_handed X Y (seat_at s.desk j) = ap (λ k. get_or k j 0) en ∙ count_at X Y s.desk j in
      parts_at 0 ns b j (omega arith) ∙ ap₂ (λ u v. take (4 * u) (drop (128 * (0 + j)) v)) c eb
      ∙ ap (λ u. take (4 * count_handed X Y (seat_at s.desk j)) (drop (128 * u) (served X Y s.desk s.buffer))) z
      ∙ lies j (omega arith) ∙ sym (words_at X Y s.desk j))

-- EVERY STEP that a record allows is a step over sets, with the same answer, and leaves both images valid
pub means : (so si : List ℕ) {l m : Lent} {c : Call} {x : Answer} (notes : List Bool) → Does l c x m → Good so si (meaning l notes) → Valid l
    → Step (meaning l notes) c x (meaning m (next c (meaning l notes)).wrote) × Valid m
unfolding answer looked next
means so si {l = l} notes (saves {a = a} {r = r} {number = num} {w' = w'} w h) g k =
    let q = set_of_lem w l notes in
    let e = number_own (valid (image_of w l)) num _ (k w) h.number_is ∙ ap (λ S. save_no S a r) (sym q) in
    let u = update w l notes w' num (save_no (set_of w (meaning l notes)) a r) (saved r (set_of w (meaning l notes))) e k h.refused
    (λ z. ((h.done z).0, (h.done z).1 ∙ ap (saved r) (sym q))) in
    (record { answers = ap says e; leaves = settle (with_image w w' l) notes _ u.0 }, u.1)
means so si {l = l} notes (deletes {a = a} {p = p} {number = num} {w' = w'} w h) g k =
    let q = set_of_lem w l notes in
    let e = number_own (valid (image_of w l)) num _ (k w) h.number_is ∙ ap (λ S. delete_no S a p) (sym q) in
    let u = update w l notes w' num (delete_no (set_of w (meaning l notes)) a p) (deleted p (set_of w (meaning l notes))) e k h.refused
    (λ z. ((h.done z).0, (h.done z).1 ∙ ap (deleted p) (sym q))) in
    (record { answers = ap says e; leaves = settle (with_image w w' l) notes _ u.0 }, u.1)
means so si {l = l} notes (finds_ancestors {a = a} {p = p} {ch = ch} {out = out} {number = num} {total = total} {out' = out'} w h) g k = (
  record {
    answers = shown_lists num (point_no a p) total out out' _ (number_own (valid (image_of w l)) num _ (k w) h.number_is) (λ z. ((h.refused z).0, (h.refused z).2)) (λ z. ((h.done z).0, (h.done z).2))
        ∙ ap (λ S. unless (point_no a p) (lists out (ancestors ch p S)) (refuses (point_no a p) out)) (sym (set_of_lem w l notes));
    leaves = refl;
  },
  k,
)
means so si {l = l} notes (finds_parent {a = a} {p = p} {v = v} {x = x} w h) g k = (
  record {
    answers = shown_finds (number_told x) (point_no a p) (parent_found x) _ (number_own (valid (image_of w l)) (number_told x) _ (k w) h.number_is) h.refused h.done
        ∙ ap (λ S. unless (point_no a p) (finds (parent p v S)) (says (point_no a p))) (sym (set_of_lem w l notes));
    leaves = refl;
  },
  k,
)
means so si {l = l} notes (finds_descendants {a = a} {b = b} {e = e} {f = f} {out = out} {number = num} {count = count} {more = more} {out' = out'} w h) g k = (
  record {
    answers = shown_pages num (bounds_no a b e) count more out out' _ (number_own (valid (image_of w l)) num _ (k w) h.number_is) h.refused h.done
        ∙ ap (λ S. unless (bounds_no a b e) (pages out (descendants b e f S)) (refuses (bounds_no a b e) out)) (sym (set_of_lem w l notes));
    leaves = refl;
  },
  k,
)
means so si {l = l} notes (finds_children {a = a} {b = b} {e = e} {v = v} {f = f} {out = out} {number = num} {count = count} {more = more} {out' = out'} w h) g k = (
  record {
    answers = shown_pages num (bounds_no a b e) count more out out' _ (number_own (valid (image_of w l)) num _ (k w) h.number_is) h.refused h.done
        ∙ ap (λ S. unless (bounds_no a b e) (pages out (children b e v f S)) (refuses (bounds_no a b e) out)) (sym (set_of_lem w l notes));
    leaves = refl;
  },
  k,
)
means so si {l = l} notes (joins_sets {a = a} {k = kind} {out = out} {number = num} {total = total} {out' = out'} x y h) g k = (
  record {
    answers = shown_joins num (join_no a) total out out' _ (number_own (valid (image_of x l) && valid (image_of y l)) num _ (ap₂ ◌&&◌ (k x) (k y)) h.number_is) h.refused h.done
        ∙ ap₂ (λ S Z. unless (join_no a) (joins out (joined S Z a kind)) (refuses (join_no a) out)) (sym (set_of_lem x l notes)) (sym (set_of_lem y l notes));
    leaves = refl;
  },
  k,
)
means so si {l = l} notes (rounds {number = num} {counts = ns} {desk' = desk'} {buffer' = b'} x y h) g k =
    let s = meaning l notes in
    let X = set_of x s in
    let Y = set_of y s in
    let z : num ≡ 0 = number_own (valid (image_of x l) && valid (image_of y l)) num _ (ap₂ ◌&&◌ (k x) (k y)) h.number_is ∙ round_0 so si s g in
    let d : (ns ≡ counts X Y l.desk) × (desk' ≡ map (turned X Y) l.desk) × (b' ≡ served X Y l.desk l.buffer) =
    subst₂ (λ (P Q : Set). (ns ≡ counts P Q l.desk) × (desk' ≡ map (turned P Q) l.desk) × (b' ≡ served P Q l.desk l.buffer)) (sym (set_of_lem x l notes)) (sym (set_of_lem y l notes))
    (h.counts_are ∙ unless_0 num _ _ z, h.desk_is ∙ unless_0 num _ _ z, h.buffer_is ∙ unless_0 num _ _ z) in (
      record {
        answers = shown (λ i. record { number = z i; count = 0; more = false; found = []; counts = d.0 i; hands = round_hands so si X Y s g ns b' d.0 d.2 i; words = [] }) ∙ sym (round_answer so si s x y g);
        leaves = settle (with_seats desk' b' l) _ _ (ap₂ (λ u v. with_desk u v (poured (noted X Y) 0 l.desk notes) s) d.1 d.2 ∙ sym (round_leaves so si s x y g));
      },
      valid_seats l desk' b' k,
    )
means so si {l = l} notes (opens_seat {number = num} {desk' = desk'} i a q v h) g k =
    let s = meaning l notes in (
      record {
        answers = ap says h.number_is;
        leaves = by_number num
            (λ z. settle (with_seats desk' l.buffer l) (unnoted i notes) _
            (ap (λ ds. with_desk ds l.buffer (unnoted i notes) s) (h.desk_is ∙ unless_0 num _ _ z) ∙ sym (unless_0 (open_seat_no l.desk i a v) _ _ (sym h.number_is ∙ z))))
            (λ z. settle (with_seats desk' l.buffer l) notes _
            (ap (λ ds. with_desk ds l.buffer notes s) (h.desk_is ∙ unless_no num _ _ z) ∙ sym (unless_no (open_seat_no l.desk i a v) _ _ (λ e. z (h.number_is ∙ e)))));
      },
      valid_seats l desk' l.buffer k,
    )
means so si {l = l} notes (closes_seat {number = num} {desk' = desk'} i h) g k =
    let s = meaning l notes in (
      record {
        answers = ap says h.number_is;
        leaves = by_number num
            (λ z. settle (with_seats desk' l.buffer l) notes _
            (ap (λ ds. with_desk ds l.buffer notes s) (h.desk_is ∙ unless_0 num _ _ z) ∙ sym (unless_0 (close_seat_no l.desk i) _ _ (sym h.number_is ∙ z))))
            (λ z. settle (with_seats desk' l.buffer l) notes _
            (ap (λ ds. with_desk ds l.buffer notes s) (h.desk_is ∙ unless_no num _ _ z) ∙ sym (unless_no (close_seat_no l.desk i) _ _ (λ e. z (h.number_is ∙ e)))));
      },
      valid_seats l desk' l.buffer k,
    )
means so si {l = l} notes (parts i n e h) g k = (record { answers = ap hands_back (h.part_is.words_are ∙ ap (λ b. part l.desk b i n) e); leaves = refl }, k)
means so si notes (part_numbers i n h) g k = (record { answers = ap says h.number_is; leaves = refl }, k)
means so si {l = l} notes (refuses_item {w' = w'} w h) g k =
    let u = unchanged w l notes w' h.1 k in
    (record { answers = ap says h.0; leaves = u.0 }, u.1)
means so si {l = l} notes (refuses_batch {words = words} {places = places} {number = num} {w' = w'} w h n) g k =
    let e = number_own (valid (image_of w l)) num _ (k w) h.number_is in
    let r = h.refused n in
    let u = unchanged w l notes w' r.0 k in
    (record { answers = ap₂ refuses e r.1; leaves = u.0 }, u.1)

-- so is every run, since it is one of single calls
means_singles : (so si : List ℕ) {l m : Lent} {ds : List Done} (notes : List Bool) → Singles l ds m → Good so si (meaning l notes) → Valid l
    → ((notes' : List Bool) × Run (meaning l notes) ds (meaning m notes')) × Valid m
means_singles so si notes no_more g k = ((notes, none), k)
means_singles so si {l = l} notes (and_then {d = d} h r) g k =
    let u = means so si notes h g k in
    let v = means_singles so si (next d.call (meaning l notes)).wrote r (rw u.0.leaves (good_next so si d.call (meaning l notes) g)) u.1 in
    ((v.0.0, then u.0 v.0.1), v.1)

pub means_runs : (so si : List ℕ) {l m : Lent} {ds : List Done} (notes : List Bool) → Runs l ds m → Good so si (meaning l notes) → Valid l
    → ((notes' : List Bool) × Run (meaning l notes) ds (meaning m notes')) × Valid m
means_runs so si notes run g k = means_singles so si notes (one_by_one run) g k

-- THE BEGINNING
opening_0 : (w shares : List ℕ) → 0 ≡ open_no w shares → open_set_no shares ≡ 0
unfolding open_no
opening_0 w shares e = own_right (eqb (length w) image_words) (open_set_no shares) e

pub begins : (so si : List ℕ) (l : Lent) → Ready so si l → Opened so si (meaning l unwritten) × Valid l
begins so si l r =
    let o = opens_valid r.outer_lent so l.outer_image r.outer_shares r.opens_outer in
    let i = opens_valid r.inner_lent si l.inner_image r.inner_shares r.opens_inner in (
      record {
        outer_shares = r.outer_shares;
        inner_shares = r.inner_shares;
        outer_done = opening_0 r.outer_lent so r.opens_outer.number_is;
        inner_done = opening_0 r.inner_lent si r.opens_inner.number_is;
        outer_is = o.1;
        inner_is = i.1;
        desk_is = r.opens_desk.desk_is;
        buffer_is = r.buffer_is;
        wrote_is = refl;
      },
      both o.0 i.0,
    )
  where
    both : valid l.outer_image ≡ true → valid l.inner_image ≡ true → Valid l
    both u v outer = u
    both u v inner = v

-- behind every run from the three openings both images are valid
pub always_valid : (so si : List ℕ) {l m : Lent} {ds : List Done} → Ready so si l → Runs l ds m → Valid m
always_valid so si {l = l} r run = let b = begins so si l r in (means_runs so si unwritten run (good_opened so si (meaning l unwritten) b.0) b.1).1

-- and it means a run over sets
pub meant : (so si : List ℕ) {l m : Lent} {ds : List Done} → Ready so si l → Runs l ds m → (notes : List Bool) × Run (meaning l unwritten) ds (meaning m notes)
meant so si {l = l} r run = let b = begins so si l r in (means_runs so si unwritten run (good_opened so si (meaning l unwritten) b.0) b.1).0
