-- C-23, of every run: the pairs that one opening of a seat is handed never go back in the join's order; a pair that is listed when its turn comes is handed
-- in that round alone; and while the account's regions stay, the rounds go through the list by the seat's limit.
-- Assumes nothing.
use Prim.Native.Nat.{ℕ, ◌+◌, ◌*◌, ◌<◌, min}
use mathlib.Core.Path.{◌≡◌, refl, sym, ap, ap₂, ◌∙◌, subst}
use mathlib.Core.Logic.{⊎_elim, inl, inr}
use mathlib.Core.Bool.{Bool, true, false, cond, true≢false, false≢true}
use mathlib.Core.List.{List, [], ◌∷◌, ◌++◌, flat_map}
use lib.Dec.{eqb}
use lib.ListN.{length, take, drop, get_or, take-append-drop, get_or-map}
use lib.Seq.{take-add, get_or-set_same, get_or-set_other}
use native.Mathlib.Omega.{arith}
use native.Mathlib.Decide.{dec_lt}
use Rattle.words.specs.Lists.{filter, some, All, In, last_or}
use Rattle.words.proofs.Tests.{T_of, of_T, off_t, and_left, and_right, or_false_left, or_false_right, not_true, by_test, eq_of, ne_of, eq_yes, eq_no, either}
use Rattle.words.proofs.Listed.{all_mono, all_append, all_left, all_right, all_take, all_let, in_all, in_filter, in_append, pairs_across, pairs_append, filter_none, filter_yes, filter_no, flat_append, all_end}
use Rattle.words.proofs.Says.{and_says, eq_says, true_so, so_true}
use Rattle.regions.specs.declared.Kind.{Kind}
use Rattle.regions.specs.declared.Mark.{Mark}
use Rattle.regions.specs.declared.Mark.TheVariants.{Fresh, Last}
use Rattle.regions.specs.declared.Open.{Open}
use Rattle.regions.specs.declared.Seat.{Seat}
use Rattle.regions.specs.Sets.{Set, only, saved, deleted}
use Rattle.regions.specs.Calls.{save_no, delete_no, point_no, bounds_no, join_no, ancestors, parent, descendants, children, Pair, joined, pair_words}
use Rattle.regions.specs.Desk.{is_past, past, mark_behind, closed, open_at, opened, limit_asked, state_open, is_open, seat_at, open_seat_no, close_seat_no, state_handed, handed, state_turned, turned, round_no}
use Rattle.regions.specs.Sound.{Then, Ascending}
use Rattle.regions.proofs.Done.{save_done, delete_done, open_seat_done}
use Rattle.regions.proofs.Local.{joined_local, saved_other, deleted_other}
use Rattle.regions.proofs.Joined.{Lex, later_says, later_trans, then_apart, then_not, joined_ascends, ascending_past, ascending_take, past_fresh, mark_twice, past_next}
use Rattle.plainruns.specs.Calls.{Which, State, set_of, with_set, with_desk, Look, Call, Shown, Answer, says, refuses, lists, pages, finds, joins, looked, answer, behind_open, next, Step, Done, Run, calls_of, Opened, left, moved}
use Rattle.plainruns.specs.Calls.Which.{outer, inner}
use Rattle.plainruns.specs.Calls.Look.{ancestor_search, parent_search, descendant_search, child_search, join, no_item}
use Rattle.plainruns.specs.Calls.Call.{save, delete, look, round, open_seat, close_seat, ask_part, ask_part_no, no_batch}
use Rattle.plainruns.specs.Calls.Run.{none, then}
use Rattle.plainruns.specs.Held.{is_which, is_round}
use Rattle.plainruns.specs.Long.{is_pair, reaches, keeps_open, Kept, is_over, Over, handed_by, handed_in, told_to, rounds_in, touches, Quiet}
use Rattle.plainruns.proofs.Good.{Good, good_set, good_next, good_reached, round_answer, round_leaves}
use Rattle.plainruns.proofs.Demand.{after, run_after, take_min, words_at}
use Rattle.plainruns.proofs.Held.{is_which_lem}

-- THE SEAT behind a call that leaves it open: its mark is moved behind what it was handed
moved_none : (o : Open) → open_at o ≡ open_at (moved o [])
unfolding mark_behind
moved_none o = refl

moved_twice : (o : Open) (ps qs : List Pair) → moved (moved o ps) qs ≡ moved o (ps ++ qs)
moved_twice o ps qs = ap (λ m. record { account = o.account; kind = o.kind; limit = o.limit; mark = m }) (mark_twice o.mark ps qs)

desk_with : (w : Which) (S : Set) (s : State) → (with_set w S s).desk ≡ s.desk
desk_with outer S s = refl
desk_with inner S s = refl

module _ (so si : List ℕ) (i : ℕ) where
  seat_after : (o : Open) (c : Call) (s : State) → Good so si s → seat_at s.desk i ≡ open_at o → keeps_open i c ≡ true
      → seat_at (next c s).desk i ≡ open_at (moved o (handed_by i c s))
  unfolding next state_turned state_open
  seat_after o (save w b r) s g e h =
      either (λ (t : State). seat_at t.desk i ≡ open_at o) (eqb (save_no (set_of w s) b r) 0) (with_set w (saved r (set_of w s)) s) s (λ q. ap (λ ds. seat_at ds i) (desk_with w _ s) ∙ e) (λ q. e) ∙ moved_none o
  seat_after o (delete w b p) s g e h =
      either (λ (t : State). seat_at t.desk i ≡ open_at o) (eqb (delete_no (set_of w s) b p) 0) (with_set w (deleted p (set_of w s)) s) s (λ q. ap (λ ds. seat_at ds i) (desk_with w _ s) ∙ e) (λ q. e) ∙ moved_none o
  seat_after o (look b z) s g e h = e ∙ moved_none o
  seat_after o (round u v) s g e h =
      ap (λ (t : State). seat_at t.desk i) (round_leaves so si s u v g) ∙ get_or-map (turned (set_of u s) (set_of v s)) s.desk i closed ∙ ap (turned (set_of u s) (set_of v s)) e
      ∙ ap (λ z. open_at (moved o (handed (set_of u s) (set_of v s) z))) (sym e)
  seat_after o (open_seat j b n q) s g e h =
      either (λ (t : State). seat_at t.desk i ≡ open_at o) (eqb (open_seat_no s.desk j b q) 0) _ s
      (λ z. get_or-set_other s.desk j i _ closed (λ w. true≢false (sym (ap is_open e) ∙ ap (λ v. is_open (seat_at s.desk v)) w ∙ (open_seat_done s.desk j b q (eq_of _ _ z)).shut)) ∙ e) (λ z. e)
      ∙ moved_none o
  seat_after o (close_seat j) s g e h =
      either (λ (t : State). seat_at t.desk i ≡ open_at o) (eqb (close_seat_no s.desk j) 0) _ s (λ z. get_or-set_other s.desk j i closed closed (λ w. ne_of j i (not_true _ h) (sym w)) ∙ e) (λ z. e)
      ∙ moved_none o
  seat_after o (ask_part j n) s g e h = e ∙ moved_none o
  seat_after o (ask_part_no j n) s g e h = e ∙ moved_none o
  seat_after o (no_batch v ws places) s g e h = e ∙ moved_none o

  seat_by : (o : Open) (cs : List Call) (s : State) → Good so si s → seat_at s.desk i ≡ open_at o → Kept i cs
      → seat_at (after cs s).desk i ≡ open_at (moved o (handed_in i cs s))
  seat_by o [] s g e h = e ∙ moved_none o
  seat_by o (c ∷ cs) s g e h =
      seat_by (moved o (handed_by i c s)) cs (next c s) (good_next so si c s g) (seat_after o c s g e h.0) h.1
      ∙ ap open_at (moved_twice o (handed_by i c s) (handed_in i cs (next c s)))

  -- RISING. What one call hands ascends, past the mark
  handed_ascends : (o : Open) (c : Call) (s : State) → Good so si s → seat_at s.desk i ≡ open_at o
      → Ascending (handed_by i c s) × All (λ q. is_past o.mark q ≡ true) (handed_by i c s)
  unfolding state_handed
  handed_ascends o (save w b r) s g e = (tt, tt)
  handed_ascends o (delete w b p) s g e = (tt, tt)
  handed_ascends o (look b z) s g e = (tt, tt)
  handed_ascends o (round u v) s g e =
      let L = joined (set_of u s) (set_of v s) o.account o.kind in
      rw e (
        ascending_take o.limit (past o.mark L)
            (ascending_past o.mark L (joined_ascends (set_of u s) (set_of v s) o.account o.kind (good_set so si u s g).sound.rising (good_set so si v s g).sound.rising)),
        all_take (λ q. is_past o.mark q ≡ true) o.limit (past o.mark L) (all_let (is_past o.mark) L),
      )
  handed_ascends o (open_seat j b n q) s g e = (tt, tt)
  handed_ascends o (close_seat j) s g e = (tt, tt)
  handed_ascends o (ask_part j n) s g e = (tt, tt)
  handed_ascends o (ask_part_no j n) s g e = (tt, tt)
  handed_ascends o (no_batch v ws places) s g e = (tt, tt)

past_trans : (m : Mark) (p r : Pair) → is_past m p ≡ true → Then p r → is_past m r ≡ true
unfolding is_past
past_trans Fresh p r h k = refl
past_trans (Last a d) p r h k = later_trans a d p r h k

-- later than the last is later than all
before_last : (p : Pair) (ps rs : List Pair) → Ascending (p ∷ ps) → All (Then (last_or p ps)) rs → All (λ z. All (Then z) rs) (p ∷ ps)
unfolding last_or
before_last p [] rs h k = (k, tt)
before_last p (q ∷ qs) rs h k =
    (all_mono {Q = Then p} (λ r t. later_trans p.a.start p.d.start (last_or q qs) r (all_end (Then p) q qs h.0) t) rs k, before_last q qs rs h.1 k)

-- one call's pairs, and then the rest's
join_rise : (m : Mark) (ps rs : List Pair) → Ascending ps → All (λ q. is_past m q ≡ true) ps → Ascending rs → All (λ q. is_past (mark_behind m ps) q ≡ true) rs
    → Ascending (ps ++ rs) × All (λ q. is_past m q ≡ true) (ps ++ rs)
unfolding mark_behind is_past
join_rise m [] rs h p k q = (k, q)
join_rise m (z ∷ zs) rs h p k q = (
  pairs_append Then (z ∷ zs) rs h k (before_last z zs rs h q),
  all_append (λ r. is_past m r ≡ true) (z ∷ zs) rs p (all_mono {Q = λ r. is_past m r ≡ true} (λ r t. past_trans m (last_or z zs) r (all_end (λ r. is_past m r ≡ true) z zs p) t) rs q),
)

pub rise : (so si : List ℕ) (i : ℕ) (o : Open) (cs : List Call) (s : State) → Good so si s → seat_at s.desk i ≡ open_at o → Kept i cs
    → Ascending (handed_in i cs s) × All (λ q. is_past o.mark q ≡ true) (handed_in i cs s)
rise so si i o [] s g e h = (tt, tt)
rise so si i o (c ∷ cs) s g e h =
    let d = handed_ascends so si i o c s g e in
    let r = rise so si i (moved o (handed_by i c s)) cs (next c s) (good_next so si c s g) (seat_after so si i o c s g e h.0) h.1 in
    join_rise o.mark (handed_by i c s) (handed_in i cs (next c s)) d.0 d.1 r.0 r.1

-- EXACTLY ONCE
same_key : (p q : Pair) → is_pair q p ≡ true → (q.a.start ≡ p.a.start) × (q.d.start ≡ p.d.start)
unfolding is_pair
same_key p q e = true_so (and_says (eq_says q.a.start p.a.start) (eq_says q.d.start p.d.start)) e

key_same : (p q : Pair) → q.a.start ≡ p.a.start → q.d.start ≡ p.d.start → is_pair q p ≡ true
unfolding is_pair
key_same p q u v = so_true (and_says (eq_says q.a.start p.a.start) (eq_says q.d.start p.d.start)) (u, v)

not_pair : (p q : Pair) → Then q p → is_pair q p ≡ false
not_pair p q h = off_t (is_pair q p) (λ t. then_apart q p h (same_key p q (of_T (is_pair q p) t)))

-- what comes before q does not reach it, and what does not reach q comes before it
then_short : (p q : Pair) → Then p q → reaches q p ≡ false
unfolding reaches
then_short p q h = rw (off_t (is_pair q p) (λ t. let u = same_key p q (of_T (is_pair q p) t) in then_apart p q h (sym u.0, sym u.1))) (then_not p q h)

lex_total : (a d b e : ℕ) → (a ≡ b → d ≡ e → ⊥) → (Lex b e a d → ⊥) → Lex a d b e
lex_total a d b e n m =
    elim (dec_lt d e) [
      | yes u ↦ inl u
      | no u ↦ elim (dec_lt e d) [
        | yes v ↦ absurd (m (inl v))
        | no v ↦ elim (dec_lt a b) [
          | yes w ↦ inr (omega arith)
          | no w ↦ elim (dec_lt b a) [ yes z ↦ absurd (m (inr (omega arith))) | no z ↦ absurd (n (omega arith) (omega arith)) ]
        ]
      ]
    ]

short_then : (p q : Pair) → reaches q p ≡ false → Then p q
unfolding reaches
short_then p q h =
    so_true (later_says p.a.start p.d.start q)
    (lex_total p.a.start p.d.start q.a.start q.d.start
    (λ u v. true≢false (sym (key_same p q (sym u) (sym v)) ∙ or_false_left (is_pair q p) _ h))
    (λ z. true≢false (sym (so_true (later_says q.a.start q.d.start p) z) ∙ or_false_right (is_pair q p) _ h)))

-- of an ascending list q stands in the beginning that reaches it
in_take : (n : ℕ) (q : Pair) (ps : List Pair) → Ascending ps → In q ps → some (filter (reaches q) (take n ps)) ≡ true → In q (take n ps)
unfolding some
in_take n q ps h k e =
    ⊎_elim (λ u. u)
    (λ u.
    absurd (false≢true (sym (ap some (filter_none (reaches q) (take n ps)
    (all_mono {Q = λ p. reaches q p ≡ false} (λ p t. then_short p q (in_all (Then p) q (drop n ps) u t)) (take n ps) (pairs_across Then (take n ps) (drop n ps) (rw (take-append-drop n ps) h))))) ∙ e)))
    (in_append q (take n ps) (drop n ps) (rw (take-append-drop n ps) k))

mark_short : (q : Pair) (ps : List Pair) → All (λ p. reaches q p ≡ false) ps → is_past (mark_behind Fresh ps) q ≡ true
unfolding mark_behind is_past
mark_short q [] h = refl
mark_short q (p ∷ ps) h = short_then (last_or p ps) q (all_end (λ p. reaches q p ≡ false) p ps h)

good_after : (so si : List ℕ) (cs : List Call) (s : State) → Good so si s → Good so si (after cs s)
good_after so si [] s g = g
good_after so si (c ∷ cs) s g = good_after so si cs (next c s) (good_next so si c s g)

pub once : (so si : List ℕ) (i : ℕ) (x y : Which) (o : Open) (pre post : List Call) (s : State) → Good so si s → o.mark ≡ Fresh → seat_at s.desk i ≡ open_at o
    → Kept i (pre ++ round x y ∷ post) → (q : Pair) → let t = after pre s in
    All (λ p. reaches q p ≡ false) (handed_in i pre s) → some (filter (reaches q) (handed_by i (round x y) t)) ≡ true → In q (joined (set_of x t) (set_of y t) o.account o.kind)
    → In q (handed_by i (round x y) t) × All (λ p. is_pair q p ≡ false) (handed_in i pre s) × All (λ p. is_pair q p ≡ false) (handed_in i post (next (round x y) t))
unfolding state_handed reaches
once so si i x y o pre post s g f e h q first here held =
    let t = after pre s in
    let mine = handed_by i (round x y) t in
    let others = handed_in i post (next (round x y) t) in
    let n = moved o (handed_in i pre s) in
    let gt : Good so si t = good_after so si pre s g in
    let seat : seat_at t.desk i ≡ open_at n = seat_by so si i o pre s g e (all_left (λ c. keeps_open i c ≡ true) pre (round x y ∷ post) h) in
    let L = joined (set_of x t) (set_of y t) o.account o.kind in
    let up = ascending_past n.mark L (joined_ascends (set_of x t) (set_of y t) o.account o.kind (good_set so si x t gt).sound.rising (good_set so si y t gt).sound.rising) in
    let fresh : is_past n.mark q ≡ true = ap (λ m. is_past (mark_behind m (handed_in i pre s)) q) f ∙ mark_short q (handed_in i pre s) first in
    let deal : mine ≡ take o.limit (past n.mark L) = ap (handed (set_of x t) (set_of y t)) seat in
    let in_d : In q mine = rw deal (in_take o.limit q (past n.mark L) up (in_filter (is_past n.mark) q L held fresh) (sym (ap (λ l. some (filter (reaches q) l)) deal) ∙ here)) in
    let rises = (rise so si i n (round x y ∷ post) t gt seat (all_right (λ c. keeps_open i c ≡ true) pre (round x y ∷ post) h)).0 in
    let later_ones = in_all (λ p. All (Then p) others) q mine in_d (pairs_across Then mine others rises) in
    (in_d, all_mono {Q = λ p. is_pair q p ≡ false} (λ p z. or_false_left (is_pair q p) _ z) (handed_in i pre s) first, all_mono {Q = λ p. is_pair q p ≡ false} (λ p z. not_pair p q z) others later_ones)

-- NOBODY TOUCHES THE ACCOUNT
refused_stays : (c : Call) (s : State) (a : ℕ) → touches a c ≡ true → ((answer c s).number ≡ 0 → ⊥) → next c s ≡ s
unfolding next answer
refused_stays (save w b r) s a h n = rw (eq_no (save_no (set_of w s) b r) 0 n)
refused_stays (delete w b p) s a h n = rw (eq_no (delete_no (set_of w s) b p) 0 n)
refused_stays (look b o) s a h n = refl
refused_stays (round u v) s a h n = absurd (false≢true h)
refused_stays (open_seat j b k l) s a h n = absurd (false≢true h)
refused_stays (close_seat j) s a h n = absurd (false≢true h)
refused_stays (ask_part j l) s a h n = refl
refused_stays (ask_part_no j l) s a h n = refl
refused_stays (no_batch v ws places) s a h n = refl

only_with : (a : ℕ) (w v : Which) (S : Set) (s : State) → only a S ≡ only a (set_of w s) → only a (set_of v (with_set w S s)) ≡ only a (set_of v s)
only_with a outer outer S s e = e
only_with a outer inner S s e = refl
only_with a inner outer S s e = refl
only_with a inner inner S s e = e

only_desk : (a : ℕ) (v : Which) (ds : List Seat) (b : List ℕ) (w : List Bool) (s : State) → only a (set_of v (with_desk ds b w s)) ≡ only a (set_of v s)
only_desk a outer ds b w s = refl
only_desk a inner ds b w s = refl

-- a call of another account leaves the account's regions
other_stays : (c : Call) (s : State) (a : ℕ) (v : Which) → touches a c ≡ false → only a (set_of v (next c s)) ≡ only a (set_of v s)
unfolding next
other_stays (save w b r) s a v h =
    either (λ t. only a (set_of v t) ≡ only a (set_of v s)) (eqb (save_no (set_of w s) b r) 0) (with_set w (saved r (set_of w s)) s) s
    (λ e. only_with a w v _ s (saved_other (set_of w s) a r (λ q. ne_of b a h (sym (q ∙ (save_done (set_of w s) b r (eq_of _ _ e)).own.same))))) (λ e. refl)
other_stays (delete w b p) s a v h =
    either (λ t. only a (set_of v t) ≡ only a (set_of v s)) (eqb (delete_no (set_of w s) b p) 0) (with_set w (deleted p (set_of w s)) s) s
    (λ e. only_with a w v _ s (deleted_other (set_of w s) a p (λ q. ne_of b a h (sym (q ∙ (delete_done (set_of w s) b p (eq_of _ _ e)).own.same))))) (λ e. refl)
other_stays (look b o) s a v h = refl
other_stays (round x y) s a v h = either (λ t. only a (set_of v t) ≡ only a (set_of v s)) (eqb (round_no s.desk s.buffer) 0) _ s (λ e. only_desk a v _ _ _ s) (λ e. refl)
other_stays (open_seat j b k l) s a v h = either (λ t. only a (set_of v t) ≡ only a (set_of v s)) (eqb (open_seat_no s.desk j b l) 0) _ s (λ e. only_desk a v _ _ _ s) (λ e. refl)
other_stays (close_seat j) s a v h = either (λ t. only a (set_of v t) ≡ only a (set_of v s)) (eqb (close_seat_no s.desk j) 0) _ s (λ e. only_desk a v _ _ _ s) (λ e. refl)
other_stays (ask_part j n) s a v h = refl
other_stays (ask_part_no j n) s a v h = refl
other_stays (no_batch w ws places) s a v h = refl

quiet_stays : (c : Call) (s : State) (a : ℕ) (v : Which) → (touches a c ≡ true → (answer c s).number ≡ 0 → ⊥) → only a (set_of v (next c s)) ≡ only a (set_of v s)
quiet_stays c s a v h = by_test (touches a c) (λ e. ap (λ t. only a (set_of v t)) (refused_stays c s a e (h e))) (λ e. other_stays c s a v e)

quiet_joined : (c : Call) (s : State) (a : ℕ) (k : Kind) (x y : Which) → (touches a c ≡ true → (answer c s).number ≡ 0 → ⊥)
    → joined (set_of x (next c s)) (set_of y (next c s)) a k ≡ joined (set_of x s) (set_of y s) a k
quiet_joined c s a k x y h =
    joined_local (set_of x (next c s)) (set_of y (next c s)) a k ∙ ap₂ (λ (P Q : Set). joined P Q a k) (quiet_stays c s a x h) (quiet_stays c s a y h) ∙ sym (joined_local (set_of x s) (set_of y s) a k)

-- a call that is no round hands nothing; a round in the opening hands the next pairs
no_round : (i : ℕ) (c : Call) (s : State) → is_round c ≡ false → handed_by i c s ≡ []
no_round i (save w b r) s h = refl
no_round i (delete w b p) s h = refl
no_round i (look b o) s h = refl
no_round i (round u v) s h = absurd (true≢false h)
no_round i (open_seat j b k l) s h = refl
no_round i (close_seat j) s h = refl
no_round i (ask_part j n) s h = refl
no_round i (ask_part_no j n) s h = refl
no_round i (no_batch v ws places) s h = refl

round_hands : (i : ℕ) (x y : Which) (o : Open) (c : Call) (s : State) → is_round c ≡ true → is_over x y c ≡ true → seat_at s.desk i ≡ open_at o
    → handed_by i c s ≡ take o.limit (left (set_of x s) (set_of y s) o)
unfolding state_handed
round_hands i x y o (save w b r) s z h e = absurd (false≢true z)
round_hands i x y o (delete w b p) s z h e = absurd (false≢true z)
round_hands i x y o (look b q) s z h e = absurd (false≢true z)
round_hands i x y o (round u v) s z h e =
    let t = T_of h in
    rw (is_which_lem u x (of_T _ (and_left (is_which u x) _ t)), is_which_lem v y (of_T _ (and_right (is_which u x) _ t)), e)
round_hands i x y o (open_seat j b q l) s z h e = absurd (false≢true z)
round_hands i x y o (close_seat j) s z h e = absurd (false≢true z)
round_hands i x y o (ask_part j q) s z h e = absurd (false≢true z)
round_hands i x y o (ask_part_no j q) s z h e = absurd (false≢true z)
round_hands i x y o (no_batch v ws places) s z h e = absurd (false≢true z)

stays_put : (m : Mark) (n : ℕ) (L : List Pair) → take n (past (mark_behind m []) L) ≡ take n (past m L)
unfolding mark_behind
stays_put m n L = refl

pub counted : (so si : List ℕ) (i : ℕ) (x y : Which) (o : Open) (cs : List Call) (s : State) (L : List Pair) → Good so si s → joined (set_of x s) (set_of y s) o.account o.kind ≡ L
    → seat_at s.desk i ≡ open_at o → Kept i cs → Over x y cs → Quiet o.account cs s → handed_in i cs s ≡ take (rounds_in cs * o.limit) (past o.mark L)
unfolding filter
counted so si i x y o [] s L g j e h v q = let z : 0 * o.limit ≡ 0 = omega arith in rw z
counted so si i x y o (c ∷ cs) s L g j e h v q =
    let a = o.account in
    let k = o.kind in
    let l = o.limit in
    let R = past o.mark L in
    let j' : joined (set_of x (next c s)) (set_of y (next c s)) a k ≡ L = quiet_joined c s a k x y q.0 ∙ j in
    let up : Ascending L = rw j at (joined_ascends (set_of x s) (set_of y s) a k (good_set so si x s g).sound.rising (good_set so si y s g).sound.rising) in
    let ih = counted so si i x y (moved o (handed_by i c s)) cs (next c s) L (good_next so si c s g) j' (seat_after so si i o c s g e h.0) h.1 v.1 q.1 in
    by_test (is_round c)
    (λ r.
    let d : handed_by i c s ≡ take l R = round_hands i x y o c s r v.0 e ∙ ap (λ z. take l (past o.mark z)) j in
    let w : rounds_in (c ∷ cs) * l ≡ l + rounds_in cs * l = ap (λ z. length z * l) (filter_yes is_round c cs r) ∙ omega arith in
    ap₂ ◌++◌ d (ih ∙ ap (take (rounds_in cs * l)) (ap (λ z. past (mark_behind o.mark z) L) d ∙ past_next o.mark l L up))
    ∙ sym (take-add l (rounds_in cs * l) R) ∙ ap (λ z. take z R) (sym w))
    (λ r.
    let d = no_round i c s r in
    let w : rounds_in (c ∷ cs) ≡ rounds_in cs = ap length (filter_no is_round c cs r) in
    ap (λ z. z ++ handed_in i cs (next c s)) d ∙ ih ∙ ap (λ z. take (rounds_in cs * l) (past (mark_behind o.mark z) L)) d ∙ stays_put o.mark (rounds_in cs * l) L
    ∙ ap (λ z. take (z * l) R) (sym w))

-- WHAT THE ANSWERS HAND the seat: the words of these pairs
no_hands : (i n : ℕ) (x y : Shown) → get_or x.hands i [] ≡ [] → get_or y.hands i [] ≡ [] → get_or (cond (eqb n 0) x y).hands i [] ≡ []
no_hands i n x y h k = either (λ (z : Shown). get_or z.hands i [] ≡ []) (eqb n 0) x y (λ e. h) (λ e. k)

looks : (i b : ℕ) (o : Look) (s : State) → get_or (looked b o s).hands i [] ≡ []
unfolding looked
looks i b (ancestor_search w p ch out) s = no_hands i (point_no b p) (lists out (ancestors ch p (set_of w s))) (refuses (point_no b p) out) refl refl
looks i b (parent_search w p l) s = no_hands i (point_no b p) (finds (parent p l (set_of w s))) (says (point_no b p)) refl refl
looks i b (descendant_search w c d f out) s = no_hands i (bounds_no b c d) (pages out (descendants c d f (set_of w s))) (refuses (bounds_no b c d) out) refl refl
looks i b (child_search w c d l f out) s = no_hands i (bounds_no b c d) (pages out (children c d l f (set_of w s))) (refuses (bounds_no b c d) out) refl refl
looks i b (join u v j out) s = no_hands i (join_no b) (joins out (joined (set_of u s) (set_of v s) b j)) (refuses (join_no b) out) refl refl
looks i b (no_item w k) s = refl

tells : (so si : List ℕ) (i : ℕ) (c : Call) (s : State) → Good so si s → get_or (answer c s).hands i [] ≡ flat_map pair_words (handed_by i c s)
unfolding answer flat_map
tells so si i (save w b r) s g = refl
tells so si i (delete w b p) s g = refl
tells so si i (look b o) s g = looks i b o s
tells so si i (round u v) s g = ap (λ (z : Shown). get_or z.hands i []) (round_answer so si s u v g) ∙ words_at (set_of u s) (set_of v s) s.desk i
tells so si i (open_seat j b k l) s g = refl
tells so si i (close_seat j) s g = refl
tells so si i (ask_part j n) s g = refl
tells so si i (ask_part_no j n) s g = refl
tells so si i (no_batch v ws places) s g = refl

told_words : (so si : List ℕ) (i : ℕ) {s t : State} {ds : List Done} → Run s ds t → Good so si s → flat_map (told_to i) ds ≡ flat_map pair_words (handed_in i (calls_of ds) s)
unfolding flat_map
told_words so si i none g = refl
told_words so si i {s = s} (then {d = d} {ds = ds} st run) g =
    ap₂ ◌++◌ (ap (λ (z : Shown). get_or z.hands i []) st.answers ∙ tells so si i d.call s g)
    (told_words so si i run (rw st.leaves (good_next so si d.call s g)) ∙ ap (λ z. flat_map pair_words (handed_in i (calls_of ds) z)) st.leaves)
    ∙ sym (flat_append pair_words (handed_by i d.call s) (handed_in i (calls_of ds) (next d.call s)))

-- THE SEAT AS IT IS OPENED, and behind calls none of which closes it: account, kind and limit stay as stored then
seat_opened : (so si : List ℕ) {s t : State} {z : Answer} → Good so si s → (i a : ℕ) (k : Kind) (l : ℕ) → Step s (open_seat i a k l) z t → z.shown.number ≡ 0
    → Good so si t × (i < 8) × (seat_at t.desk i ≡ opened a k l)
unfolding answer next
seat_opened so si {s = s} g i a k l st done =
    let e : open_seat_no s.desk i a l ≡ 0 = sym (ap (λ (q : Shown). q.number) st.answers) ∙ done in
    let c = (open_seat_done s.desk i a l e).seat in
    let n = g.desk_good.eight in (
      rw st.leaves (good_next so si (open_seat i a k l) s g),
      omega arith,
      ap (λ (q : State). seat_at q.desk i) st.leaves
          ∙ ap (λ b. seat_at (cond b (behind_open i (opened a k l) s) s).desk i) (eq_yes (open_seat_no s.desk i a l) 0 e)
          ∙ get_or-set_same s.desk i (opened a k l) closed (omega arith),
    )

pub stored : (so si : List ℕ) {s t u : State} {es : List Done} {z : Answer} → Good so si s → (i a : ℕ) (k : Kind) (l : ℕ) → Step s (open_seat i a k l) z t → z.shown.number ≡ 0
    → Run t es u → Kept i (calls_of es) → (i < 8) × (m : Mark) × (seat_at u.desk i ≡ open_at (record { account = a; kind = k; limit = limit_asked l; mark = m }))
stored so si {t = t} {es = es} g i a k l st done run kept =
    let b = seat_opened so si g i a k l st done in
    let o : Open = record { account = a; kind = k; limit = limit_asked l; mark = Fresh } in (
      b.1,
      mark_behind Fresh (handed_in i (calls_of es) t),
      ap (λ (q : State). seat_at q.desk i) (run_after run) ∙ seat_by so si i o (calls_of es) t b.0 b.2 kept,
    )

-- C-23: behind any run from the opened state, seat i is opened and then come the calls of es, none of which closes it
module _ (so si : List ℕ) (s₀ s t u : State) (ds es : List Done) (z : Answer) (o : Opened so si s₀) (run : Run s₀ ds s) (i a : ℕ) (k : Kind) (l : ℕ)
    (st : Step s (open_seat i a k l) z t) (done : z.shown.number ≡ 0) (run' : Run t es u) (kept : Kept i (calls_of es)) where
  abbrev seat : Open
  seat = record { account = a; kind = k; limit = limit_asked l; mark = Fresh }

  at_opening : Good so si t × (i < 8) × (seat_at t.desk i ≡ opened a k l)
  at_opening = seat_opened so si (good_reached so si o run) i a k l st done

  -- the words that its rounds hand it are those of pairs that ascend strictly in the join's order
  pub c23_rise : (flat_map (told_to i) es ≡ flat_map pair_words (handed_in i (calls_of es) t)) × Ascending (handed_in i (calls_of es) t)
  c23_rise = (told_words so si i run' at_opening.0, (rise so si i seat (calls_of es) t at_opening.0 at_opening.2 kept).0)

  -- a round over x and y behind the calls `pre`, the first that hands q or a later pair, while q is in the list: it hands q, and no other round hands that pair
  pub c23_once : (x y : Which) (pre post : List Call) → calls_of es ≡ pre ++ round x y ∷ post → (q : Pair)
      → All (λ p. reaches q p ≡ false) (handed_in i pre t) → some (filter (reaches q) (handed_by i (round x y) (after pre t))) ≡ true
      → In q (joined (set_of x (after pre t)) (set_of y (after pre t)) a k)
      → In q (handed_by i (round x y) (after pre t)) × All (λ p. is_pair q p ≡ false) (handed_in i pre t) × All (λ p. is_pair q p ≡ false) (handed_in i post (next (round x y) (after pre t)))
  c23_once x y pre post e q first here held = once so si i x y seat pre post t at_opening.0 refl at_opening.2 (subst (Kept i) e kept) q first here held

  -- all rounds are over x and y, and no save or delete of the account is done: the first min (rounds × limit) (all) pairs of the list
  pub c23_count : (x y : Which) → Over x y (calls_of es) → Quiet a (calls_of es) t
      → let L = joined (set_of x t) (set_of y t) a k in handed_in i (calls_of es) t ≡ take (min (rounds_in (calls_of es) * limit_asked l) (length L)) L
  c23_count x y over quiet =
      let L = joined (set_of x t) (set_of y t) a k in
      counted so si i x y seat (calls_of es) t L at_opening.0 refl at_opening.2 kept over quiet ∙ ap (take (rounds_in (calls_of es) * limit_asked l)) (past_fresh L)
      ∙ sym (take_min (rounds_in (calls_of es) * limit_asked l) L)
