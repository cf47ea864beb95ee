-- Demand 2 over a history: behind every run each set holds exactly the regions whose last accepted save or delete is their save, in ascending order,
-- well formed, nested rightly, no account above its share, at most 500. And the notes beside the buffer say what the history says.
-- Assumes nothing.
use Prim.Native.Nat.{ℕ, zero, suc, ◌+◌, ◌*◌, ◌<◌, ◌≤◌}
use mathlib.Core.Path.{◌≡◌, refl, sym, ap, ap₂, ◌∙◌, subst}
use mathlib.Core.Logic.{◌⊎◌, inl, inr, ⊎_elim, ◌↔◌}
use mathlib.Core.Bool.{Bool, true, false, not, ◌&&◌, cond, false≢true}
use mathlib.Core.List.{List, [], ◌∷◌, ◌++◌, map}
use lib.Dec.{ltb, eqb}
use lib.ListN.{length, get_or, length-map, get_or-replicate}
use native.Mathlib.Omega.{arith}
use native.Mathlib.Decide.{dec_lt}
use Rattle.words.specs.Lists.{filter, some, All, In}
use Rattle.words.proofs.Tests.{T_of, of_T, and_left, and_right, and_false, by_test, not_true, eq_of, ne_of, eq_yes, lt_yes, lt_no, either}
use Rattle.words.proofs.Listed.{all_mono, all_let, in_kept, in_all, filter_append, filter_yes, filter_no, filter_none, filter_comm, filter_within, some_none}
use Rattle.regions.specs.declared.Region.{Region}
use Rattle.regions.specs.declared.Seat.{Seat}
use Rattle.regions.specs.Sets.{Set, is_at, is_not_at, held_at, starts_before, starts_behind, saved, deleted}
use Rattle.regions.specs.Calls.{save_no, delete_no}
use Rattle.regions.specs.Desk.{seat_at, open_seat_no, close_seat_no, handed_words, counts, poured, round_no}
use Rattle.words.proofs.Says.{true_so, so_true, so_false}
use Rattle.regions.proofs.Means.{at_says}
use Rattle.regions.proofs.Done.{save_done, open_seat_done}
use Rattle.regions.specs.Sound.{Rising, Sound}
use Rattle.regions.proofs.Rising.{free_sides, few}
use Rattle.regions.proofs.Seats.{handed_long, poured_in, poured_out}
use Rattle.plainruns.specs.Calls.{Which, State, set_of, with_set, with_desk, Call, Shown, answer, is_written, noted, next, Done, Run, Opened}
use Rattle.plainruns.specs.Calls.Which.{outer, inner}
use Rattle.plainruns.specs.Calls.Call.{save, delete, look, round, open_seat, close_seat, ask_part, ask_part_no, no_batch}
use Rattle.plainruns.specs.Calls.Run.{none, then}
use Rattle.plainruns.specs.Held.{is_which, is_done, is_about, decides, brought_by, held_from, Stands, opens_seat, is_round, wrote_from}
use Rattle.plainruns.proofs.Good.{Good, good_set, good_next, good_opened, good_reached, round_answer, round_leaves}
use Rattle.plainruns.proofs.Relate.{unnoted_at, unnoted_off, desk_notes}
use Rattle.plainruns.proofs.Demand.{count_at}

-- ONE START OF A SET, behind a save and a delete
saved_at : (S : Set) (r : Region) (p : ℕ) → Rising S.regions → held_at r.start S ≡ false
    → filter (is_at p) (saved r S).regions ≡ cond (eqb r.start p) (r ∷ []) (filter (is_at p) S.regions)
unfolding saved
saved_at S r p h f =
    let us = filter (starts_before r.start) S.regions in
    let vs = filter (starts_behind r.start) S.regions in
    filter_append (is_at p) us (r ∷ vs)
    ∙ by_test (eqb r.start p)
    (λ e.
    let q = eq_of r.start p e in
    let z : filter (is_at p) S.regions ≡ [] = subst (λ n. filter (is_at n) S.regions ≡ []) q (some_none _ f) in
    ap₂ ◌++◌ (none_in (starts_before r.start) z) (filter_yes (is_at p) r vs (so_true (at_says p r) q) ∙ ap (r ∷◌) (none_in (starts_behind r.start) z))
    ∙ ap (λ b. cond b (r ∷ []) (filter (is_at p) S.regions)) (sym e))
    (λ e.
    ap (λ l. filter (is_at p) us ++ l) (filter_no (is_at p) r vs (so_false (at_says p r) (ne_of r.start p e)))
    ∙ sym (filter_append (is_at p) us vs) ∙ ap (filter (is_at p)) (free_sides r.start S h f)
    ∙ ap (λ b. cond b (r ∷ []) (filter (is_at p) S.regions)) (sym e))
  where
    empty : (q : Region → Bool) → filter q [] ≡ []
    empty q = filter_none q [] tt

    none_in : (q : Region → Bool) → filter (is_at p) S.regions ≡ [] → filter (is_at p) (filter q S.regions) ≡ []
    none_in q z = filter_comm (is_at p) q S.regions ∙ ap (filter q) z ∙ empty q

deleted_at : (S : Set) (q p : ℕ) → filter (is_at p) (deleted q S).regions ≡ cond (eqb q p) [] (filter (is_at p) S.regions)
unfolding deleted
deleted_at S q p =
    by_test (eqb q p)
    (λ e.
    filter_none (is_at p) (filter (is_not_at q) S.regions)
    (all_mono {Q = λ x. is_at p x ≡ false} (λ x h. subst (λ n. is_at n x ≡ false) (eq_of q p e) (not_true _ h)) (filter (is_not_at q) S.regions) (all_let (is_not_at q) S.regions))
    ∙ ap (λ b. cond b [] (filter (is_at p) S.regions)) (sym e))
    (λ e.
    sym (filter_within (is_at p) (is_not_at q) S.regions (every x_off S.regions (ne_of q p e)))
    ∙ ap (λ b. cond b [] (filter (is_at p) S.regions)) (sym e))
  where
    x_off : (x : Region) → (q ≡ p → ⊥) → is_at p x ≡ true → is_not_at q x ≡ true
    x_off x n h = ap not (so_false (at_says q x) (λ e. n (sym e ∙ true_so (at_says p x) h)))

    every : ((x : Region) → (q ≡ p → ⊥) → is_at p x ≡ true → is_not_at q x ≡ true) → (xs : List Region) → (q ≡ p → ⊥) → All (λ x. is_at p x ≡ true → is_not_at q x ≡ true) xs
    every f [] n = tt
    every f (x ∷ xs) n = (f x n, every f xs n)

-- in the set named, and in the other
at_with : (v w : Which) (S : Set) (s : State) (b : Bool) (p : ℕ) (l : List Region) → filter (is_at p) S.regions ≡ cond b l (filter (is_at p) (set_of v s).regions)
    → filter (is_at p) (set_of w (with_set v S s)).regions ≡ cond (is_which v w && b) l (filter (is_at p) (set_of w s).regions)
at_with outer outer S s b p l e = e
at_with outer inner S s b p l e = refl
at_with inner outer S s b p l e = refl
at_with inner inner S s b p l e = e

set_desk : (w : Which) (ds : List Seat) (b : List ℕ) (n : List Bool) (s : State) → set_of w (with_desk ds b n s) ≡ set_of w s
set_desk outer ds b n s = refl
set_desk inner ds b n s = refl

-- what is held at a start behind one call, by its answer
abbrev held_then : Which → ℕ → Call → Shown → List Region → List Region
held_then w p c x before = cond (is_done x && is_about w p c) (brought_by c) before

same_then : (w : Which) (p : ℕ) (c : Call) (s : State) (l : List Region) → is_about w p c ≡ false → l ≡ held_then w p c (answer c s) l
same_then w p c s l e = ap (λ b. cond b (brought_by c) l) (sym (ap (λ b. is_done (answer c s) && b) e ∙ and_false (is_done (answer c s))))

held_next : (so si : List ℕ) (w : Which) (p : ℕ) (c : Call) (s : State) → Good so si s
    → filter (is_at p) (set_of w (next c s)).regions ≡ held_then w p c (answer c s) (filter (is_at p) (set_of w s).regions)
unfolding next answer
held_next so si w p (save v a r) s g =
    by_test (eqb (save_no (set_of v s) a r) 0)
    (λ e.
    let m = save_done (set_of v s) a r (eq_of _ _ e) in
    rw e (at_with v w (saved r (set_of v s)) s (eqb r.start p) p (r ∷ []) (saved_at (set_of v s) r p (good_set so si v s g).sound.rising m.free)))
    (λ e. rw e)
held_next so si w p (delete v a q) s g =
    by_test (eqb (delete_no (set_of v s) a q) 0)
    (λ e. rw e (at_with v w (deleted q (set_of v s)) s (eqb q p) p [] (deleted_at (set_of v s) q p)))
    (λ e. rw e)
held_next so si w p (look a o) s g = same_then w p (look a o) s _ refl
held_next so si w p (round x y) s g =
    either (λ t. filter (is_at p) (set_of w t).regions ≡ filter (is_at p) (set_of w s).regions) (eqb (round_no s.desk s.buffer) 0) _ s (λ e. ap (λ (S : Set). filter (is_at p) S.regions) (set_desk w _ _ _ s)) (λ e. refl)
    ∙ same_then w p (round x y) s _ refl
held_next so si w p (open_seat i a k l) s g =
    either (λ t. filter (is_at p) (set_of w t).regions ≡ filter (is_at p) (set_of w s).regions) (eqb (open_seat_no s.desk i a l) 0) _ s (λ e. ap (λ (S : Set). filter (is_at p) S.regions) (set_desk w _ _ _ s)) (λ e. refl)
    ∙ same_then w p (open_seat i a k l) s _ refl
held_next so si w p (close_seat i) s g =
    either (λ t. filter (is_at p) (set_of w t).regions ≡ filter (is_at p) (set_of w s).regions) (eqb (close_seat_no s.desk i) 0) _ s (λ e. ap (λ (S : Set). filter (is_at p) S.regions) (set_desk w _ _ _ s)) (λ e. refl)
    ∙ same_then w p (close_seat i) s _ refl
held_next so si w p (ask_part i n) s g = same_then w p (ask_part i n) s _ refl
held_next so si w p (ask_part_no i n) s g = same_then w p (ask_part_no i n) s _ refl
held_next so si w p (no_batch v ws places) s g = same_then w p (no_batch v ws places) s _ refl

-- BEHIND A RUN
held_run : (so si : List ℕ) (w : Which) (p : ℕ) {s t : State} {ds : List Done} → Run s ds t → Good so si s
    → filter (is_at p) (set_of w t).regions ≡ held_from w p (filter (is_at p) (set_of w s).regions) ds
unfolding held_from
held_run so si w p none g = refl
held_run so si w p {s = s} (then {d = d} {ds = ds} st r) g =
    held_run so si w p r (rw st.leaves (good_next so si d.call s g))
    ∙ ap (λ l. held_from w p l ds)
    (ap (λ (t : State). filter (is_at p) (set_of w t).regions) st.leaves ∙ held_next so si w p d.call s g
    ∙ ap (λ x. held_then w p d.call x (filter (is_at p) (set_of w s).regions)) (sym st.answers))

none_opened : (so si : List ℕ) (w : Which) (p : ℕ) (s : State) → Opened so si s → filter (is_at p) (set_of w s).regions ≡ []
unfolding filter
none_opened so si outer p s o = rw o.outer_is
none_opened so si inner p s o = rw o.inner_is

-- each set holds at each start what the history says
pub held_at_lem : (so si : List ℕ) {s t : State} {ds : List Done} → Opened so si s → Run s ds t → (w : Which) (p : ℕ) → filter (is_at p) (set_of w t).regions ≡ held_from w p [] ds
held_at_lem so si {s = s} {ds = ds} o r w p = held_run so si w p r (good_opened so si s o) ∙ ap (λ l. held_from w p l ds) (none_opened so si w p s o)

-- A REGION in a list that ascends, by what stands at its start
in_at : (r : Region) (rs : List Region) → Rising rs → In r rs → filter (is_at r.start) rs ≡ r ∷ []
in_at r [] h k = absurd k
in_at r (x ∷ xs) h (inl e) =
    filter_yes (is_at r.start) x xs (so_true (at_says r.start x) (ap (λ (y : Region). y.start) (sym e)))
    ∙ ap₂ ◌∷◌ (sym e)
    (filter_none (is_at r.start) xs
    (all_mono {Q = λ y. is_at r.start y ≡ false} (λ y l. so_false (at_says r.start y) (λ q. let z = ap (λ (u : Region). u.start) e in omega arith)) xs h.0))
in_at r (x ∷ xs) h (inr k) =
    let l = in_all (λ y. x.start < y.start) r xs k h.0 in
    filter_no (is_at r.start) x xs (so_false (at_says r.start x) (λ q. omega arith)) ∙ in_at r xs h.1 k

at_in : (r : Region) (rs : List Region) → filter (is_at r.start) rs ≡ r ∷ [] → In r rs
at_in r rs e = in_kept (is_at r.start) r rs (rw e (inl refl))

-- THE LAST WORD
pub is_which_lem : (v w : Which) → is_which v w ≡ true → v ≡ w
is_which_lem outer outer h = refl
is_which_lem outer inner h = absurd (false≢true h)
is_which_lem inner outer h = absurd (false≢true h)
is_which_lem inner inner h = refl

which_is : (w : Which) → is_which w w ≡ true
which_is outer = refl
which_is inner = refl

cons_not : {X : Type 0} (x : X) (xs : List X) → [] ≡ x ∷ xs → ⊥
unfolding some
cons_not x xs e = false≢true (ap some e)

head_is : {X : Type 0} (x y : X) → x ∷ [] ≡ y ∷ [] → x ≡ y
head_is x y e = cc

-- a call about a start that brought a region there is a save of it
brought_save : (w : Which) (r : Region) (c : Call) → is_about w r.start c ≡ true → brought_by c ≡ r ∷ [] → (a : ℕ) × (c ≡ save w a r)
brought_save w r (save v a q) h e = (a, ap₂ (λ u z. save u a z) (is_which_lem v w (of_T _ (and_left (is_which v w) _ (T_of h)))) (head_is q r e))
brought_save w r (delete v a q) h e = absurd (cons_not r [] e)
brought_save w r (look a o) h e = absurd (cons_not r [] e)
brought_save w r (round x y) h e = absurd (cons_not r [] e)
brought_save w r (open_seat i a k l) h e = absurd (cons_not r [] e)
brought_save w r (close_seat i) h e = absurd (cons_not r [] e)
brought_save w r (ask_part i n) h e = absurd (cons_not r [] e)
brought_save w r (ask_part_no i n) h e = absurd (cons_not r [] e)
brought_save w r (no_batch v ws places) h e = absurd (cons_not r [] e)

stands_later : (w : Which) (r : Region) (d : Done) (ds : List Done) → Stands w r ds → Stands w r (d ∷ ds)
stands_later w r d ds h =
    record {
      earlier = d ∷ h.earlier;
      it = h.it;
      since = h.since;
      by = h.by;
      whole = ap (d ∷◌) h.whole;
      saves = h.saves;
      accepted = h.accepted;
      untouched = h.untouched;
    }

-- behind a history r stands at its start: it stood there and nothing came, or its save is the last word
last_word : (w : Which) (r : Region) (before : List Region) (ds : List Done) → held_from w r.start before ds ≡ r ∷ []
    → ((before ≡ r ∷ []) × All (λ d. decides w r.start d ≡ false) ds) ⊎ Stands w r ds
unfolding held_from
last_word w r before [] e = inl (e, tt)
last_word w r before (d ∷ ds) e =
    ⊎_elim (λ m. by_test (decides w r.start d) (λ h. inr (mine h m.1 (sym (ap (λ b. cond b (brought_by d.call) before) h) ∙ m.0))) (λ h. inl (sym (ap (λ b. cond b (brought_by d.call) before) h) ∙ m.0, (h, m.1))))
    (λ m. inr (stands_later w r d ds m)) (last_word w r (cond (decides w r.start d) (brought_by d.call) before) ds e)
  where
    mine : decides w r.start d ≡ true → All (λ z. decides w r.start z ≡ false) ds → brought_by d.call ≡ r ∷ [] → Stands w r (d ∷ ds)
    mine h u b =
        let t = T_of h in
        let q = brought_save w r d.call (of_T _ (and_right (is_done d.told.shown) _ t)) b in
        record {
          earlier = [];
          it = d;
          since = ds;
          by = q.0;
          whole = refl;
          saves = q.1;
          accepted = eq_of _ _ (of_T _ (and_left (is_done d.told.shown) _ t));
          untouched = u;
        }

held_append : (w : Which) (p : ℕ) (before : List Region) (ds es : List Done) → held_from w p before (ds ++ es) ≡ held_from w p (held_from w p before ds) es
unfolding held_from
held_append w p before [] es = refl
held_append w p before (d ∷ ds) es = held_append w p (cond (decides w p d) (brought_by d.call) before) ds es

held_still : (w : Which) (p : ℕ) (before : List Region) (ds : List Done) → All (λ d. decides w p d ≡ false) ds → held_from w p before ds ≡ before
unfolding held_from
held_still w p before [] h = refl
held_still w p before (d ∷ ds) h = ap (λ b. held_from w p (cond b (brought_by d.call) before) ds) h.0 ∙ held_still w p before ds h.1

stands_held : (w : Which) (r : Region) (before : List Region) (ds : List Done) → Stands w r ds → held_from w r.start before ds ≡ r ∷ []
unfolding held_from
stands_held w r before ds h =
    let b : decides w r.start h.it ≡ true =
    ap₂ ◌&&◌ (eq_yes _ _ h.accepted) (ap (is_about w r.start) h.saves ∙ ap₂ ◌&&◌ (which_is w) (eq_yes r.start r.start refl)) in
    ap (held_from w r.start before) h.whole ∙ held_append w r.start before h.earlier (h.it ∷ h.since)
    ∙ held_still w r.start (cond (decides w r.start h.it) (brought_by h.it.call) (held_from w r.start before h.earlier)) h.since h.untouched
    ∙ ap (λ z. cond z (brought_by h.it.call) (held_from w r.start before h.earlier)) b ∙ ap brought_by h.saves

-- A set holds exactly the regions whose last accepted save or delete, of their start and in that set, is their own save
pub theorem_held : (so si : List ℕ) {s t : State} {ds : List Done} → Opened so si s → Run s ds t → (w : Which) (r : Region) → In r (set_of w t).regions ↔ Stands w r ds
theorem_held so si {s = s} {t = t} {ds = ds} o run w r =
    let e = held_at_lem so si o run w r.start in
    let h = (good_set so si w t (good_reached so si o run)).sound.rising in (
      (λ k. ⊎_elim (λ m. absurd (cons_not r [] m.0)) (λ m. m) (last_word w r [] ds (sym e ∙ in_at r (set_of w t).regions h k))),
      (λ k. at_in r (set_of w t).regions (e ∙ stands_held w r [] ds k)),
    )

-- and holds them in ascending order, well formed, nested rightly, no account above its share, its shares those given and 500 at most
pub theorem_sound : (so si : List ℕ) {s t : State} {ds : List Done} → Opened so si s → Run s ds t → (w : Which) → Sound (set_of w t)
theorem_sound so si {t = t} o run w = (good_set so si w t (good_reached so si o run)).sound

pub theorem_few : (so si : List ℕ) {s t : State} {ds : List Done} → Opened so si s → Run s ds t → (w : Which) → length (set_of w t).regions ≤ 500
theorem_few so si {t = t} o run outer =
    let g = (good_reached so si o run).outer_good in
    few t.outer_set g.sound (ap length g.given ∙ o.outer_shares) g.ranged
theorem_few so si {t = t} o run inner =
    let g = (good_reached so si o run).inner_good in
    few t.inner_set g.sound (ap length g.given ∙ o.inner_shares) g.ranged

-- THE NOTES beside the buffer are what the history says
abbrev note_then : ℕ → ℕ → Call → Shown → Bool → Bool
note_then i k c x before = cond (is_done x && opens_seat i c) false (cond (is_round c && ltb k (4 * get_or x.counts i 0)) true before)

note_still : (i k : ℕ) (c : Call) (s : State) (b : Bool) → opens_seat i c ≡ false → is_round c ≡ false → b ≡ note_then i k c (answer c s) b
note_still i k c s b e f =
    let z : (is_done (answer c s) && opens_seat i c) ≡ false = ap (λ v. is_done (answer c s) && v) e ∙ and_false (is_done (answer c s)) in
    sym (ap (λ v. cond v false (cond (is_round c && ltb k (4 * get_or (answer c s).counts i 0)) true b)) z ∙ ap (λ v. cond (v && ltb k (4 * get_or (answer c s).counts i 0)) true b) f)

wrote_with : (w : Which) (S : Set) (s : State) → (with_set w S s).wrote ≡ s.wrote
wrote_with outer S s = refl
wrote_with inner S s = refl

all_noted : (ws : List ℕ) (k : ℕ) → k < length ws → get_or (map is_written ws) k false ≡ true
all_noted [] k h = absurd (omega arith)
all_noted (x ∷ xs) zero h = refl
all_noted (x ∷ xs) (suc k) h = all_noted xs k (omega arith)

note_round : (so si : List ℕ) (X Y : Set) (s : State) (i k : ℕ) → Good so si s → i < 8 → k < 128
    → get_or (poured (noted X Y) 0 s.desk s.wrote) (128 * i + k) false ≡ cond (ltb k (4 * get_or (counts X Y s.desk) i 0)) true (get_or s.wrote (128 * i + k) false)
note_round so si X Y s i k g low l =
    let fit = desk_notes so si X Y s g in
    let m : length (noted X Y (seat_at s.desk i)) ≡ 4 * get_or (counts X Y s.desk) i 0 =
    length-map (handed_words X Y (seat_at s.desk i)) is_written ∙ handed_long X Y (seat_at s.desk i) ∙ ap (λ n. 4 * n) (sym (count_at X Y s.desk i)) in
    elim (dec_lt k (4 * get_or (counts X Y s.desk) i 0)) [
      | yes u ↦
          poured_in (noted X Y) s.desk s.wrote g.desk_good.eight g.notes fit i k false low (omega arith)
          ∙ all_noted (handed_words X Y (seat_at s.desk i)) k (omega (arith, length-map (handed_words X Y (seat_at s.desk i)) is_written))
          ∙ ap (λ b. cond b true (get_or s.wrote (128 * i + k) false)) (sym (lt_yes _ _ u))
      | no u ↦
          poured_out (noted X Y) s.desk s.wrote g.desk_good.eight g.notes fit i k false low (omega arith) l
          ∙ ap (λ b. cond b true (get_or s.wrote (128 * i + k) false)) (sym (lt_no k _ (omega arith)))
    ]

note_next : (so si : List ℕ) (i k : ℕ) → i < 8 → k < 128 → (c : Call) (s : State) → Good so si s
    → get_or (next c s).wrote (128 * i + k) false ≡ note_then i k c (answer c s) (get_or s.wrote (128 * i + k) false)
unfolding next answer
note_next so si i k low l (save w a r) s g =
    either (λ (t : State). get_or t.wrote (128 * i + k) false ≡ get_or s.wrote (128 * i + k) false) (eqb (save_no (set_of w s) a r) 0) _ s
    (λ e. ap (λ z. get_or z (128 * i + k) false) (wrote_with w _ s)) (λ e. refl)
    ∙ note_still i k (save w a r) s _ refl refl
note_next so si i k low l (delete w a p) s g =
    either (λ (t : State). get_or t.wrote (128 * i + k) false ≡ get_or s.wrote (128 * i + k) false) (eqb (delete_no (set_of w s) a p) 0) _ s
    (λ e. ap (λ z. get_or z (128 * i + k) false) (wrote_with w _ s)) (λ e. refl)
    ∙ note_still i k (delete w a p) s _ refl refl
note_next so si i k low l (look a o) s g = note_still i k (look a o) s _ refl refl
note_next so si i k low l (round x y) s g =
    ap (λ (t : State). get_or t.wrote (128 * i + k) false) (round_leaves so si s x y g) ∙ note_round so si (set_of x s) (set_of y s) s i k g low l
    ∙ ap (λ z. note_then i k (round x y) z (get_or s.wrote (128 * i + k) false)) (sym (round_answer so si s x y g))
note_next so si i k low l (open_seat j a q m) s g =
    by_test (eqb (open_seat_no s.desk j a m) 0)
    (λ e.
    let z = (open_seat_done s.desk j a m (eq_of _ _ e)).seat in
    rw e
    (by_test (eqb j i)
    (λ f. rw f (let q = eq_of j i f in rw (sym q) (unnoted_at j (omega arith) s.wrote k g.notes l)))
    (λ f. rw f (unnoted_off j s.wrote i k (λ q. ne_of j i f (sym q)) l))))
    (λ e. rw e)
note_next so si i k low l (close_seat j) s g =
    either (λ (t : State). get_or t.wrote (128 * i + k) false ≡ get_or s.wrote (128 * i + k) false) (eqb (close_seat_no s.desk j) 0) _ s (λ e. refl) (λ e. refl)
    ∙ note_still i k (close_seat j) s _ refl refl
note_next so si i k low l (ask_part j n) s g = note_still i k (ask_part j n) s _ refl refl
note_next so si i k low l (ask_part_no j n) s g = note_still i k (ask_part_no j n) s _ refl refl
note_next so si i k low l (no_batch v ws places) s g = note_still i k (no_batch v ws places) s _ refl refl

note_run : (so si : List ℕ) (i k : ℕ) → i < 8 → k < 128 → {s t : State} {ds : List Done} → Run s ds t → Good so si s
    → get_or t.wrote (128 * i + k) false ≡ wrote_from i k (get_or s.wrote (128 * i + k) false) ds
unfolding wrote_from
note_run so si i k low l none g = refl
note_run so si i k low l {s = s} (then {d = d} {ds = ds} st r) g =
    note_run so si i k low l r (rw st.leaves (good_next so si d.call s g))
    ∙ ap (λ b. wrote_from i k b ds)
    (ap (λ (t : State). get_or t.wrote (128 * i + k) false) st.leaves ∙ note_next so si i k low l d.call s g
    ∙ ap (λ x. note_then i k d.call x (get_or s.wrote (128 * i + k) false)) (sym st.answers))

pub theorem_wrote : (so si : List ℕ) {s t : State} {ds : List Done} → Opened so si s → Run s ds t → (i k : ℕ) → i < 8 → k < 128
    → get_or t.wrote (128 * i + k) false ≡ wrote_from i k false ds
theorem_wrote so si {s = s} {ds = ds} o r i k low l =
    note_run so si i k low l r (good_opened so si s o)
    ∙ ap (λ b. wrote_from i k b ds) (ap (λ z. get_or z (128 * i + k) false) o.wrote_is ∙ get_or-replicate 1024 (128 * i + k) false false (omega arith))
