-- Demand 3, of every run from two sets and a desk just opened: (a) when a save is accepted, (b) what a round hands a seat, (c) that leaving out one
-- account's calls changes no other answer. And that every list of calls has a run.
-- Assumes nothing.
use Prim.Native.Nat.{ℕ, ◌+◌, ◌*◌, ◌-◌, ◌<◌, min}
use mathlib.Core.Path.{◌≡◌, refl, sym, ap, ◌∙◌, subst₂}
use mathlib.Core.Logic.{◌↔◌}
use mathlib.Core.Bool.{true, false, not, true≢false, false≢true}
use mathlib.Core.List.{List, [], ◌∷◌, map, tail, flat_map}
use lib.Dec.{eqb}
use lib.ListN.{length, take, drop, get_or, length-map, length-take, length-drop, get_or-replicate, get_or-map, get_or-eq_default}
use lib.Seq.{get_or-take, get_or-drop, take-length, take_all, ext_get_or}
use native.Mathlib.Omega.{arith}
use native.Mathlib.Decide.{dec_lt}
use Rattle.words.specs.Lists.{filter, some}
use Rattle.words.proofs.Tests.{by_test, not_false, or_false_left, or_false_right, eq_of, ne_of, cond_same, both_cond}
use Rattle.words.proofs.Listed.{filter_yes, filter_no}
use Rattle.regions.specs.declared.Region.{Region}
use Rattle.regions.specs.declared.Choice.{Choice}
use Rattle.regions.specs.declared.Open.{Open}
use Rattle.regions.specs.declared.Seat.{Seat}
use Rattle.regions.specs.Positions.{account, well_formed}
use Rattle.regions.specs.Sets.{Set, only, held_at, crossed, contradicted, held_by}
use Rattle.regions.specs.Calls.{save_no, point_no, bounds_no, join_no, ancestors, parent, descendants, children, joined, pair_words}
use Rattle.regions.specs.Desk.{closed, open_at, seat_at, is_open, state_handed, state_turned, turned, handed_words, count_handed, counts, poured, part_no, part}
use Rattle.regions.proofs.Done.{save_done, done_save, point_done, bounds_done, part_done}
use Rattle.regions.proofs.Local.{crossed_local, contradicted_local, ancestors_local, parent_local, descendants_local, children_local}
use Rattle.regions.specs.Sound.{Ascending}
use Rattle.regions.proofs.Joined.{joined_ascends, past_drop}
use Rattle.regions.proofs.Seats.{limit_small, handed_long, handed_fits, poured_long, poured_in, poured_out}
use Rattle.plainruns.specs.Calls.{Which, State, set_of, Look, Call, Shown, Answer, says, refuses, lists, pages, finds, joins, dealt, hands_back, looked, answer, behind_round, next, Step, Done, Run, calls_of, Opened, share_given, by_account, left_out, reads, Same, Agree, left, Served, Passed}
use Rattle.plainruns.specs.Calls.Which.{outer, inner}
use Rattle.plainruns.specs.Calls.Look.{ancestor_search, parent_search, descendant_search, child_search, join, no_item}
use Rattle.plainruns.specs.Calls.Call.{save, delete, look, round, open_seat, close_seat, ask_part, ask_part_no, no_batch}
use Rattle.plainruns.specs.Calls.Run.{none, then}
use Rattle.plainruns.specs.Calls.Agree.{ended, without, together}
use Rattle.plainruns.proofs.Good.{Good, good_set, good_next, good_opened, good_reached, share_given_lem, seat_fits_lem, round_answer, round_leaves}
use Rattle.plainruns.proofs.Relate.{sees_of, Apart, Rel, skip, joined_same, desk_words, alike_reads, save_same, delete_same, open_same, close_same, part_same, hands_same, words_same, keep}
use Rattle.plainruns.proofs.Relate.Alike.{same}

-- (a) WHEN A SAVE IS ACCEPTED. Given that nothing is wrong with the region itself, that its account is the caller's, that its start is free and that it
-- crosses none of the caller's own regions there and contradicts no level of theirs, only the count decides: 0 is answered if, and only if, the caller holds less than was given at the
-- opening. (A start is a 32-bit number, so its account is 15 at most.)
pub theorem_a : (so si : List ℕ) {s₀ s t : State} {ds : List Done} {x : Answer} → Opened so si s₀ → Run s₀ ds s
    → (w : Which) (a : ℕ) (r : Region) → Step s (save w a r) x t
    → well_formed r ≡ true → r.start < 4294967296 → account r.start ≡ a → held_at r.start (set_of w s) ≡ false → crossed r (only a (set_of w s)) ≡ false
    → contradicted r (only a (set_of w s)) ≡ false
    → (x.shown.number ≡ 0) ↔ (held_by a (set_of w s) < share_given so si w a)
unfolding answer
theorem_a so si {s = s} {x = x} o run w a r st formed small own free clear level =
    let g = good_reached so si o run in
    let q = share_given_lem so si w a s g in
    let c : crossed r (set_of w s) ≡ false =
    crossed_local (set_of w s) r formed (good_set so si w s g).sound.formed ∙ ap (λ b. crossed r (only b (set_of w s))) own ∙ clear in
    let d : contradicted r (set_of w s) ≡ false =
    contradicted_local (set_of w s) r formed (good_set so si w s g).sound.formed ∙ ap (λ b. contradicted r (only b (set_of w s))) own ∙ level in
    let n : x.shown.number ≡ save_no (set_of w s) a r = ap (λ (z : Shown). z.number) st.answers in (
      (λ h. let m = (save_done (set_of w s) a r (sym n ∙ h)).room in omega arith),
      (λ h. n ∙ done_save (set_of w s) a r (record { formed = formed; own = record { range = omega arith; same = own }; free = free; clear = c; level = d; room = omega arith })),
    )

-- (c) THE ANSWERS
same_refl : (A : ℕ) (s : State) (c : Call) (x y : Shown) → x ≡ y → Same A s c x y
same_refl A s c x y e =
    record {
      number = ap (λ (z : Shown). z.number) e;
      count = ap (λ (z : Shown). z.count) e;
      more = ap (λ (z : Shown). z.more) e;
      found = ap (λ (z : Shown). z.found) e;
      counts_many = ap (λ (z : Shown). length z.counts) e;
      counts = λ i h. ap (λ (z : Shown). get_or z.counts i 0) e;
      hands_many = ap (λ (z : Shown). length z.hands) e;
      hands = λ i h. ap (λ (z : Shown). get_or z.hands i []) e;
      words_many = ap (λ (z : Shown). length z.words) e;
      words = λ k h. ap (λ (z : Shown). get_or z.words k 0) e;
    }

-- a part's words
abbrev cut : ℕ → ℕ → List ℕ → List ℕ
cut i n b = take (4 * n) (drop (128 * i) b)

cut_long : (i n : ℕ) (b : List ℕ) → length b ≡ 1024 → length (cut i n b) ≡ min (4 * n) (1024 - 128 * i)
cut_long i n b e = length-take (4 * n) (drop (128 * i) b) ∙ ap (min (4 * n)) (length-drop (128 * i) b ∙ ap (λ l. l - 128 * i) e)

cut_at : (i n k : ℕ) (b : List ℕ) → k < 4 * n → get_or (cut i n b) k 0 ≡ get_or b (128 * i + k) 0
cut_at i n k b h = get_or-take (4 * n) (drop (128 * i) b) k 0 h ∙ get_or-drop (128 * i) b k 0

-- a round's counts and hands, at seat i
pub count_at : (X Y : Set) (desk : List Seat) (i : ℕ) → get_or (counts X Y desk) i 0 ≡ count_handed X Y (seat_at desk i)
unfolding state_handed
count_at X Y desk i = get_or-map (count_handed X Y) desk i closed

pub words_at : (X Y : Set) (desk : List Seat) (i : ℕ) → get_or (map (handed_words X Y) desk) i [] ≡ handed_words X Y (seat_at desk i)
unfolding state_handed flat_map
words_at X Y desk i = get_or-map (handed_words X Y) desk i closed

module _ (so si : List ℕ) (A : ℕ) (s s' : State) (g : Good so si s) (g' : Good so si s') (r : Rel A s s') where
  ancestors_same : (w : Which) (a : ℕ) (ch : Choice) (p : ℕ) → (a ≡ A → ⊥) → account p ≡ a → ancestors ch p (set_of w s) ≡ ancestors ch p (set_of w s')
  ancestors_same w a ch p n e =
      ancestors_local (set_of w s) a ch p (good_set so si w s g).sound.formed e ∙ ap (ancestors ch p) (r.sets_apart w a n)
      ∙ sym (ancestors_local (set_of w s') a ch p (good_set so si w s' g').sound.formed e)

  parent_same : (w : Which) (a p l : ℕ) → (a ≡ A → ⊥) → account p ≡ a → parent p l (set_of w s) ≡ parent p l (set_of w s')
  parent_same w a p l n e =
      parent_local (set_of w s) a p l (good_set so si w s g).sound.formed e ∙ ap (parent p l) (r.sets_apart w a n)
      ∙ sym (parent_local (set_of w s') a p l (good_set so si w s' g').sound.formed e)

  -- a search of another account is answered alike
  look_same : (a : ℕ) (o : Look) → (a ≡ A → ⊥) → looked a o s ≡ looked a o s'
  unfolding looked
  look_same a (ancestor_search w p ch out) n =
      cond_same (eqb (point_no a p) 0) _ _ (refuses (point_no a p) out) (λ e. ap (lists out) (ancestors_same w a ch p n (point_done a p (eq_of _ _ e)).same))
  look_same a (parent_search w p l) n =
      cond_same (eqb (point_no a p) 0) _ _ (says (point_no a p)) (λ e. ap finds (parent_same w a p l n (point_done a p (eq_of _ _ e)).same))
  look_same a (descendant_search w b e f out) n =
      cond_same (eqb (bounds_no a b e) 0) _ _ (refuses (bounds_no a b e) out)
      (λ q.
      let m = bounds_done a b e (eq_of _ _ q) in
      ap (pages out)
      (descendants_local (set_of w s) a b e f m.bound m.own.same ∙ ap (descendants b e f) (r.sets_apart w a n) ∙ sym (descendants_local (set_of w s') a b e f m.bound m.own.same)))
  look_same a (child_search w b e l f out) n =
      cond_same (eqb (bounds_no a b e) 0) _ _ (refuses (bounds_no a b e) out)
      (λ q.
      let m = bounds_done a b e (eq_of _ _ q) in
      ap (pages out)
      (children_local (set_of w s) a b e l f m.bound m.own.same ∙ ap (children b e l f) (r.sets_apart w a n) ∙ sym (children_local (set_of w s') a b e l f m.bound m.own.same)))
  look_same a (join x y k out) n =
      cond_same (eqb (join_no a) 0) _ _ (refuses (join_no a) out)
      (λ e. ap (joins out) (joined_same A (set_of x s) (set_of y s) (set_of x s') (set_of y s') (r.sets_apart x) (r.sets_apart y) a k n))
  look_same a (no_item w k) n = refl

  part_words_lem : (i n : ℕ) → part_no s.desk s.buffer i n ≡ 0 → Same A s (ask_part i n) (hands_back (cut i n s.buffer)) (hands_back (cut i n s'.buffer))
  part_words_lem i n e =
      let c = part_done s.desk s.buffer i n e in
      let f = c.limit in
      let low = c.seat in
      let v = limit_small (seat_at s.desk i).state (seat_fits_lem so si s i g) in
      let l = cut_long i n s.buffer g.words in
      let l' = cut_long i n s'.buffer g'.words in
      record {
        number = refl;
        count = refl;
        more = refl;
        found = refl;
        counts_many = refl;
        counts = λ j h. refl;
        hands_many = refl;
        hands = λ j h. refl;
        words_many = l ∙ sym l';
        words = λ k h. elim (dec_lt k (4 * n)) [
          | yes w ↦
              let o = or_false_left (reads A (seat_at s.desk i)) _ h in
              let q = not_false _ (or_false_right (reads A (seat_at s.desk i)) _ h) in
              cut_at i n k s.buffer w ∙ r.words i k (omega arith) (omega arith) (sees_of A (seat_at s.desk i).state c.opened o) q ∙ sym (cut_at i n k s'.buffer w)
          | no w ↦ get_or-eq_default (cut i n s.buffer) 0 (omega arith) ∙ sym (get_or-eq_default (cut i n s'.buffer) 0 (omega arith))
        ];
      }

  round_same : (x y : Which) → Same A s (round x y) (dealt (set_of x s) (set_of y s) s.desk) (dealt (set_of x s') (set_of y s') s'.desk)
  round_same x y =
      let X = set_of x s in
      let Y = set_of y s in
      let X' = set_of x s' in
      let Y' = set_of y s' in
      record {
        number = refl;
        count = refl;
        more = refl;
        found = refl;
        counts_many = length-map s.desk (count_handed X Y) ∙ g.desk_good.eight ∙ sym (length-map s'.desk (count_handed X' Y') ∙ g'.desk_good.eight);
        counts = λ i h. count_at X Y s.desk i ∙ ap length (hands_same so si A s s' g g' r x y i h) ∙ sym (count_at X' Y' s'.desk i);
        hands_many = length-map s.desk (handed_words X Y) ∙ g.desk_good.eight ∙ sym (length-map s'.desk (handed_words X' Y') ∙ g'.desk_good.eight);
        hands = λ i h. words_at X Y s.desk i ∙ words_same so si A s s' g g' r x y i h ∙ sym (words_at X' Y' s'.desk i);
        words_many = refl;
        words = λ k h. refl;
      }

  pub same_answer : (c : Call) → by_account A c ≡ false → Same A s c (answer c s) (answer c s')
  unfolding answer part
  same_answer (save w a q) h = same_refl A s _ _ _ (ap says (save_same so si A s s' g g' r w a q (ne_of a A h)))
  same_answer (delete w a p) h = same_refl A s _ _ _ (ap says (delete_same so si A s s' g g' r w a p (ne_of a A h)))
  same_answer (look a o) h = same_refl A s _ _ _ (look_same a o (ne_of a A h))
  same_answer (round x y) h = subst₂ (λ u v. Same A s (round x y) u v) (sym (round_answer so si s x y g)) (sym (round_answer so si s' x y g')) (round_same x y)
  same_answer (open_seat i a k l) h = same_refl A s _ _ _ (ap says (open_same so si A s s' g g' r i a l))
  same_answer (close_seat i) h = same_refl A s _ _ _ (ap says (close_same so si A s s' g g' r i))
  same_answer (ask_part i n) h =
      both_cond (λ u v. Same A s (ask_part i n) (hands_back u) (hands_back v)) (eqb (part_no s.desk s.buffer i n) 0) (eqb (part_no s'.desk s'.buffer i n) 0)
      (cut i n s.buffer) [] (cut i n s'.buffer) [] (ap (λ z. eqb z 0) (part_same so si A s s' g g' r i n)) (λ e e'. part_words_lem i n (eq_of _ _ e))
      (same_refl A s (ask_part i n) (hands_back []) (hands_back []) refl)
  same_answer (ask_part_no i n) h = same_refl A s _ _ _ (ap says (part_same so si A s s' g g' r i n))
  same_answer (no_batch w ws places) h = same_refl A s _ _ _ refl

-- THE TWO RUNS
rel_opened : (A : ℕ) (so si : List ℕ) (s s' : State) → Opened so si s → Opened so si s' → Rel A s s'
rel_opened A so si s s' o o' =
    record {
      sets_apart = at;
      seats = λ i. rw (o.desk_is, o'.desk_is) (same _);
      notes = λ i k h l v. rw (o.wrote_is, o'.wrote_is);
      words = λ i k h l v t. absurd (false≢true (sym (get_or-replicate 1024 (128 * i + k) false false (omega arith)) ∙ (rw o.wrote_is at t)));
    }
  where
    at : (w : Which) → Apart A (set_of w s) (set_of w s')
    at outer b n = ap (only b) (o.outer_is ∙ sym o'.outer_is)
    at inner b n = ap (only b) (o.inner_is ∙ sym o'.inner_is)

-- the state after some calls
abbrev pub after : List Call → State → State
after [] s = s
after (c ∷ cs) s = after cs (next c s)

pub run_after : {s t : State} {ds : List Done} → Run s ds t → t ≡ after (calls_of ds) s
run_after none = refl
run_after (then {d = d} {ds = ds} st r) = run_after r ∙ ap (after (calls_of ds)) st.leaves

-- what is left out, call by call
out_yes : (A : ℕ) (c : Call) (cs : List Call) → by_account A c ≡ true → left_out A (c ∷ cs) ≡ left_out A cs
out_yes A c cs e = filter_no (λ b. not (by_account A b)) c cs (ap not e)

out_no : (A : ℕ) (c : Call) (cs : List Call) → by_account A c ≡ false → left_out A (c ∷ cs) ≡ c ∷ left_out A cs
out_no A c cs e = filter_yes (λ b. not (by_account A b)) c cs (ap not e)

out_none : (A : ℕ) → left_out A [] ≡ []
unfolding filter
out_none A = refl

relate : (so si : List ℕ) (A : ℕ) (cs : List Call) (s s' : State) → Good so si s → Good so si s' → Rel A s s' → Rel A (after cs s) (after (left_out A cs) s')
relate so si A [] s s' g g' r = rw (out_none A) r
relate so si A (c ∷ cs) s s' g g' r =
    by_test (by_account A c)
    (λ e. rw (out_yes A c cs e) (relate so si A cs (next c s) s' (good_next so si c s g) g' (skip A s s' c e r)))
    (λ e. rw (out_no A c cs e) (relate so si A cs (next c s) (next c s') (good_next so si c s g) (good_next so si c s' g') (keep so si A s s' g g' r c e)))

related : (A : ℕ) (so si : List ℕ) {s₀ s s₀' s' : State} {ds es : List Done} → Opened so si s₀ → Run s₀ ds s → Opened so si s₀' → Run s₀' es s'
    → left_out A (calls_of ds) ≡ calls_of es → Rel A s s'
related A so si {s₀} {s} {s₀'} {s'} {ds} {es} o run o' run' e =
    subst₂ (Rel A) (sym (run_after run)) (sym (run_after run' ∙ ap (λ cs. after cs s₀') (sym e)))
    (relate so si A (calls_of ds) s₀ s₀' (good_opened so si s₀ o) (good_opened so si s₀' o') (rel_opened A so si s₀ s₀' o o'))

-- (c) at any point: behind a history and behind the same with A's calls left out, every call that is not A's is answered alike
pub theorem_c : (A : ℕ) (so si : List ℕ) {s₀ s t s₀' s' t' : State} {ds es : List Done} {x x' : Answer} → Opened so si s₀ → Run s₀ ds s → Opened so si s₀' → Run s₀' es s'
    → left_out A (calls_of ds) ≡ calls_of es → (c : Call) → by_account A c ≡ false → Step s c x t → Step s' c x' t' → Same A s c x.shown x'.shown
theorem_c A so si {s = s} {s' = s'} o run o' run' e c h st st' =
    subst₂ (Same A s c) (sym st.answers) (sym st'.answers)
    (same_answer so si A s s' (good_reached so si o run) (good_reached so si o' run') (related A so si o run o' run' e) c h)

-- what is excepted is the same in both runs: the same seats read A, and of an open seat that does not, a round has written a word since its opening in
-- the one run exactly where in the other
pub same_exception : (A : ℕ) (so si : List ℕ) {s₀ s s₀' s' : State} {ds es : List Done} → Opened so si s₀ → Run s₀ ds s → Opened so si s₀' → Run s₀' es s'
    → left_out A (calls_of ds) ≡ calls_of es
    → ((i : ℕ) → reads A (seat_at s.desk i) ≡ reads A (seat_at s'.desk i))
    × ((i k : ℕ) → i < 8 → k < 128 → is_open (seat_at s.desk i) ≡ true → reads A (seat_at s.desk i) ≡ false
    → get_or s.wrote (128 * i + k) false ≡ get_or s'.wrote (128 * i + k) false)
same_exception A so si {s = s} o run o' run' e =
    let r = related A so si o run o' run' e in
    ((λ i. alike_reads (r.seats i)), (λ i k h l u v. r.notes i k h l (sees_of A (seat_at s.desk i).state u v)))

abbrev head_or : {X : Type 0} → X → List X → X
head_or d [] = d
head_or d (x ∷ xs) = x

some_cons : (c : Call) (cs : List Call) → c ∷ cs ≡ [] → ⊥
unfolding some
some_cons c cs e = true≢false (ap some e)

agree : (so si : List ℕ) (A : ℕ) {s t s' t' : State} {ds es : List Done} → Run s ds t → Run s' es t' → left_out A (calls_of ds) ≡ calls_of es
    → Good so si s → Good so si s' → Rel A s s' → Agree A s ds es
agree so si A none none e g g' r = ended
agree so si A none (then {d = d} {ds = es} st' run') e g g' r = absurd (some_cons d.call (calls_of es) (sym e ∙ out_none A))
agree so si A {s} {s' = s'} (then {d = d} {ds = ds} st run) none e g g' r =
    by_test (by_account A d.call)
    (λ h.
    without h
    (rw st.leaves at (agree so si A run none (sym (out_yes A d.call (calls_of ds) h) ∙ e) (rw st.leaves (good_next so si d.call s g)) g' (rw st.leaves (skip A s s' d.call h r)))))
    (λ h. absurd (some_cons d.call (left_out A (calls_of ds)) (sym (out_no A d.call (calls_of ds) h) ∙ e)))
agree so si A {s} {s' = s'} (then {d = d} {ds = ds} st run) (then {d = d'} st' run') e g g' r =
    by_test (by_account A d.call)
    (λ h.
    without h
    (rw st.leaves at
    (agree so si A run (then st' run') (sym (out_yes A d.call (calls_of ds) h) ∙ e) (rw st.leaves (good_next so si d.call s g)) g' (rw st.leaves (skip A s s' d.call h r)))))
    (λ h.
    let q = sym (out_no A d.call (calls_of ds) h) ∙ e in
    let c : d.call ≡ d'.call = ap (λ l. head_or d.call l) q in
    together h c (subst₂ (Same A s d.call) (sym st.answers) (sym (st'.answers ∙ ap (λ f. answer f s') (sym c))) (same_answer so si A s s' g g' r d.call h))
    (rw st.leaves at
    (agree so si A run run' (ap tail q) (rw st.leaves (good_next so si d.call s g)) (rw st'.leaves (good_next so si d'.call s' g'))
    (rw (st.leaves, st'.leaves, ← c) (keep so si A s s' g g' r d.call h)))))

-- (c) of the whole of two runs. They may begin with different words in the buffer
pub theorem_c_whole : (A : ℕ) (so si : List ℕ) {s₀ t s₀' t' : State} {ds es : List Done} → Opened so si s₀ → Run s₀ ds t → Opened so si s₀' → Run s₀' es t'
    → left_out A (calls_of ds) ≡ calls_of es → Agree A s₀ ds es
theorem_c_whole A so si {s₀ = s₀} {s₀' = s₀'} o run o' run' e =
    agree so si A run run' e (good_opened so si s₀ o) (good_opened so si s₀' o') (rel_opened A so si s₀ s₀' o o')

-- (b) ONE SEAT IN A ROUND
pub take_min : {X : Type 0} (n : ℕ) (xs : List X) → take (min n (length xs)) xs ≡ take n xs
take_min n xs =
    elim (dec_lt n (length xs)) [
      | yes u ↦ (let e : min n (length xs) ≡ n = omega arith in rw e)
      | no u ↦ (let e : min n (length xs) ≡ length xs = omega arith in rw e (take-length xs)) ∙ sym (take_all n xs (omega arith))
    ]

module _ (so si : List ℕ) (s : State) (x y : Which) (g : Good so si s) where
  abbrev F : Seat → List ℕ
  F = handed_words (set_of x s) (set_of y s)

  -- what stands in a seat's part is what it was handed
  lies_in : (i : ℕ) → i < 8 → take (4 * count_handed (set_of x s) (set_of y s) (seat_at s.desk i)) (drop (128 * i) (poured F 0 s.desk s.buffer)) ≡ F (seat_at s.desk i)
  lies_in i low =
      let X = set_of x s in
      let Y = set_of y s in
      let n = count_handed X Y (seat_at s.desk i) in
      let b = poured F 0 s.desk s.buffer in
      let w = handed_long X Y (seat_at s.desk i) in
      let v = handed_fits X Y (seat_at s.desk i) (seat_fits_lem so si s i g) in
      let lc : length (take (4 * n) (drop (128 * i) b)) ≡ 4 * n =
      length-take (4 * n) (drop (128 * i) b) ∙ omega (arith, length-drop (128 * i) b, poured_long F 0 s.desk s.buffer, g.words) in
      ext_get_or 0 (take (4 * n) (drop (128 * i) b)) (F (seat_at s.desk i)) (lc ∙ sym w)
      (λ j h.
      get_or-take (4 * n) (drop (128 * i) b) j 0 (omega arith) ∙ get_or-drop (128 * i) b j 0
      ∙ poured_in F s.desk s.buffer g.desk_good.eight g.words (desk_words so si X Y s g) i j 0 low (omega arith))

  seat_served : (z : Shown) (t : State) (i : ℕ) (o : Open) → i < 8 → seat_at s.desk i ≡ open_at o
      → z ≡ dealt (set_of x s) (set_of y s) s.desk → t ≡ behind_round (set_of x s) (set_of y s) s
      → Served (set_of x s) (set_of y s) s t z i o (min o.limit (length (left (set_of x s) (set_of y s) o))) (take o.limit (left (set_of x s) (set_of y s) o))
  unfolding state_handed state_turned
  seat_served z t i o low e ez et =
      let X = set_of x s in
      let Y = set_of y s in
      let L = left X Y o in
      let n = min o.limit (length L) in
      let c = length-take o.limit L in
      let k : count_handed X Y (seat_at s.desk i) ≡ n = ap (count_handed X Y) e ∙ c in
      let w : length (F (seat_at s.desk i)) ≡ 4 * n = handed_long X Y (seat_at s.desk i) ∙ ap (λ q. 4 * q) k in
      let told : get_or (map F s.desk) i [] ≡ flat_map pair_words (take o.limit L) = words_at X Y s.desk i ∙ ap F e in
      record {
        many = refl;
        next_ones = sym (take_min o.limit L);
        handed_count = c;
        told_count = ap (λ (q : Shown). get_or q.counts i 0) ez ∙ count_at X Y s.desk i ∙ k;
        told = ap (λ (q : Shown). get_or q.hands i []) ez ∙ told;
        told_long = ap (λ (q : Shown). length (get_or q.hands i [])) ez ∙ ap length (words_at X Y s.desk i) ∙ w;
        lies = ap (λ (q : State). take (4 * n) (drop (128 * i) q.buffer)) et ∙ ap (λ q. take (4 * q) (drop (128 * i) (poured F 0 s.desk s.buffer))) (sym k) ∙ lies_in i low ∙ ap F e;
        rest = λ j h h'.
            ap (λ (q : State). get_or q.buffer (128 * i + j) 0) et
            ∙ poured_out F s.desk s.buffer g.desk_good.eight g.words (desk_words so si X Y s g) i j 0 low (omega arith) h';
        seat_then = ap (λ (q : State). seat_at q.desk i) et ∙ get_or-map (turned X Y) s.desk i closed ∙ ap (turned X Y) e;
      }

  seat_passed : (z : Shown) (t : State) (i : ℕ) → i < 8 → seat_at s.desk i ≡ closed
      → z ≡ dealt (set_of x s) (set_of y s) s.desk → t ≡ behind_round (set_of x s) (set_of y s) s → Passed s t z i
  unfolding state_handed state_turned flat_map
  seat_passed z t i low e ez et =
      let X = set_of x s in
      let Y = set_of y s in
      let w : length (F (seat_at s.desk i)) ≡ 0 = ap (λ q. length (F q)) e in
      record {
        told_count = ap (λ (q : Shown). get_or q.counts i 0) ez ∙ count_at X Y s.desk i ∙ ap (count_handed X Y) e;
        told = ap (λ (q : Shown). get_or q.hands i []) ez ∙ words_at X Y s.desk i ∙ ap F e;
        rest = λ j h.
            ap (λ (q : State). get_or q.buffer (128 * i + j) 0) et
            ∙ poured_out F s.desk s.buffer g.desk_good.eight g.words (desk_words so si X Y s g) i j 0 low (omega arith) h;
        seat_then = ap (λ (q : State). seat_at q.desk i) et ∙ get_or-map (turned X Y) s.desk i closed ∙ ap (turned X Y) e;
      }

-- (b) WHAT A ROUND HANDS. Every round is answered 0 and tells eight counts. An open seat gets pairs from where its mark stands in the join's list: as many
-- as its limit, or all that are left there if these are fewer. A closed seat gets none
pub theorem_b : (so si : List ℕ) {s₀ s t : State} {ds : List Done} {z : Answer} → Opened so si s₀ → Run s₀ ds s → (x y : Which) → Step s (round x y) z t
    → (z.shown.number ≡ 0) × (length z.shown.counts ≡ 8)
    × ((i : ℕ) (o : Open) → i < 8 → seat_at s.desk i ≡ open_at o
    → let L = left (set_of x s) (set_of y s) o in Served (set_of x s) (set_of y s) s t z.shown i o (min o.limit (length L)) (take o.limit L))
    × ((i : ℕ) → i < 8 → seat_at s.desk i ≡ closed → Passed s t z.shown i)
theorem_b so si {s = s} {t = t} {z = z} o run x y st =
    let g = good_reached so si o run in
    let ez = st.answers ∙ round_answer so si s x y g in
    let et = st.leaves ∙ round_leaves so si s x y g in (
      ap (λ (q : Shown). q.number) ez,
      ap (λ (q : Shown). length q.counts) ez ∙ length-map s.desk (count_handed (set_of x s) (set_of y s)) ∙ g.desk_good.eight,
      (λ i p low e. seat_served so si s x y g z.shown t i p low e ez et),
      (λ i low e. seat_passed so si s x y g z.shown t i low e ez et),
    )

-- "the next ones": what is left past a mark is a rest of the join's list, which ascends by d's start and then a's, so each pair stands in it once
pub theorem_b_rest : (so si : List ℕ) {s₀ s : State} {ds : List Done} → Opened so si s₀ → Run s₀ ds s → (x y : Which) (o : Open)
    → let L = joined (set_of x s) (set_of y s) o.account o.kind in Ascending L × (n : ℕ) × (left (set_of x s) (set_of y s) o ≡ drop n L)
theorem_b_rest so si {s = s} e run x y o =
    let g = good_reached so si e run in
    let up = joined_ascends (set_of x s) (set_of y s) o.account o.kind (good_set so si x s g).sound.rising (good_set so si y s g).sound.rising in
    let d = past_drop o.mark (joined (set_of x s) (set_of y s) o.account o.kind) up in
    (up, d.0, d.1)

-- THERE IS A RUN of every list of calls, from any state, with any step counts
unfoldable pub done_of : (Call → State → ℕ) → List Call → State → List Done
done_of f [] s = []
done_of f (c ∷ cs) s = record { call = c; told = record { shown = answer c s; steps = f c s } } ∷ done_of f cs (next c s)

pub there_is : (f : Call → State → ℕ) (cs : List Call) (s : State) → Run s (done_of f cs s) (after cs s) × (calls_of (done_of f cs s) ≡ cs)
unfolding done_of
there_is f [] s = (none, refl)
there_is f (c ∷ cs) s = let r = there_is f cs (next c s) in (then (record { answers = refl; leaves = refl }) r.0, ap (λ l. c ∷ l) r.1)
