-- The join's list: whom it pairs, that it ascends by d's start and then a's, so that no pair stands twice, and how a mark splits it.
-- Assumes nothing.
use Prim.Native.Nat.{ℕ, suc, ◌<◌}
use mathlib.Core.Path.{◌≡◌, refl, sym, ap, ap₂, ◌∙◌, subst}
use mathlib.Core.Logic.{◌⊎◌, inl, inr}
use mathlib.Core.Bool.{true, false}
use mathlib.Core.List.{List, [], ◌∷◌, ◌++◌, map, flat_map, append-nil, append_assoc}
use lib.ListN.{take, drop, take-append-drop}
use native.Mathlib.Omega.{arith}
use Rattle.words.specs.Lists.{filter, All, Pairs, last_or}
use Rattle.words.proofs.Tests.{T_of, of_T, off_t, and_left, by_test, eq_yes}
use Rattle.words.proofs.Listed.{all_mono, all_two, all_every, all_let, all_kept, all_map, all_flat, pairs_mono, pairs_left, pairs_across, pairs_append, pairs_kept, filter_append, filter_all, filter_none, filter_no, all_end, last_append}
use Rattle.words.proofs.Says.{Says, and_says, eq_says, lt_says, or_says, true_so, so_true}
use Rattle.regions.specs.declared.Region.{Region}
use Rattle.regions.specs.declared.Kind.{Kind}
use Rattle.regions.specs.declared.Mark.{Mark}
use Rattle.regions.specs.declared.Mark.TheVariants.{Fresh, Last}
use Rattle.regions.specs.Positions.{holds}
use Rattle.regions.specs.Sets.{Set, of}
use Rattle.regions.specs.Calls.{Pair, choice_of, pairs_with, pair_of, pairs_of, joined}
use Rattle.regions.specs.Desk.{later, is_past, past, mark_behind, mark_fits}
use Rattle.regions.proofs.Means.{of_says}
use Rattle.regions.specs.Sound.{Rising, Then, Ascending}

-- WHOM IT PAIRS
pub record Joins (a : ℕ) (k : Kind) (q : Pair) : Type 0 where
  pub outer : of a q.a ≡ true
  pub inner : of a q.d ≡ true
  pub fit : pairs_with k q.d q.a ≡ true

pub pairs_hold : (k : Kind) (d a : Region) → pairs_with k d a ≡ true → holds (choice_of k) d.start a ≡ true
unfolding pairs_with
pairs_hold k d a h = of_T _ (and_left (holds (choice_of k) d.start a) _ (T_of h))

pub joined_joins : (X Y : Set) (a : ℕ) (k : Kind) → All (Joins a k) (joined X Y a k)
unfolding joined pairs_of
joined_joins X Y a k =
    let xs = filter (of a) X.regions in
    let ys = filter (of a) Y.regions in
    all_flat (Joins a k) (pairs_of k xs) ys
    (all_mono {Q = λ d. All (Joins a k) (pairs_of k xs d)}
    (λ d hd.
    all_map (Joins a k) (pair_of d) (filter (pairs_with k d) xs)
    (all_two {R = λ x. Joins a k (pair_of d x)} (λ x hx f. record { outer = hx; inner = hd; fit = f }) (filter (pairs_with k d) xs)
    (all_kept (λ x. of a x ≡ true) (pairs_with k d) xs (all_let (of a) X.regions)) (all_let (pairs_with k d) xs)))
    ys (all_let (of a) Y.regions))

-- ITS ORDER
-- on the two starts: the d's decide, and where they are equal the a's
abbrev pub Lex : ℕ → ℕ → ℕ → ℕ → Type 0
Lex a d b e = (d < e) ⊎ ((d ≡ e) × (a < b))

pub later_says : (a d : ℕ) (q : Pair) → Says (later a d q) (Lex a d q.a.start q.d.start)
unfolding later
later_says a d q = or_says (lt_says d q.d.start) (and_says (eq_says d q.d.start) (lt_says a q.a.start))

lex_trans : (a d b e c f : ℕ) → Lex a d b e → Lex b e c f → Lex a d c f
lex_trans a d b e c f (inl h) (inl k) = inl (omega arith)
lex_trans a d b e c f (inl h) (inr k) = inl (omega arith)
lex_trans a d b e c f (inr h) (inl k) = inl (omega arith)
lex_trans a d b e c f (inr h) (inr k) = inr (omega arith)

lex_apart : (a d b e : ℕ) → Lex a d b e → (a ≡ b) × (d ≡ e) → ⊥
lex_apart a d b e (inl h) s = omega arith
lex_apart a d b e (inr h) s = omega arith

-- later than what is later
pub later_trans : (a d : ℕ) (q r : Pair) → later a d q ≡ true → Then q r → later a d r ≡ true
later_trans a d q r h k = so_true (later_says a d r) (lex_trans _ _ _ _ _ _ (true_so (later_says a d q) h) (true_so (later_says q.a.start q.d.start r) k))

pub then_apart : (p q : Pair) → Then p q → (p.a.start ≡ q.a.start) × (p.d.start ≡ q.d.start) → ⊥
then_apart p q h = lex_apart _ _ _ _ (true_so (later_says p.a.start p.d.start q) h)

-- not both ways
pub then_not : (p q : Pair) → Then p q → later q.a.start q.d.start p ≡ false
then_not p q h = off_t _ (λ t. then_apart p p (later_trans _ _ q p h (of_T _ t)) (refl, refl))

of_one : (d : Region) (xs : List Region) → Rising xs → Ascending (map (pair_of d) xs)
of_one d [] h = tt
of_one d (x ∷ xs) h = (
  all_map (Then (pair_of d x)) (pair_of d) xs
      (all_mono {Q = λ y. Then (pair_of d x) (pair_of d y)} (λ y l. so_true (later_says x.start d.start (pair_of d y)) (inr (refl, l))) xs h.0),
  of_one d xs h.1,
)

-- d after d: what holds between every two pairs of one d, and from each pair of a d to each of a later one, holds between every two
in_turn : (R : Pair → Pair → Type 0) (k : Kind) (xs ds : List Region) → ((d : Region) → Pairs R (pairs_of k xs d))
    → ((d e x y : Region) → d.start < e.start → R (pair_of d x) (pair_of e y)) → Rising ds → Pairs R (flat_map (pairs_of k xs) ds)
unfolding flat_map pairs_of
in_turn R k xs [] one on g = tt
in_turn R k xs (d ∷ ds) one on g =
    pairs_append R (pairs_of k xs d) (flat_map (pairs_of k xs) ds) (one d) (in_turn R k xs ds one on g.1)
    (all_map (λ p. All (R p) (flat_map (pairs_of k xs) ds)) (pair_of d) (filter (pairs_with k d) xs)
    (all_every (λ x. all_flat (R (pair_of d x)) (pairs_of k xs) ds
    (all_mono {Q = λ e. All (R (pair_of d x)) (pairs_of k xs e)}
    (λ e l. all_map (R (pair_of d x)) (pair_of e) (filter (pairs_with k e) xs) (all_every (λ y. on d e x y l) (filter (pairs_with k e) xs)))
    ds g.0)) (filter (pairs_with k d) xs)))

pub joined_in_turn : (R : Pair → Pair → Type 0) (X Y : Set) (a : ℕ) (k : Kind) → ((d : Region) → Pairs R (pairs_of k (filter (of a) X.regions) d))
    → ((d e x y : Region) → d.start < e.start → R (pair_of d x) (pair_of e y)) → Rising Y.regions → Pairs R (joined X Y a k)
unfolding joined
joined_in_turn R X Y a k one on h =
    in_turn R k (filter (of a) X.regions) (filter (of a) Y.regions) one on (pairs_kept (λ x y. x.start < y.start) (of a) Y.regions h)

-- the pairs of one d ascend with a, those of a later d come later
pub joined_ascends : (X Y : Set) (a : ℕ) (k : Kind) → Rising X.regions → Rising Y.regions → Ascending (joined X Y a k)
unfolding pairs_of
joined_ascends X Y a k g h =
    let xs = filter (of a) X.regions in
    let up = pairs_kept (λ x y. x.start < y.start) (of a) X.regions g in
    joined_in_turn Then X Y a k
    (λ d. of_one d (filter (pairs_with k d) xs) (pairs_kept (λ x y. x.start < y.start) (pairs_with k d) xs up))
    (λ d e x y l. so_true (later_says x.start d.start (pair_of e y)) (inl l)) h

-- each pair of starts stands once
pub ascending_once : (ps : List Pair) → Ascending ps → Pairs (λ p q. (p.a.start ≡ q.a.start) × (p.d.start ≡ q.d.start) → ⊥) ps
ascending_once ps h = pairs_mono (λ p q l. then_apart p q l) ps h

pub ascending_past : (m : Mark) (ps : List Pair) → Ascending ps → Ascending (past m ps)
ascending_past m ps h = pairs_kept Then (is_past m) ps h

pub ascending_take : (n : ℕ) (ps : List Pair) → Ascending ps → Ascending (take n ps)
ascending_take n ps h = pairs_left Then (take n ps) (drop n ps) (rw (take-append-drop n ps) h)

-- MARKS
pub past_fresh : (ps : List Pair) → past Fresh ps ≡ ps
unfolding is_past
past_fresh ps = filter_all (is_past Fresh) ps (all_every (λ q. refl) ps)

-- of an ascending list the last is later than all before it, and none is later than it
none_later : (p : Pair) (ps : List Pair) → Ascending (p ∷ ps) → All (λ q. later (last_or p ps).a.start (last_or p ps).d.start q ≡ false) (p ∷ ps)
unfolding last_or
none_later p [] h = (off_t _ (λ t. then_apart p p (of_T _ t) (refl, refl)), tt)
none_later p (q ∷ qs) h = (then_not p (last_or q qs) (all_end (Then p) q qs h.0), none_later q qs h.1)

-- past the mark behind a beginning stands the rest
pub past_rest : (m : Mark) (p : Pair) (ps qs : List Pair) → Ascending ((p ∷ ps) ++ qs) → past (mark_behind m (p ∷ ps)) ((p ∷ ps) ++ qs) ≡ qs
unfolding mark_behind is_past
past_rest m p ps qs h =
    let f = is_past (mark_behind m (p ∷ ps)) in
    filter_append f (p ∷ ps) qs
    ∙ ap₂ ◌++◌ (filter_none f (p ∷ ps) (none_later p ps (pairs_left Then (p ∷ ps) qs h)))
    (filter_all f qs (all_end (λ q. All (Then q) qs) p ps (pairs_across Then (p ∷ ps) qs h)))

-- what is past a mark is a rest of an ascending list
pub past_drop : (m : Mark) (ps : List Pair) → Ascending ps → (n : ℕ) × (past m ps ≡ drop n ps)
unfolding filter is_past
past_drop Fresh ps h = (0, past_fresh ps)
past_drop (Last a d) ps h = go ps h
  where
    go : (ps : List Pair) → Ascending ps → (n : ℕ) × (past (Last a d) ps ≡ drop n ps)
    go [] h = (0, refl)
    go (p ∷ ps) h =
        by_test (later a d p)
        (λ e. (0, filter_all (is_past (Last a d)) (p ∷ ps) (e, all_mono (λ q l. later_trans a d p q e l) ps h.0)))
        (λ e. let r = go ps h.1 in (suc r.0, filter_no (is_past (Last a d)) p ps e ∙ r.1))

-- the mark behind a row of pairs reads only its last
mark_last : (m n : Mark) (us : List Pair) (p : Pair) (ps : List Pair) → mark_behind m (us ++ p ∷ ps) ≡ mark_behind n (p ∷ ps)
unfolding mark_behind
mark_last m n [] p ps = refl
mark_last m n (u ∷ us) p ps = ap (λ (q : Pair). Last q.a.start q.d.start) (last_append u us p ps)

pub mark_twice : (m : Mark) (ps qs : List Pair) → mark_behind (mark_behind m ps) qs ≡ mark_behind m (ps ++ qs)
unfolding mark_behind
mark_twice m ps [] = ap (mark_behind m) (sym (append-nil ps))
mark_twice m ps (q ∷ qs) = sym (mark_last m (mark_behind m ps) ps q qs)

past_behind : (m : Mark) (us : List Pair) (p : Pair) (ps qs : List Pair) → Ascending ((us ++ p ∷ ps) ++ qs) → past (mark_behind m (p ∷ ps)) ((us ++ p ∷ ps) ++ qs) ≡ qs
past_behind m [] p ps qs h = past_rest m p ps qs h
past_behind m (u ∷ us) p ps qs h = ap (λ k. past k (((u ∷ us) ++ p ∷ ps) ++ qs)) (sym (mark_last m m (u ∷ us) p ps)) ∙ past_rest m u (us ++ p ∷ ps) qs h

-- a turn: of what is past a mark the first n are handed, and past the new mark stand those behind them
pub past_next : (m : Mark) (n : ℕ) (ps : List Pair) → Ascending ps → past (mark_behind m (take n (past m ps))) ps ≡ drop n (past m ps)
unfolding mark_behind
past_next m n ps h = go (take n (past m ps)) refl (past_drop m ps h)
  where
    go : (t : List Pair) → take n (past m ps) ≡ t → (j : ℕ) × (past m ps ≡ drop j ps) → past (mark_behind m t) ps ≡ drop n (past m ps)
    go [] e s = sym (take-append-drop n (past m ps)) ∙ ap (λ l. l ++ drop n (past m ps)) e
    go (p ∷ t) e s =
        let z : (take s.0 ps ++ p ∷ t) ++ drop n (past m ps) ≡ ps =
        append_assoc (take s.0 ps) (p ∷ t) (drop n (past m ps))
        ∙ ap (λ l. take s.0 ps ++ l) (ap (λ l. l ++ drop n (past m ps)) (sym e) ∙ take-append-drop n (past m ps) ∙ s.1)
        ∙ take-append-drop s.0 ps in
        ap (past (mark_behind m (p ∷ t))) (sym z)
        ∙ past_behind m (take s.0 ps) p t (drop n (past m ps)) (subst (λ (l : List Pair). Ascending l) (sym z) h)

-- a mark behind pairs of an account fits it
pub mark_fits_lem : (a : ℕ) (k : Kind) (m : Mark) (ps : List Pair) → mark_fits a m ≡ true → All (Joins a k) ps → mark_fits a (mark_behind m ps) ≡ true
unfolding mark_behind mark_fits
mark_fits_lem a k m [] h j = h
mark_fits_lem a k m (p ∷ ps) h j =
    let e = all_end (Joins a k) p ps j in
    rw (eq_yes _ _ (true_so (of_says a (last_or p ps).a) e.outer), eq_yes _ _ (true_so (of_says a (last_or p ps).d) e.inner))
