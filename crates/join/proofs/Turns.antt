-- The join's loop: its start, a turn, and each way out.
-- Assumes nothing.
use Prim.Native.Nat.{ℕ, suc, ◌+◌, ◌*◌, ◌/◌, ◌<◌, ◌≤◌, min}
use mathlib.Core.Path.{◌≡◌, refl, sym, ap, ◌∙◌, subst}
use mathlib.Core.Bool.{Bool, true, false, cond, ◌||◌, false≢true}
use mathlib.Core.List.{List, [], ◌∷◌, ◌++◌, flat_map}
use lib.Dec.{ltb}
use lib.ListN.{length}
use native.Mathlib.Omega.{arith}
use Rattle.std.specs.declared.option.Option.{Option}
use Rattle.std.specs.declared.option.Option.TheVariants.{None, Some}
use Rattle.words.specs.Lists.{filter, All}
use Rattle.words.proofs.Tests.{by_test, nlt_of}
use Rattle.words.proofs.Listed.{all_kept}
use Rattle.words.proofs.Says.{true_so}
use Rattle.words.proofs.Counted.{filter_short}
use Rattle.regions.specs.Positions.{account, holds, too_late, lowest}
use Rattle.regions.specs.Sets.{of, starts_from}
use Rattle.regions.specs.Calls.{Pair, room, written, count_written, choice_of, pairs_of, joined, pair_words}
use Rattle.regions.specs.Desk.{past}
use Rattle.regions.specs.declared.Region.{Region}
use Rattle.regions.specs.declared.Kind.{Kind}
use Rattle.regions.specs.declared.Mark.{Mark}
use Rattle.regions.specs.Sound.{Wf, Rising, Sound}
use Rattle.regions.proofs.Means.{formed_says, late_near, late_grows}
use Rattle.regions.proofs.Fits.{count_is}
use Rattle.image.specs.Read.{set_of}
use Rattle.answers.specs.Items.{written_from}
use Rattle.answers.proofs.Items.{from_none, from_full, from_first}
use Rattle.pairing.specs.Pairs.{counted, PairedUp}
use Rattle.stack.specs.Stacks.{stacked}
use Rattle.stack.proofs.Stacks.{upto_holds, First, first_from}
use Rattle.stack.proofs.Stacked.{stacked_long}
use Rattle.stack.proofs.Pairs.{paired_long, paired_whole}
use Rattle.leaves.specs.declared.Entry.{Entry}
use Rattle.leaves.specs.declared.Cursor.{Cursor}
use Rattle.leaves.specs.Cursors.{left, step_from, start_faced}
use Rattle.leaves.specs.Faces.{Faces}
use Rattle.leaves.proofs.Faces.{never, Onward, faces_on, faces_end, faces_long}
use Rattle.follow.specs.declared.Stack.{Stack}
use Rattle.follow.specs.Places.{Placed, Behind}
use Rattle.follow.proofs.Moves.{placed_behind, behind_later, placed_few}
use Rattle.skips.specs.Joins.{first_position, own_step, first_held, Moved}
use Rattle.skips.proofs.Ways.{held_far, clear_next}
use Rattle.join.specs.Joins.{Joined}
use Rattle.join.proofs.Moves.{placed_pairs}
use Rattle.join.proofs.Ahead.{from_fewer, position_low, pairs_at, pairs_from, pairs_own, ahead_skip, ahead_own, ahead_other, ahead_none, ahead_all}
use Rattle.join.proofs.Ways.{foreign_end, clear_same}

-- STEPS: what a step of the account says of the cursor's own
pub own_next : (a : ℕ) (s : Option (Entry × Cursor)) (e : Entry) (on : Cursor) → own_step a s ≡ Some (e, on) → (s ≡ Some (e, on)) × (of a e.region ≡ true)
unfolding own_step
own_next a None e on p = absurd (never None e on refl p)
own_next a (Some (x, c)) e on p =
    by_test (of a x.region)
    (λ h.
    let q : Some (x, c) ≡ Some (e, on) = rw h at p in
    let t : ◌≡◌ {A = Entry × Cursor} (x, c) (e, on) = cc in
    let r : x ≡ e = ap (λ u. u.0) t in
    (q, subst (λ (y : Entry). of a y.region ≡ true) r h))
    (λ h. absurd (never None e on refl (rw h at p)))

-- the end, or a region of another account
other : {A : Type 0} (a : ℕ) (s : Option (Entry × Cursor)) → own_step a s ≡ None → (s ≡ None → A) → ((e : Entry) (on : Cursor) → s ≡ Some (e, on) → of a e.region ≡ false → A) → A
unfolding own_step
other a None p f g = f refl
other a (Some (x, c)) p f g = by_test (of a x.region) (λ h. absurd (never None x c refl (sym (rw h at p)))) (λ h. g x c refl h)

-- no step of the account, from its first position on or later: no pair is ahead
none_ahead : (w v : List ℕ) (a : ℕ) (k : Kind) (m : Mark) (c : Cursor) (y : ℕ) → Rising (set_of v).regions → lowest a ≤ y → Faces v c (filter (starts_from y) (set_of v).regions)
    → own_step a (step_from v c) ≡ None → pairs_from (set_of w).regions a k m (set_of v).regions y ≡ []
none_ahead w v a k m c y up low f s =
    let rs = (set_of w).regions in
    let ds = (set_of v).regions in
    other a (step_from v c) s (λ e. ahead_none rs a k m ds y (faces_end v c _ f e))
    (λ e on p h.
    let o = faces_on v c _ e on f p in
    ahead_other rs a k m ds y e.region o.rest low (first_from ds y e.region o.rest up o.is) o.is h)

-- NOTHING TO JOIN: the start faced, from the first position on, is of another account
pub join_none : (w v : List ℕ) (a : ℕ) (k : Kind) (m : Mark) (all : Bool) (out : List ℕ) (c : Cursor) (y b s : ℕ) → Rising (set_of v).regions → y ≡ first_position a m
    → Faces v c (filter (starts_from y) (set_of v).regions) → s ≡ start_faced (step_from v c) → b ≡ account s → (b ≡ a → ⊥) → Joined (past m (joined (set_of w) (set_of v) a k)) all out out 0
join_none w v a k m all out c y b s up e f g h n =
    let first : own_step a (step_from v c) ≡ None = foreign_end a (step_from v c) (λ q. n (h ∙ ap account g ∙ q)) in
    let none : past m (joined (set_of w) (set_of v) a k) ≡ [] =
    sym (ahead_all (set_of w) (set_of v) a k m) ∙ none_ahead w v a k m c (first_position a m) up (position_low a m) (rw e at f) first in
    rw none
    (record { words = sym (from_none pair_words 4 0 out) ∙ from_first pair_words 4 out []; total = nothing all ∙ ap (λ i. cond all 0 i) (sym (count_is 4 out [])) })
  where
    nothing : (b : Bool) → 0 ≡ cond b 0 (min (room 4 out) 0)
    nothing true = refl
    nothing false = omega arith

-- THE LOOP: what was written, with the pairs of the d's that are ahead, is all; what is counted too; the sums stay small; and the stack is at a place that is not behind them
pub record Joining (w v : List ℕ) (a : ℕ) (k : Kind) (m : Mark) (all : Bool) (out₀ : List ℕ) (c : Cursor) (held : List ℕ) (t : Stack) (out : List ℕ) (n : ℕ) : Type 0 where
  pub at : ℕ
  pub low : lowest a ≤ at
  pub faces : Faces v c (filter (starts_from at) (set_of v).regions)
  pub long : length out ≡ length out₀
  pub words : written_from pair_words 4 n out (pairs_from (set_of w).regions a k m (set_of v).regions at) ≡ written pair_words 4 out₀ (past m (joined (set_of w) (set_of v) a k))
  pub total : counted all out₀ (n + length (pairs_from (set_of w).regions a k m (set_of v).regions at)) ≡ counted all out₀ (length (past m (joined (set_of w) (set_of v) a k)))
  pub few_total : n + 500 * length (filter (starts_from at) (set_of v).regions) ≤ 250000
  pub stack : Behind w (too_late (choice_of k) at) at held t

-- it begins at the start that the cursor faces
pub start_low : (v : List ℕ) (a : ℕ) (m : Mark) (c : Cursor) (p : ℕ) → first_position a m < 4294967296 → Rising (set_of v).regions → Faces v c (filter (starts_from (first_position a m)) (set_of v).regions)
    → p ≡ start_faced (step_from v c) → lowest a ≤ p
start_low v a m c p l up f e = omega (arith, position_low a m, (clear_next v (first_position a m) p c l up f e).far)

pub join_start : (w v : List ℕ) (a : ℕ) (k : Kind) (m : Mark) (all : Bool) (out : List ℕ) (c : Cursor) (held : List ℕ) (t : Stack) (n p : ℕ) → first_position a m < 4294967296
    → Rising (set_of v).regions → Faces v c (filter (starts_from (first_position a m)) (set_of v).regions) → p ≡ start_faced (step_from v c) → Behind w (too_late (choice_of k) p) p held t → n ≡ 0
    → length (set_of v).regions ≤ 500 → Joining w v a k m all out c held t out n
join_start w v a k m all out c held t n p l up f e b z h =
    let y = first_position a m in
    let same : filter (starts_from y) (set_of v).regions ≡ filter (starts_from p) (set_of v).regions = clear_same (clear_next v y p c l up f e) in
    let ahead = pairs_from (set_of w).regions a k m (set_of v).regions in
    let is : ahead p ≡ past m (joined (set_of w) (set_of v) a k) =
    ap (λ ds. flat_map (pairs_at (set_of w).regions a k m) (filter (of a) ds)) (sym same) ∙ ahead_all (set_of w) (set_of v) a k m in
    let short = filter_short (starts_from p) (set_of v).regions in
    rw z
    (record {
      at = p;
      low = start_low v a m c p l up f e;
      faces = rw same at f;
      long = refl;
      words = from_first pair_words 4 out (ahead p) ∙ ap (written pair_words 4 out) is;
      total = ap (counted all out) (omega (arith, ap length is));
      few_total = omega arith;
      stack = b;
    })

module _ {w v : List ℕ} {a : ℕ} {k : Kind} {m : Mark} {all : Bool} {out₀ : List ℕ} {c : Cursor} {held : List ℕ} {t : Stack} {out : List ℕ} {n : ℕ} (j : Joining w v a k m all out₀ c held t out n) (up : Rising (set_of v).regions) where
  abbrev goal : List Pair
  goal = past m (joined (set_of w) (set_of v) a k)

  abbrev ahead : ℕ → List Pair
  ahead y = pairs_from (set_of w).regions a k m (set_of v).regions y

  -- what is told is what is counted
  told_is : (r i : ℕ) → r ≡ counted all out₀ i → counted all out₀ i ≡ counted all out₀ (length goal) → r ≡ cond all (length goal) (count_written 4 out₀ goal)
  told_is r i e f = e ∙ f ∙ ap (λ x. cond all (length goal) x) (sym (count_is 4 out₀ goal))

  -- THE END: no d of the account is left
  pub join_end : (r : ℕ) → own_step a (step_from v c) ≡ None → r ≡ cond all n (min (room 4 out₀) n) → Joined goal all out₀ out r
  join_end r s e =
      let z : ahead j.at ≡ [] = none_ahead w v a k m c j.at up j.low j.faces s in
      let same : n ≡ n + length (ahead j.at) = omega (arith, ap length z) in
      record {
        words = sym (from_none pair_words 4 n out) ∙ ap (written_from pair_words 4 n out) (sym z) ∙ j.words;
        total = told_is r n e (ap (counted all out₀) same ∙ j.total);
      }

  -- THE SLICE IS FULL, and no more are asked for
  pub join_full : (more : Bool) (r : ℕ) → more ≡ (all || ltb n (room 4 out₀)) → more ≡ false → r ≡ cond all n (min (room 4 out₀) n) → Joined goal all out₀ out r
  join_full more r f h e =
      let l : (all ≡ false) × (room 4 out₀ ≤ n) = full all (sym f ∙ h) in
      let s : room 4 out ≡ room 4 out₀ = omega (arith, j.long) in
      record {
        words = sym (from_full pair_words 4 n out (ahead j.at) (omega arith)) ∙ j.words;
        total = told_is r n e (both l.0 l.1 ∙ j.total);
      }
    where
      full : (b : Bool) → (b || ltb n (room 4 out₀)) ≡ false → (b ≡ false) × (room 4 out₀ ≤ n)
      full true p = absurd (false≢true (sym p))
      full false p = (refl, nlt_of n (room 4 out₀) p)

      both : all ≡ false → room 4 out₀ ≤ n → counted all out₀ n ≡ counted all out₀ (n + length (ahead j.at))
      both p l = rw p (omega arith)

  -- A TURN: to d, where the stack has its place
  module _ (e : Entry) (on : Cursor) (s : own_step a (step_from v c) ≡ Some (e, on)) where
    on_from : Onward v (filter (starts_from j.at) (set_of v).regions) e on
    on_from = faces_on v c _ e on j.faces (own_next a (step_from v c) e on s).0

    first : First (set_of v).regions j.at e.region on_from.rest
    first = first_from (set_of v).regions j.at e.region on_from.rest up on_from.is

    pub join_behind : Behind w (too_late (choice_of k) e.region.start) e.region.start held t
    join_behind = behind_later (late_grows (choice_of k) j.at e.region.start first.low) first.low j.stack

    pub join_onward : Faces v on (filter (starts_from (suc e.region.start)) (set_of v).regions)
    join_onward = subst (λ (l : List Region). Faces v on l) first.others on_from.faces

    -- no region starts at the last position of all, since it has to end behind it
    pub join_inside : All Wf (set_of v).regions → All (λ (r : Region). r.start < 4294967296) (set_of v).regions → suc e.region.start < 4294967296
    join_inside f l =
        let formed = true_so (formed_says e.region) (met Wf f) in
        omega (arith, formed.order, formed.in_one, met (λ (r : Region). r.start < 4294967296) l)
      where
        met : (P : Region → Type 0) → All P (set_of v).regions → P e.region
        met P h = (subst (λ (l : List Region). All P l) on_from.is (all_kept P (starts_from j.at) (set_of v).regions h)).0

  pub join_small : n ≤ 250000
  join_small = omega (arith, j.few_total)

  -- and its pairs, and on
  module _ (e : Entry) (on : Cursor) (s : own_step a (step_from v c) ≡ Some (e, on)) (held' : List ℕ) (t' : Stack) (out' : List ℕ) (n' : ℕ) (r : Cursor)
      (p : Placed w (too_late (choice_of k) e.region.start) e.region.start held' t') (g : PairedUp (stacked held' t'.n) k m e.region all out n out' n')
      (go : Moved (choice_of k) (set_of w).regions v e.region.start on (ltb 0 t'.n) r) where
    -- where the next d is looked for
    pub record Looked : Type 0 where
      pub at : ℕ
      pub far : e.region.start < at
      pub faces : Faces v r (filter (starts_from at) (set_of v).regions)
      pub same : ahead (suc e.region.start) ≡ ahead at

    none_met : ltb 0 t'.n ≡ false → filter (holds (choice_of k) e.region.start) (set_of w).regions ≡ []
    none_met h =
        sym (p.stack ∙ upto_holds (choice_of k) e.region.start (set_of w).regions) ∙ empty (stacked held' t'.n) (omega (arith, stacked_long held' t'.n, nlt_of 0 t'.n h))
      where
        empty : (xs : List Region) → length xs ≡ 0 → xs ≡ []
        empty [] z = refl
        empty (x ∷ xs) z = absurd (omega arith)

    next : Looked
    next =
        by_test (ltb 0 t'.n)
        (λ h. record {
          at = suc e.region.start;
          far = omega arith;
          faces = rw (go.kept h) (join_onward e on s);
          same = refl;
        })
        (λ h.
        let k' = go.skipped h in
        record {
          at = first_held (choice_of k) k'.reach;
          far = held_far (choice_of k) e.region.start k'.reach k'.clear.far;
          faces = k'.faces;
          same = ahead_skip (set_of w).regions a k m (set_of v).regions e.region.start k'.reach (none_met h) k'.clear;
        })

    fewer : suc (length (filter (starts_from next.at) (set_of v).regions)) ≤ length (filter (starts_from j.at) (set_of v).regions)
    fewer =
        omega (arith, ap length (on_from e on s).is, ap length (first e on s).others, from_fewer (suc e.region.start) next.at (set_of v).regions next.far)

    pub join_less : length (left v r) < length (left v c)
    join_less = omega (arith, faces_long v next.faces, faces_long v j.faces, fewer)

    pub join_on : Sound (set_of w) → Joining w v a k m all out₀ r held' t' out' n'
    join_on x =
        let d = e.region in
        let h = (own_next a (step_from v c) e on s).1 in
        let is = first e on s in
        let qs = past m (pairs_of k (set_of w).regions d) in
        let split : ahead j.at ≡ qs ++ ahead next.at =
        ahead_own (set_of w).regions a k m (set_of v).regions j.at d (on_from e on s).rest is (on_from e on s).is h
        ∙ ap (λ l. l ++ ahead (suc d.start)) (pairs_own (set_of w).regions a k m d h x.formed) ∙ ap (λ l. qs ++ l) next.same in
        let both = paired_whole g qs (placed_pairs w held' t' k m d p) (ahead next.at) in
        let alike : ((i : ℕ) → counted all out₀ i ≡ counted all out i) = (λ i. ap (λ l. cond all i (min (l / 4) i)) (sym j.long)) in
        record {
          at = next.at;
          low = omega (arith, j.low, is.low, next.far);
          faces = next.faces;
          long = paired_long g ∙ j.long;
          words = both.0 ∙ ap (written_from pair_words 4 n out) (sym split) ∙ j.words;
          total =
              alike (n' + length (ahead next.at)) ∙ both.1 ∙ sym (alike (n + length (qs ++ ahead next.at)))
              ∙ ap (λ (l : List Pair). counted all out₀ (n + length l)) (sym split) ∙ j.total;
          few_total = omega (arith, g.few, stacked_long held' t'.n, placed_few (late_near (choice_of k) e.region.start).1 p x, j.few_total, fewer);
          stack =
              behind_later (late_grows (choice_of k) d.start next.at (omega (arith, next.far))) (omega (arith, next.far))
              (placed_behind (late_near (choice_of k) d.start).1 p);
        }
