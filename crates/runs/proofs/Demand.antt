-- Demands 2 and 3, of every run of the public calls from two sets and a desk just opened: both images are valid and hold exactly what the history says;
-- (a) when a save is accepted, (b) what a round hands a seat, (c) that leaving out one account's calls changes no other answer.
-- Assumes nothing.
use Prim.Native.Nat.{ℕ, ◌+◌, ◌*◌, ◌<◌, ◌≤◌}
use mathlib.Core.Path.{◌≡◌}
use mathlib.Core.Logic.{◌↔◌}
use mathlib.Core.Bool.{Bool, true, false}
use mathlib.Core.List.{List, [], ◌++◌}
use lib.ListN.{length, drop, get_or}
use Rattle.words.specs.Lists.{filter, In}
use Rattle.words.proofs.Tests.{T_of}
use Rattle.regions.specs.declared.Region.{Region}
use Rattle.regions.specs.declared.Choice.{Choice}
use Rattle.regions.specs.declared.Choice.TheVariants.{Strict, WithSelf}
use Rattle.regions.specs.declared.Kind.{Kind}
use Rattle.regions.specs.declared.Open.{Open}
use Rattle.regions.specs.Positions.{account, well_formed}
use Rattle.regions.specs.Sets.{Set, is_at, only, held_at, crossed, contradicted, held_by}
use Rattle.regions.specs.Calls.{ancestors, parent, Pair, joined}
use Rattle.regions.specs.Desk.{limit_asked}
use Rattle.regions.specs.Sound.{Sound, LevelsDiffer, Ascending, OneParentEach, EachWithItself}
use Rattle.image.specs.Read.{set_of as setIn}
use Rattle.image.proofs.Sound.{valid_with_self, valid_with_itself, valid_levels_differ, valid_parent_one, valid_one_parent_each}
use Rattle.plainruns.specs.Calls.{Which, shares_given, Fair, Call, Shown, Answer, Step, Done, calls_of, share_given, by_account, left_out, Same, Agree, left, Served, Passed, next}
use Rattle.plainruns.specs.Calls.Which.{outer, inner}
use Rattle.plainruns.specs.Calls.Call.{save, round, open_seat}
use Rattle.plainruns.specs.Held.{held_from, Stands, wrote_from}
use Rattle.plainruns.specs.Long.{Kept}
use Rattle.plainruns.proofs.Good.{good_reached, good_next, never}
use Rattle.plainruns.proofs.Demand.{theorem_a, theorem_b, theorem_b_rest, theorem_c, theorem_c_whole}
use Rattle.plainruns.proofs.Held.{held_at_lem, theorem_held, theorem_sound, theorem_few, theorem_wrote}
use Rattle.plainruns.proofs.LongRun.{stored}
use Rattle.runs.specs.Calls.{Lent, image_of, Valid, Does, Runs, Ready, meaning, unwritten, RoundHands, HandsUpTo}
use Rattle.runs.specs.Calls.Runs.{go}
use Rattle.runs.proofs.Batched.{runs_on}
use Rattle.runs.proofs.Meaning.{means, means_runs, begins, always_valid, meant}

-- DEMAND 2: both images are valid, and mean exactly the regions whose last accepted save or delete is their save, with the shares given
pub demand_valid : (so si : List ℕ) {l m : Lent} {ds : List Done} → Ready so si l → Runs l ds m → Valid m
demand_valid so si r run = always_valid so si r run

pub demand_held : (so si : List ℕ) {l m : Lent} {ds : List Done} → Ready so si l → Runs l ds m → (w : Which) (r : Region)
    → In r (setIn (image_of w m)).regions ↔ Stands w r ds
demand_held so si {l = l} r run outer q = theorem_held so si (begins so si l r).0 (meant so si r run).1 outer q
demand_held so si {l = l} r run inner q = theorem_held so si (begins so si l r).0 (meant so si r run).1 inner q

pub demand_at : (so si : List ℕ) {l m : Lent} {ds : List Done} → Ready so si l → Runs l ds m → (w : Which) (p : ℕ)
    → filter (is_at p) (setIn (image_of w m)).regions ≡ held_from w p [] ds
demand_at so si {l = l} r run outer p = held_at_lem so si (begins so si l r).0 (meant so si r run).1 outer p
demand_at so si {l = l} r run inner p = held_at_lem so si (begins so si l r).0 (meant so si r run).1 inner p

pub demand_shares : (so si : List ℕ) {l m : Lent} {ds : List Done} → Ready so si l → Runs l ds m → (w : Which) → (setIn (image_of w m)).shares ≡ shares_given so si w
demand_shares so si {l = l} r run outer = (good_reached so si (begins so si l r).0 (meant so si r run).1).outer_good.given
demand_shares so si {l = l} r run inner = (good_reached so si (begins so si l r).0 (meant so si r run).1).inner_good.given

pub demand_sound : (so si : List ℕ) {l m : Lent} {ds : List Done} → Ready so si l → Runs l ds m → (w : Which) → Sound (setIn (image_of w m))
demand_sound so si {l = l} r run outer = theorem_sound so si (begins so si l r).0 (meant so si r run).1 outer
demand_sound so si {l = l} r run inner = theorem_sound so si (begins so si l r).0 (meant so si r run).1 inner

pub demand_few : (so si : List ℕ) {l m : Lent} {ds : List Done} → Ready so si l → Runs l ds m → (w : Which) → length (setIn (image_of w m)).regions ≤ 500
demand_few so si {l = l} r run outer = theorem_few so si (begins so si l r).0 (meant so si r run).1 outer
demand_few so si {l = l} r run inner = theorem_few so si (begins so si l r).0 (meant so si r run).1 inner

-- WITH SELF (change request C-17): what it lists of a position is what is listed strictly, and behind it the region that starts there, if there is one; and a set joined with itself
-- has each region paired with itself
pub demand_with_self : (so si : List ℕ) {l m : Lent} {ds : List Done} → Ready so si l → Runs l ds m → (w : Which) (p : ℕ)
    → ancestors WithSelf p (setIn (image_of w m)) ≡ ancestors Strict p (setIn (image_of w m)) ++ filter (is_at p) (setIn (image_of w m)).regions
demand_with_self so si {m = m} r run w p = valid_with_self (image_of w m) (T_of (demand_valid so si r run w)) p

pub demand_with_itself : (so si : List ℕ) {l m : Lent} {ds : List Done} → Ready so si l → Runs l ds m → (w : Which) (a : ℕ) → EachWithItself (setIn (image_of w m)) a
demand_with_itself so si {m = m} r run w a = valid_with_itself (image_of w m) (T_of (demand_valid so si r run w)) a

-- BY LEVELS (change request C-16): no two ancestors of a position have the same, so that a position and a level have at most one parent, and a join by parent and child
-- (a seat's list of that kind is such a join's) pairs no inner region twice
pub demand_levels_differ : (so si : List ℕ) {l m : Lent} {ds : List Done} → Ready so si l → Runs l ds m → (w : Which) (ch : Choice) (p : ℕ) → LevelsDiffer (ancestors ch p (setIn (image_of w m)))
demand_levels_differ so si {m = m} r run w ch p = valid_levels_differ (image_of w m) (T_of (demand_valid so si r run w)) ch p

pub demand_parent_one : (so si : List ℕ) {l m : Lent} {ds : List Done} → Ready so si l → Runs l ds m → (w : Which) (p v : ℕ) → length (parent p v (setIn (image_of w m))) ≤ 1
demand_parent_one so si {m = m} r run w p v = valid_parent_one (image_of w m) (T_of (demand_valid so si r run w)) p v

pub demand_one_parent_each : (so si : List ℕ) {l m : Lent} {ds : List Done} → Ready so si l → Runs l ds m → (x y : Which) (a : ℕ)
    → OneParentEach (setIn (image_of x m)) (setIn (image_of y m)) a
demand_one_parent_each so si {m = m} r run x y a =
    valid_one_parent_each (image_of x m) (image_of y m) (T_of (demand_valid so si r run x)) (T_of (demand_valid so si r run y)) a

-- the last call of a run, over sets
last_step : (so si : List ℕ) {l₀ l m : Lent} {ds : List Done} {c : Call} {x : Answer} (r : Ready so si l₀) (run : Runs l₀ ds l) → Does l c x m
    → Step (meaning l (meant so si r run).0) c x (meaning m (next c (meaning l (meant so si r run).0)).wrote)
last_step so si {l₀ = l₀} r run st =
    (means so si (meant so si r run).0 st (good_reached so si (begins so si l₀ r).0 (meant so si r run).1) (always_valid so si r run)).0

-- no call of a run is answered IMAGE or DESK
pub demand_fair : (so si : List ℕ) {l₀ l m : Lent} {ds : List Done} (c : Call) {x : Answer} → Ready so si l₀ → Runs l₀ ds l → Does l c x m → Fair x.shown.number
demand_fair so si {l₀ = l₀} c r run st = never so si c (begins so si l₀ r).0 (meant so si r run).1 (last_step so si r run st)

-- DEMAND 3 (a)
pub demand_a : (so si : List ℕ) {l₀ l m : Lent} {ds : List Done} {x : Answer} → Ready so si l₀ → Runs l₀ ds l
    → (w : Which) (a : ℕ) (q : Region) → Does l (save w a q) x m
    → well_formed q ≡ true → q.start < 4294967296 → account q.start ≡ a → held_at q.start (setIn (image_of w l)) ≡ false → crossed q (only a (setIn (image_of w l))) ≡ false
    → contradicted q (only a (setIn (image_of w l))) ≡ false
    → (x.shown.number ≡ 0) ↔ (held_by a (setIn (image_of w l)) < share_given so si w a)
demand_a so si {l₀ = l₀} r run outer a q st = theorem_a so si (begins so si l₀ r).0 (meant so si r run).1 outer a q (last_step so si r run st)
demand_a so si {l₀ = l₀} r run inner a q st = theorem_a so si (begins so si l₀ r).0 (meant so si r run).1 inner a q (last_step so si r run st)

-- (b); what a round hands reads no notes
served_lent : {X Y : Set} (l m : Lent) {n n' : List Bool} {z : Shown} {i : ℕ} {o : Open} {k : ℕ} {qs : List Pair}
    → Served X Y (meaning l n) (meaning m n') z i o k qs → Served X Y (meaning l unwritten) (meaning m unwritten) z i o k qs
served_lent l m s =
    record {
      many = s.many;
      next_ones = s.next_ones;
      handed_count = s.handed_count;
      told_count = s.told_count;
      told = s.told;
      told_long = s.told_long;
      lies = s.lies;
      rest = s.rest;
      seat_then = s.seat_then;
    }

passed_lent : (l m : Lent) {n n' : List Bool} {z : Shown} {i : ℕ} → Passed (meaning l n) (meaning m n') z i → Passed (meaning l unwritten) (meaning m unwritten) z i
passed_lent l m s = record { told_count = s.told_count; told = s.told; rest = s.rest; seat_then = s.seat_then }

pub demand_b : (so si : List ℕ) {l₀ l m : Lent} {ds : List Done} {z : Answer} → Ready so si l₀ → Runs l₀ ds l → (x y : Which) → Does l (round x y) z m
    → RoundHands (setIn (image_of x l)) (setIn (image_of y l)) l m z.shown
demand_b so si {l₀ = l₀} {l = l} {m = m} r run outer outer st =
    let t = theorem_b so si (begins so si l₀ r).0 (meant so si r run).1 outer outer (last_step so si r run st) in
    (t.0, t.1, (λ i o h e. served_lent l m (t.2 i o h e)), (λ i h e. passed_lent l m (t.3 i h e)))
demand_b so si {l₀ = l₀} {l = l} {m = m} r run outer inner st =
    let t = theorem_b so si (begins so si l₀ r).0 (meant so si r run).1 outer inner (last_step so si r run st) in
    (t.0, t.1, (λ i o h e. served_lent l m (t.2 i o h e)), (λ i h e. passed_lent l m (t.3 i h e)))
demand_b so si {l₀ = l₀} {l = l} {m = m} r run inner outer st =
    let t = theorem_b so si (begins so si l₀ r).0 (meant so si r run).1 inner outer (last_step so si r run st) in
    (t.0, t.1, (λ i o h e. served_lent l m (t.2 i o h e)), (λ i h e. passed_lent l m (t.3 i h e)))
demand_b so si {l₀ = l₀} {l = l} {m = m} r run inner inner st =
    let t = theorem_b so si (begins so si l₀ r).0 (meant so si r run).1 inner inner (last_step so si r run st) in
    (t.0, t.1, (λ i o h e. served_lent l m (t.2 i o h e)), (λ i h e. passed_lent l m (t.3 i h e)))

-- (c) of two whole runs, call by call
pub demand_c : (A : ℕ) (so si : List ℕ) {l m l' m' : Lent} {ds es : List Done} → Ready so si l → Runs l ds m → Ready so si l' → Runs l' es m'
    → left_out A (calls_of ds) ≡ calls_of es → Agree A (meaning l unwritten) ds es
demand_c A so si {l = l} {l' = l'} r run r' run' e =
    theorem_c_whole A so si (begins so si l r).0 (meant so si r run).1 (begins so si l' r').0 (meant so si r' run').1 e

-- and of one call behind two such runs; the notes beside the first are what its history says
pub demand_c_at : (A : ℕ) (so si : List ℕ) {l₀ l m l₀' l' m' : Lent} {ds es : List Done} {x x' : Answer} → Ready so si l₀ → Runs l₀ ds l → Ready so si l₀' → Runs l₀' es l'
    → left_out A (calls_of ds) ≡ calls_of es → (c : Call) → by_account A c ≡ false → Does l c x m → Does l' c x' m'
    → (notes : List Bool) × ((i k : ℕ) → i < 8 → k < 128 → get_or notes (128 * i + k) false ≡ wrote_from i k false ds) × Same A (meaning l notes) c x.shown x'.shown
demand_c_at A so si {l₀ = l₀} {l₀' = l₀'} r run r' run' e c h st st' = (
  (meant so si r run).0,
  theorem_wrote so si (begins so si l₀ r).0 (meant so si r run).1,
  theorem_c A so si (begins so si l₀ r).0 (meant so si r run).1 (begins so si l₀' r').0 (meant so si r' run').1 e c h (last_step so si r run st) (last_step so si r' run' st'),
)

-- "the next ones" of (b): what is left past a mark is a rest of the join's list, which ascends
pub demand_b_rest : (so si : List ℕ) {l₀ l : Lent} {ds : List Done} → Ready so si l₀ → Runs l₀ ds l → (x y : Which) (o : Open)
    → let L = joined (setIn (image_of x l)) (setIn (image_of y l)) o.account o.kind in Ascending L × (n : ℕ) × (left (setIn (image_of x l)) (setIn (image_of y l)) o ≡ drop n L)
demand_b_rest so si {l₀ = l₀} r run outer outer o = theorem_b_rest so si (begins so si l₀ r).0 (meant so si r run).1 outer outer o
demand_b_rest so si {l₀ = l₀} r run outer inner o = theorem_b_rest so si (begins so si l₀ r).0 (meant so si r run).1 outer inner o
demand_b_rest so si {l₀ = l₀} r run inner outer o = theorem_b_rest so si (begins so si l₀ r).0 (meant so si r run).1 inner outer o
demand_b_rest so si {l₀ = l₀} r run inner inner o = theorem_b_rest so si (begins so si l₀ r).0 (meant so si r run).1 inner inner o

-- THE LIMIT of (b) is the one stored. Seat i is opened, and no call of es closes it: every round behind them hands it as many as were stored for it at its
-- opening, or all that are left if these are fewer
pub demand_b_opened : (so si : List ℕ) {l₀ l l₁ l₂ m : Lent} {ds es : List Done} {q z : Answer} → Ready so si l₀ → Runs l₀ ds l
    → (i a : ℕ) (k : Kind) (asked : ℕ) → Does l (open_seat i a k asked) q l₁ → q.shown.number ≡ 0 → Runs l₁ es l₂ → Kept i (calls_of es)
    → (x y : Which) → Does l₂ (round x y) z m → HandsUpTo (limit_asked asked) (setIn (image_of x l₂)) (setIn (image_of y l₂)) l₂ z.shown i a k
demand_b_opened so si {l₀ = l₀} {l = l} {q = q} r run i a k asked st done more kept x y rd =
    let n = (meant so si r run).0 in
    let g = good_reached so si (begins so si l₀ r).0 (meant so si r run).1 in
    let u = means so si n st g (always_valid so si r run) in
    let t = next (open_seat i a k asked) (meaning l n) in
    let on = (means_runs so si t.wrote more (rw u.0.leaves (good_next so si (open_seat i a k asked) (meaning l n) g)) u.1).0.1 in
    let s = stored so si g i a k asked u.0 done on kept in
    let o : Open = record { account = a; kind = k; limit = limit_asked asked; mark = s.1 } in
    record {
      mark = s.1;
      seat_is = s.2;
      told_count = ((demand_b so si r (runs_on run (go {d = record { call = open_seat i a k asked; told = q }} st more)) x y rd).2 i o s.0 s.2).told_count;
    }

-- who asks for limit 0 is handed eight, or all that are left if these are fewer
pub demand_b_house : (so si : List ℕ) {l₀ l l₁ l₂ m : Lent} {ds es : List Done} {q z : Answer} → Ready so si l₀ → Runs l₀ ds l
    → (i a : ℕ) (k : Kind) → Does l (open_seat i a k 0) q l₁ → q.shown.number ≡ 0 → Runs l₁ es l₂ → Kept i (calls_of es)
    → (x y : Which) → Does l₂ (round x y) z m → HandsUpTo 8 (setIn (image_of x l₂)) (setIn (image_of y l₂)) l₂ z.shown i a k
demand_b_house so si r run i a k st done more kept x y rd = demand_b_opened so si r run i a k 0 st done more kept x y rd
