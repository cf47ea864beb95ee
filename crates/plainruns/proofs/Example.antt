-- Document 01's examples as histories, by computing them: refusals where account 0 has a share of 4, and a seat of limit 3 that gets eight pairs in turns. And what C-14 adds to histories.
-- Assumes nothing.
use Prim.Native.Nat.{ℕ}
use mathlib.Core.Path.{◌≡◌, refl}
use mathlib.Core.Bool.{false}
use mathlib.Core.List.{List, [], ◌∷◌, ◌++◌, map, flat_map}
use lib.ListN.{replicate}
use Rattle.words.specs.Lists.{filter, some, all, last_or, first_no, sum}
use Rattle.regions.specs.declared.Region.{Region}
use Rattle.regions.specs.declared.Kind.TheVariants.{Ancestor}
use Rattle.regions.specs.Positions.{well_bound, well_formed, ends_before, contains, nested, crosses, misleveled, contradicts, spans, holds}
use Rattle.regions.specs.Sets.{empty_set, of, is_at, starts_before, starts_behind, saved, deleted}
use Rattle.regions.specs.Numbers.{DONE, REGION, ACCOUNT, HELD, CROSS, FORM, ROOM, LEVEL, SHARE, ABSENT}
use Rattle.regions.specs.Calls.{foreign, open_set_no, save_no, delete_no, choice_of, level_fits, pairs_with, pairs_of, joined}
use Rattle.regions.specs.Items.{batch_no}
use Rattle.regions.specs.Desk.{later, is_past, mark_behind, mark_fits, state_fits, desk_fits, buffer_fits, state_open, state_limit, open_seat_no, state_handed, state_turned, poured, round_no, part_no, part, closed}
use Rattle.plainruns.specs.Calls.{State, Call, Shown, looked, answer, next, Opened}
use Rattle.plainruns.specs.Calls.Which.{outer, inner}
use Rattle.plainruns.specs.Calls.Look.{no_item}
use Rattle.plainruns.specs.Calls.Call.{save, delete, look, round, open_seat, ask_part, no_batch}
use Rattle.plainruns.proofs.Demand.{after}

abbrev region : ℕ → ℕ → ℕ → ℕ → Region
region s e l n = record { start = s; end = e; level = l; reference = n }

-- account 0 alone has a share
abbrev shared : ℕ → List ℕ
shared n = n ∷ replicate 15 0

abbrev start : State
start = record { outer_set = empty_set (shared 4); inner_set = empty_set (shared 10); desk = replicate 8 closed; buffer = replicate 1024 0; wrote = replicate 1024 false }

-- a state as the theorems ask for one
pub starts : Opened (shared 4) (shared 10) start
unfolding open_set_no first_no sum
starts =
    record {
      outer_shares = refl;
      inner_shares = refl;
      outer_done = refl;
      inner_done = refl;
      outer_is = refl;
      inner_is = refl;
      desk_is = refl;
      buffer_is = refl;
      wrote_is = refl;
    }

unfoldable answers : List Call → State → List Shown
answers [] s = []
answers (c ∷ cs) s = answer c s ∷ answers cs (next c s)

abbrev outer_saves : List Call
outer_saves = save outer 0 (region 10 90 1 101) ∷ save outer 0 (region 20 50 2 102) ∷ save outer 0 (region 30 40 3 103) ∷ save outer 0 (region 60 80 2 104) ∷ []

abbrev inner_saves : List Call
inner_saves =
    save inner 0 (region 25 26 4 1) ∷
    save inner 0 (region 35 36 4 2) ∷
    save inner 0 (region 55 56 4 3) ∷
    save inner 0 (region 70 71 4 4) ∷
    save inner 0 (region 95 96 4 5) ∷
    []

-- then a held start, two that cross, one whose level contradicts (the account is full, but that is asked later), two not well formed, one above the share, one of another account; behind a delete there is room again
refusals : map (λ (x : Shown). x.number)
    (answers
    (outer_saves ++
    save outer 0 (region 30 45 1 0) ∷
    save outer 0 (region 45 55 1 0) ∷
    save outer 0 (region 50 55 1 0) ∷
    save outer 0 (region 5 95 1 0) ∷
    save outer 0 (region 7 7 1 0) ∷
    save outer 0 (region 65530 65540 1 0) ∷
    save outer 0 (region 91 95 1 0) ∷
    save outer 1 (region 91 95 1 0) ∷
    delete outer 0 30 ∷
    save outer 0 (region 91 95 1 0) ∷
    delete outer 0 30 ∷
    []) start)
    ≡ DONE ∷ DONE ∷ DONE ∷ DONE ∷ HELD ∷ CROSS ∷ CROSS ∷ LEVEL ∷ REGION ∷ REGION ∷ SHARE ∷ ACCOUNT ∷ DONE ∷ DONE ∷ ABSENT ∷ []
unfolding answers answer next filter some first_no well_bound well_formed ends_before contains nested crosses misleveled contradicts of is_at starts_before starts_behind saved deleted foreign save_no delete_no
refusals = refl

-- an item that is neither save nor delete; batches of seven words, and of two items with one place, which stays
neither : map {B = ℕ × List ℕ} (λ (x : Shown). (x.number, x.words)) (answers (look 0 (no_item outer 2) ∷ no_batch outer (replicate 7 0) [] ∷ no_batch outer (replicate 12 0) (9 ∷ []) ∷ []) start) ≡ (FORM, []) ∷ (FORM, []) ∷ (ROOM, 9 ∷ []) ∷ []
unfolding answers looked answer next first_no batch_no
neither = refl

-- eight pairs, and a seat at limit 3
abbrev seated : List Call
seated = outer_saves ++ (inner_saves ++ open_seat 1 0 Ancestor 3 ∷ [])

turns : map (λ (x : Shown). x.counts) (answers (round outer inner ∷ round outer inner ∷ round outer inner ∷ round outer inner ∷ []) (after seated start))
    ≡ (0 ∷ 3 ∷ 0 ∷ 0 ∷ 0 ∷ 0 ∷ 0 ∷ 0 ∷ []) ∷
    (0 ∷ 3 ∷ 0 ∷ 0 ∷ 0 ∷ 0 ∷ 0 ∷ 0 ∷ []) ∷
    (0 ∷ 2 ∷ 0 ∷ 0 ∷ 0 ∷ 0 ∷ 0 ∷ 0 ∷ []) ∷
    (0 ∷ 0 ∷ 0 ∷ 0 ∷ 0 ∷ 0 ∷ 0 ∷ 0 ∷ []) ∷
    []
unfolding answers answer next filter some all last_or first_no flat_map well_bound well_formed ends_before contains nested crosses misleveled contradicts spans holds of is_at starts_before starts_behind saved foreign save_no choice_of level_fits pairs_with pairs_of joined later is_past mark_behind mark_fits state_fits desk_fits buffer_fits state_open open_seat_no state_handed state_turned poured round_no
turns = refl

-- two pairs of its part behind the second round
parts : map (λ (x : Shown). x.words) (answers (ask_part 1 2 ∷ []) (after (seated ++ round outer inner ∷ round outer inner ∷ []) start))
    ≡ (20 ∷ 102 ∷ 35 ∷ 2 ∷ 30 ∷ 103 ∷ 35 ∷ 2 ∷ []) ∷ []
unfolding answers answer next filter some all last_or first_no flat_map well_bound well_formed ends_before contains nested crosses misleveled contradicts spans holds of is_at starts_before starts_behind saved foreign save_no choice_of level_fits pairs_with pairs_of joined later is_past mark_behind mark_fits state_fits desk_fits buffer_fits state_open state_limit open_seat_no state_handed state_turned poured round_no part_no part
parts = refl
