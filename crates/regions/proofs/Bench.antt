-- Document 01's P1 to P12, C-17's choice, C-15's levels, C-13's limits and C-14's batch: the definitions give each answer, by computing it.
-- Assumes nothing.
use Prim.Native.Nat.{ℕ}
use mathlib.Core.Path.{◌≡◌, refl}
use mathlib.Core.Bool.{true, false}
use mathlib.Core.List.{List, [], ◌∷◌, map}
use lib.ListN.{replicate}
use Rattle.words.specs.Lists.{filter, some, all, first_no}
use Rattle.regions.specs.declared.Region.{Region}
use Rattle.regions.specs.declared.Choice.TheVariants.{WithSelf}
use Rattle.regions.specs.declared.Kind.TheVariants.{Ancestor}
use Rattle.regions.specs.declared.Mark.TheVariants.{Fresh}
use Rattle.regions.specs.Positions.{well_bound, well_formed, ends_before, contains, nested, crosses, misleveled, contradicts, spans, holds, inside, is_above}
use Rattle.regions.specs.Sets.{Set, of, is_at, starts_before, starts_behind, saved, deleted}
use Rattle.regions.specs.Numbers.{DONE, REGION, ACCOUNT, SHARE, ABSENT, LIMIT, FORM, ROOM, LEVEL}
use Rattle.regions.specs.Calls.{foreign, save_no, delete_no, point_no, ancestors, parent, bounds_no}
use Rattle.regions.specs.Items.{item, item_region, item_of, first_items, items_of, batch_no, item_no, behind, numbers_of, behind_all}
use Rattle.regions.specs.Desk.{mark_fits, state_fits, seat_fits, desk_fits, state_open, closed, open_at, limit_asked, open_seat_no}
use Rattle.regions.specs.Bench.{region, bench_set, ask, questions, answers}

pub bench : map ask questions ≡ answers
unfolding filter some first_no well_bound well_formed ends_before contains nested crosses misleveled contradicts spans holds inside is_above of is_at starts_behind foreign save_no point_no bounds_no ask
bench = refl

-- with self (C-17) at a start, an end, the first start and the last end: what starts there is listed, as the last, and what ends there is not
pub selves_told : map (λ (p : ℕ). map (λ (r : Region). r.start) (ancestors WithSelf p bench_set)) (30 ∷ 40 ∷ 10 ∷ 90 ∷ []) ≡ (10 ∷ 20 ∷ 30 ∷ []) ∷ (10 ∷ 20 ∷ []) ∷ (10 ∷ []) ∷ [] ∷ []
unfolding filter spans holds
selves_told = refl

-- a parent is always strict: of level 4 there is one at 35, and none at 30, where that one starts
pub parents_told : map (λ (p : ℕ). map (λ (r : Region). r.start) (parent p 4 bench_set)) (35 ∷ 30 ∷ []) ≡ (30 ∷ []) ∷ [] ∷ []
unfolding filter spans holds is_above
parents_told = refl

-- levels: around all four none is left to take, since 1 is the least; within (30, 40), which has 3, a 3 contradicts and a 4 does not; and around (20, 50), which has 2, a 2 does
pub levels_told : map (save_no bench_set 0) (region 5 95 1 0 ∷ region 31 39 3 0 ∷ region 31 39 4 0 ∷ region 15 55 2 0 ∷ []) ≡ LEVEL ∷ LEVEL ∷ DONE ∷ LEVEL ∷ []
unfolding filter some first_no well_bound well_formed ends_before contains nested crosses misleveled contradicts of is_at foreign save_no
levels_told = refl

-- what is stored for a limit asked: for 0 the house's, else what was asked
pub limits_stored : map limit_asked (0 ∷ 1 ∷ 8 ∷ 9 ∷ 32 ∷ []) ≡ 8 ∷ 1 ∷ 8 ∷ 9 ∷ 32 ∷ []
limits_stored = refl

-- up to 32 may be asked for
pub limits_asked : map (open_seat_no (replicate 8 closed) 0 0) (0 ∷ 8 ∷ 9 ∷ 32 ∷ 33 ∷ []) ≡ DONE ∷ DONE ∷ DONE ∷ DONE ∷ LIMIT ∷ []
unfolding all first_no state_fits desk_fits state_open open_seat_no
limits_asked = refl

-- and up to 32 may be stored, but not 0
pub limits_kept : map (λ (l : ℕ). seat_fits (open_at (record { account = 0; kind = Ancestor; limit = l; mark = Fresh }))) (0 ∷ 8 ∷ 9 ∷ 32 ∷ 33 ∷ []) ≡ false ∷ true ∷ true ∷ true ∷ false ∷ []
unfolding mark_fits state_fits
limits_kept = refl

-- A BATCH. Account 0 holds (10, 90) and has a share of 2. A save fills it, the next finds it full, a word that says neither is told FORM; a delete frees a place for a later save of the
-- same batch, however little the rest of its item is a region; then nothing starts at 20, an item's account is looked at before that, a save's region first of all
abbrev batch_set : Set
batch_set =
    record {
      shares = 2 ∷ 0 ∷ 0 ∷ 0 ∷ 0 ∷ 0 ∷ 0 ∷ 0 ∷ 0 ∷ 0 ∷ 0 ∷ 0 ∷ 0 ∷ 0 ∷ 0 ∷ 0 ∷ [];
      regions = region 10 90 1 101 ∷ [];
    }

abbrev batch_words : List ℕ
batch_words =
    0 ∷ 0 ∷ 20 ∷ 50 ∷ 2 ∷ 102 ∷
    0 ∷ 0 ∷ 60 ∷ 80 ∷ 2 ∷ 103 ∷
    2 ∷ 0 ∷ 60 ∷ 80 ∷ 2 ∷ 103 ∷
    1 ∷ 0 ∷ 20 ∷ 7 ∷ 0 ∷ 0 ∷
    0 ∷ 0 ∷ 60 ∷ 80 ∷ 2 ∷ 103 ∷
    1 ∷ 0 ∷ 20 ∷ 50 ∷ 2 ∷ 102 ∷
    1 ∷ 16 ∷ 20 ∷ 50 ∷ 2 ∷ 102 ∷
    0 ∷ 16 ∷ 50 ∷ 20 ∷ 2 ∷ 102 ∷
    []

pub batch_told : numbers_of (items_of batch_words) batch_set ≡ DONE ∷ SHARE ∷ FORM ∷ DONE ∷ DONE ∷ ABSENT ∷ ACCOUNT ∷ REGION ∷ []
unfolding filter some first_no well_bound well_formed ends_before contains nested crosses misleveled contradicts of is_at starts_before starts_behind foreign save_no delete_no saved deleted item item_region item_of first_items item_no behind numbers_of
batch_told = refl

pub batch_left : map (λ (r : Region). r.reference) (behind_all (items_of batch_words) batch_set).regions ≡ 101 ∷ 103 ∷ []
unfolding filter some first_no well_bound well_formed ends_before contains nested crosses misleveled contradicts of is_at starts_before starts_behind foreign save_no delete_no saved deleted item item_region item_of first_items behind behind_all
batch_left = refl

-- its own number, by words and places: whole items first, then a place for each; none at all are done
pub batch_numbers : map (λ (p : ℕ × ℕ). batch_no p.0 p.1) ((0, 0) ∷ (6, 0) ∷ (7, 0) ∷ (11, 9) ∷ (12, 1) ∷ (12, 2) ∷ (12, 3) ∷ []) ≡ DONE ∷ ROOM ∷ FORM ∷ FORM ∷ ROOM ∷ DONE ∷ DONE ∷ []
unfolding first_no batch_no
batch_numbers = refl
