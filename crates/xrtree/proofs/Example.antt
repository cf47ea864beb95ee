-- The rules can be met: a tree of height 2 with forty regions keeps every one, by computation. The searches on it find what they must, in as many steps as counted by hand.
-- Assumes nothing.
use Prim.Native.Nat.{ℕ}
use mathlib.Core.Path.{◌≡◌, refl}
use mathlib.Core.Bool.{true}
use mathlib.Core.List.{List, [], ◌∷◌, map}
use lib.Dec.{leb, ltb}
use Rattle.words.specs.Lists.{filter, take_while, all, all_pairs, count, sum}
use Rattle.words.proofs.Tests.{T_of}
use Rattle.words.proofs.Says.{lt_says, all_says}
use Rattle.regions.specs.Positions.{well_bound, well_formed, ends_before, contains, nested, misleveled, contradicts, leveled, stabs, spans, holds}
use Rattle.regions.specs.Sets.{Set, of}
use Rattle.regions.specs.declared.Region.{Region}
use Rattle.regions.specs.declared.Choice.TheVariants.{Strict, WithSelf}
use Rattle.xrtree.specs.Tree.{Entry, Key, Tree, weave, listed, keys_in, stab_list, all_kids, regions, keys_of, page_places, record_places}
use Rattle.xrtree.specs.Rules.{filled_below, filled, first_place, linked, starts_first, rule1, separates, rule2, none_stabs, same_region, same_regions, page_lists, flagged, rule3, own_lists, rule4, pair_right, pairs_right, rule5, shares_kept, rule6, once_or_free, placed}
use Rattle.xrtree.specs.Search.{run, looks, cost, find_kids, steps_kids, holds_free, find, steps}
use Rattle.xrtree.specs.Claims.{leaf_at, page_at, Good}
use Rattle.xrtree.proofs.Rules.{rules_good}

abbrev reg : ℕ → ℕ → ℕ → ℕ → Region
reg s e l n = record { start = s; end = e; level = l; reference = n }

abbrev ent : Region → ℕ → Entry
ent r f = record { region = r; flag = f }

abbrev keyed : ℕ → ℕ → ℕ → List ℕ → List Region → Key
keyed k s e ps l = record { key = k; pair_start = s; pair_end = e; places = ps; list = l }

-- ten leaves of four entries at places 1 to 10, two inner pages, the root. Key 290 is a start; regions 10 and 20 stand at the root's key, and key 329 is the smallest of two that stab region 300
abbrev west : Tree 1
west =
    page_at 11 (
    (leaf_at 1 2 (ent (reg 10 990 1 101) 1 ∷ ent (reg 20 398 2 102) 1 ∷ ent (reg 30 98 3 103) 1 ∷ ent (reg 40 58 4 104) 1 ∷ []), keyed 49 30 98 (3 ∷ 4 ∷ []) (reg 30 98 3 103 ∷ reg 40 58 4 104 ∷ [])) ∷
    (leaf_at 2 3 (ent (reg 50 55 5 105) 0 ∷ ent (reg 60 65 4 106) 0 ∷ ent (reg 70 75 4 107) 0 ∷ ent (reg 80 85 4 108) 0 ∷ []), keyed 89 0 0 ([]) ([])) ∷
    (leaf_at 3 4 (ent (reg 90 95 4 109) 0 ∷ ent (reg 100 105 3 110) 0 ∷ ent (reg 110 115 3 111) 0 ∷ ent (reg 120 125 3 112) 0 ∷ []), keyed 129 0 0 ([]) ([])) ∷
    (leaf_at 4 5 (ent (reg 130 135 3 113) 0 ∷ ent (reg 140 145 3 114) 0 ∷ ent (reg 150 155 3 115) 0 ∷ ent (reg 160 165 3 116) 0 ∷ []), keyed 169 0 0 ([]) ([])) ∷
    []) (leaf_at 5 6 (ent (reg 170 175 3 117) 0 ∷ ent (reg 180 185 3 118) 0 ∷ ent (reg 190 195 3 119) 0 ∷ ent (reg 200 205 3 120) 0 ∷ []))

abbrev east : Tree 1
east =
    page_at 12 (
    (leaf_at 6 7 (ent (reg 210 215 3 121) 0 ∷ ent (reg 220 378 3 122) 1 ∷ ent (reg 230 235 4 123) 0 ∷ ent (reg 240 245 4 124) 0 ∷ []), keyed 249 220 378 (5 ∷ []) (reg 220 378 3 122 ∷ [])) ∷
    (leaf_at 7 8 (ent (reg 250 255 4 125) 0 ∷ ent (reg 260 265 4 126) 0 ∷ ent (reg 270 275 4 127) 0 ∷ ent (reg 280 285 4 128) 0 ∷ []), keyed 290 290 295 (6 ∷ []) (reg 290 295 4 129 ∷ [])) ∷
    (leaf_at 8 9 (ent (reg 290 295 4 129) 1 ∷ ent (reg 300 369 4 130) 1 ∷ ent (reg 310 315 5 131) 0 ∷ ent (reg 320 325 5 132) 0 ∷ []), keyed 329 300 369 (7 ∷ []) (reg 300 369 4 130 ∷ [])) ∷
    (leaf_at 9 10 (ent (reg 330 335 5 133) 0 ∷ ent (reg 340 345 5 134) 0 ∷ ent (reg 350 355 5 135) 0 ∷ ent (reg 360 365 5 136) 0 ∷ []), keyed 369 0 0 ([]) ([])) ∷
    []) (leaf_at 10 0 (ent (reg 370 375 4 137) 0 ∷ ent (reg 380 385 3 138) 0 ∷ ent (reg 390 395 3 139) 0 ∷ ent (reg 400 405 2 140) 0 ∷ []))

abbrev sample : Tree 2
sample = page_at 13 ((west, keyed 209 10 990 (1 ∷ 2 ∷ []) (reg 10 990 1 101 ∷ reg 20 398 2 102 ∷ [])) ∷ []) east

-- EVERY RULE
sample_1 : rule1 2 sample ≡ true
unfolding rule1 filled filled_below all_kids linked first_place all_pairs all starts_first listed weave
sample_1 = refl

sample_2 : rule2 2 sample ≡ true
unfolding rule2 separates all_pairs all listed weave
sample_2 = refl

sample_3 : rule3 2 sample ≡ true
unfolding rule3 page_lists same_regions same_region stab_list keys_in all_kids flagged none_stabs filter stabs all listed weave
sample_3 = refl

sample_4 : rule4 2 sample ≡ true
unfolding rule4 own_lists same_regions same_region stab_list all_kids none_stabs filter stabs all
sample_4 = refl

sample_5 : rule5 2 sample ≡ true
unfolding rule5 pairs_right pair_right all_kids
sample_5 = refl

abbrev sample_set : Set
sample_set = record { shares = 40 ∷ 0 ∷ 0 ∷ 0 ∷ 0 ∷ 0 ∷ 0 ∷ 0 ∷ 0 ∷ 0 ∷ 0 ∷ 0 ∷ 0 ∷ 0 ∷ 0 ∷ 0 ∷ []; regions = regions 2 sample }

sample_6 : rule6 sample_set ≡ true
unfolding rule6 well_formed well_bound nested ends_before contains misleveled contradicts leveled shares_kept of filter sum all_pairs all listed weave
sample_6 = refl

-- page places 1 to 13 and record places 1 to 7 used, those up to 15 and 10 free
sample_7 : placed (λ p. leb p 13) 15 (page_places 2 sample) ≡ true
unfolding placed once_or_free count all listed weave
sample_7 = refl

sample_8 : placed (λ p. leb p 7) 10 (record_places 2 sample) ≡ true
unfolding placed once_or_free count all listed weave
sample_8 = refl

-- SO THE PREMISES OF `rules_good` CAN BE MET, and it is good
parts_1 : (filled 2 sample ≡ true) × (all_pairs starts_first (regions 2 sample) ≡ true)
unfolding filled filled_below all_kids all_pairs all starts_first listed weave
parts_1 = (refl, refl)

parts_6 : (all well_formed (regions 2 sample) ≡ true) × (all_pairs nested (regions 2 sample) ≡ true)
unfolding well_formed well_bound nested ends_before contains all_pairs all listed weave
parts_6 = (refl, refl)

low : (all (λ k. ltb k 65536) (keys_of 2 sample) ≡ true) × (all (λ (r : Region). ltb r.end 65536) (regions 2 sample) ≡ true)
unfolding all listed weave
low = (refl, refl)

sample_good : Good 65536 2 sample
sample_good =
    rules_good 65536 2 sample ((all_says (λ k. lt_says k 65536) (keys_of 2 sample)).yes_so (T_of low.0))
    ((all_says (λ (r : Region). lt_says r.end 65536) (regions 2 sample)).yes_so (T_of low.1)) (T_of parts_1.0) (T_of parts_6.0)
    (record { ascend = T_of parts_1.1; second = T_of sample_2; third = T_of sample_3; fourth = T_of sample_4; fifth = T_of sample_5; nest = T_of parts_6.1 })

-- SEARCHES: at 312 what the root's key and keys 249 and 329 give, and the leaf entry 310; three pages, two records at the root's key, one at 249 and one at 329
found_312 : map (λ (r : Region). r.start) (find 2 Strict 312 sample) ≡ 10 ∷ 20 ∷ 220 ∷ 300 ∷ 310 ∷ []
unfolding find find_kids holds_free run filter take_while spans holds
found_312 = refl

steps_312 : steps 2 Strict 312 sample ≡ 7
unfolding steps steps_kids cost looks spans holds
steps_312 = refl

-- at 52 the lists of the root's key and of key 49, and the leaf entry 50
found_52 : map (λ (r : Region). r.start) (find 2 Strict 52 sample) ≡ 10 ∷ 20 ∷ 30 ∷ 40 ∷ 50 ∷ []
unfolding find find_kids holds_free run filter take_while spans holds
found_52 = refl

steps_52 : steps 2 Strict 52 sample ≡ 7
unfolding steps steps_kids cost looks spans holds
steps_52 = refl

-- at 10 nothing: the start of a region is not inside it
found_10 : find 2 Strict 10 sample ≡ []
unfolding find find_kids holds_free run filter take_while spans holds
found_10 = refl

-- but with self it is: the first of the root's list, whose second record ends the walk; three pages
found_self_10 : map (λ (r : Region). r.start) (find 2 WithSelf 10 sample) ≡ 10 ∷ []
unfolding find find_kids holds_free run filter take_while spans holds
found_self_10 = refl

steps_self_10 : steps 2 WithSelf 10 sample ≡ 5
unfolding steps steps_kids cost looks spans holds
steps_self_10 = refl

-- at 310, a leaf entry in no list, and at 300, which stands first in the list of a key of the page below the root
found_self : (map (λ (r : Region). r.start) (find 2 WithSelf 310 sample) ≡ 10 ∷ 20 ∷ 220 ∷ 300 ∷ 310 ∷ []) × (map (λ (r : Region). r.start) (find 2 WithSelf 300 sample) ≡ 10 ∷ 20 ∷ 220 ∷ 300 ∷ [])
unfolding find find_kids holds_free run filter take_while spans holds
found_self = (refl, refl)
