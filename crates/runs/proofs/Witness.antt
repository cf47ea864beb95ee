-- The theorems on runs are not empty: here is a beginning and a run, by computing them. A region is saved, found around a position, and deleted again, all by single calls; then a batch does as much.
-- Assumes nothing.
use Prim.Native.Nat.{ℕ, suc, ◌+◌, ◌-◌, ◌*◌, ◌<◌, ◌≤◌}
use mathlib.Core.Path.{◌≡◌, refl, sym, ap, ◌∙◌}
use mathlib.Core.Bool.{true, false, not}
use mathlib.Core.List.{List, [], ◌∷◌, flat_map}
use lib.Dec.{leb}
use lib.ListN.{length, get_or, replicate, length-replicate}
use lib.Seq.{sets}
use native.Mathlib.Omega.{arith}
use Rattle.words.specs.Lists.{filter, some, all, all_pairs, sum, first_no}
use Rattle.words.proofs.Tests.{eq_yes}
use Rattle.words.proofs.Written.{sets_above}
use Rattle.regions.specs.declared.Region.{Region}
use Rattle.regions.specs.declared.Choice.TheVariants.{Strict}
use Rattle.regions.specs.Positions.{well_bound, well_formed, spans, holds}
use Rattle.regions.specs.Sets.{empty_set, of, is_at, saved, deleted}
use Rattle.regions.specs.Calls.{foreign, save_no, delete_no, point_no, written}
use Rattle.regions.specs.Items.{item, item_region, item_of, first_items, batch_no}
use Rattle.regions.specs.Items.Item.{unknown_item}
use Rattle.xrtree.specs.Tree.{Leaf, Tree, listed}
use Rattle.xrtree.specs.Rules.{filled, first_place, linked, rule1, rule2, none_stabs, page_lists, flagged, rule3, rule4, rule5, shares_kept, rule6, placed}
use Rattle.xrtree.specs.Search.{steps}
use Rattle.pages.specs.Layout.{shares_of, page_of, page_used, record_used}
use Rattle.pages.proofs.Placed.{page_word_at, record_word_at}
use Rattle.image.specs.Read.{entries_from, read_tree, depth_of, tree_of, set_of}
use Rattle.image.specs.Valid.{sized, rule7, tree_rules, valid}
use Rattle.index.specs.Opening.{opened_image}
use Rattle.index.specs.Changes.{Saves, Deletes}
use Rattle.index.specs.Batches.{Batches}
use Rattle.index.specs.Batches.Singly.{none, then}
use Rattle.queries.specs.Searches.{FindsAncestors}
use Rattle.index.proofs.Opened.{open_done}
use Rattle.index.proofs.Empty.{none_placed, one_placed, opened_word, opened_set, opened_valid}
use Rattle.plainruns.specs.Calls.{Done}
use Rattle.plainruns.specs.Calls.Which.{outer}
use Rattle.plainruns.specs.Calls.Look.{ancestor_search, no_item}
use Rattle.plainruns.specs.Calls.Call.{save, delete, look}
use Rattle.runs.specs.Calls.{Runs, Ready, tells}
use Rattle.runs.specs.Calls.Does.{saves, deletes, finds_ancestors}
use Rattle.runs.specs.Calls.Runs.{stop, go, batch}
use Rattle.runs.proofs.Alone.{beside, ready}

-- account 0 has a share of 2; the region
abbrev pub given : List ℕ
given = 2 ∷ replicate 15 0

abbrev pub phase : Region
phase = record { start = 10; end = 90; level = 1; reference = 101 }

-- THE IMAGES: just opened; and with the region in its one leaf: fill 1, no next leaf, the entry's four words and flag 0
abbrev pub opened : List ℕ
opened = opened_image given

abbrev leaf_words : List ℕ
leaf_words = 1 ∷ 0 ∷ 10 ∷ 90 ∷ 1 ∷ 101 ∷ 0 ∷ []

abbrev pub holding : List ℕ
holding = sets opened 58 leaf_words

abbrev leaf : Leaf
leaf = record { place = 1; next = 0; entries = record { region = phase; flag = 0 } ∷ [] }

holding_long : length holding ≡ 12288
unfolding opened_image
holding_long = refl

head : (get_or holding 0 0 ≡ 1) × (get_or holding 1 0 ≡ 1)
unfolding opened_image
head = (refl, refl)

-- no word behind the leaf's has changed
word_free : (j : ℕ) → 65 ≤ j → get_or holding j 0 ≡ 0
word_free j h =
    let e : j ≡ suc (suc (j - 2)) = omega arith in
    sets_above leaf_words opened 58 j 0 (omega arith) ∙ ap (λ n. get_or opened n 0) e ∙ opened_word given refl (j - 2) (omega arith) (λ z. omega arith)

page_free : (q : ℕ) → 1 < q → q ≤ 160 → page_used holding q ≡ false
unfolding page_used
page_free q a b = ap not (eq_yes _ 0 (page_word_at holding q 0 (omega arith) ∙ word_free (57 * q + 0) (omega arith)))

record_free : (q : ℕ) → 1 ≤ q → q ≤ 500 → record_used holding q ≡ false
unfolding record_used
record_free q a b = ap not (eq_yes _ 0 (record_word_at holding q 1 (omega arith) ∙ word_free (9177 + 6 * q + 1) (omega arith)))

leaf_used : page_used holding 1 ≡ true
unfolding opened_image page_used page_of
leaf_used = refl

holding_rule7 : rule7 holding 0 leaf ≡ true
unfolding rule7 placed listed all
holding_rule7 = rw (one_placed (page_used holding) 160 leaf_used page_free, none_placed (record_used holding) 500 record_free)

holding_set : set_of holding ≡ record { shares = given; regions = phase ∷ [] }
unfolding opened_image set_of shares_of read_tree entries_from page_of listed
holding_set = refl

one_rule6 : rule6 (record { shares = given; regions = phase ∷ [] }) ≡ true
unfolding rule6 shares_kept filter all all_pairs sum well_formed well_bound of
one_rule6 = refl

leaf_rules : tree_rules 0 leaf ≡ true
unfolding tree_rules rule1 rule2 rule3 rule4 rule5 filled linked first_place listed all_pairs all page_lists flagged none_stabs
leaf_rules = refl

-- whatever is said of the image's tree is said of the leaf
at_leaf_lem : (P : (h : ℕ) → Tree h → Type 0) → P 0 leaf → P (depth_of holding) (tree_of holding)
unfolding opened_image read_tree entries_from page_of
at_leaf_lem P b = b

pub holding_valid : valid holding ≡ true
unfolding valid sized
holding_valid =
    rw (
      eq_yes (length holding) 12288 holding_long,
      at_leaf_lem (λ h t. tree_rules h t ≡ true) leaf_rules,
      ap rule6 holding_set ∙ one_rule6,
      at_leaf_lem (λ h t. rule7 holding h t ≡ true) holding_rule7,
      head.1,
    )

opened_valid_here : valid opened ≡ true
unfolding sum
opened_valid_here = opened_valid given refl (omega arith)

opened_set_here : set_of opened ≡ empty_set given
opened_set_here = opened_set given refl

-- THE CALLS, each by its record: it is saved, and not a second time, since it is held; it is deleted
saved_phase : saved phase (empty_set given) ≡ record { shares = given; regions = phase ∷ [] }
unfolding saved filter
saved_phase = refl

save_number : save_no (empty_set given) 0 phase ≡ 0
unfolding save_no first_no foreign filter some well_formed well_bound
save_number = refl

saves_phase : Saves opened 0 phase 0 holding
saves_phase =
    record {
      number_is = rw (opened_valid_here, opened_set_here) (sym save_number);
      refused = λ n. absurd (n refl);
      done = λ z. (holding_valid, holding_set ∙ sym (ap (saved phase) opened_set_here ∙ saved_phase));
    }

again_number : save_no (record { shares = given; regions = phase ∷ [] }) 0 phase ≡ 4
unfolding save_no first_no foreign filter some well_formed well_bound is_at
again_number = refl

saves_again : Saves holding 0 phase 4 holding
saves_again = record { number_is = rw (holding_valid, holding_set) (sym again_number); refused = λ n. refl; done = λ z. absurd (omega arith) }

delete_number : delete_no (record { shares = given; regions = phase ∷ [] }) 0 10 ≡ 0
unfolding delete_no first_no foreign filter some is_at
delete_number = refl

deleted_phase : deleted 10 (record { shares = given; regions = phase ∷ [] }) ≡ empty_set given
unfolding deleted filter is_at
deleted_phase = refl

deletes_phase : Deletes holding 0 10 0 opened
deletes_phase =
    record {
      number_is = rw (holding_valid, holding_set) (sym delete_number);
      refused = λ n. absurd (n refl);
      done = λ z. (opened_valid_here, opened_set_here ∙ sym (ap (deleted 10) holding_set ∙ deleted_phase));
    }

-- FOUND around position 50, with room for one region: four words, one step
abbrev pub found : List ℕ
found = 10 ∷ 90 ∷ 1 ∷ 101 ∷ []

finds_phase : FindsAncestors holding 0 50 Strict (replicate 4 0) 0 1 1 found
unfolding point_no first_no foreign filter spans holds written steps flat_map
finds_phase =
    record {
      number_is = rw holding_valid;
      refused = λ n. absurd (n refl);
      done = λ z. (rw holding_set, at_leaf_lem (λ h t. 1 ≡ steps h Strict 50 t) refl, rw holding_set refl);
    }

-- THE BATCH: the region is saved, and not a second time; an item that is neither save nor delete; the region is deleted. The fifth place stays
abbrev pub items : List ℕ
items = 0 ∷ 0 ∷ 10 ∷ 90 ∷ 1 ∷ 101 ∷ 0 ∷ 0 ∷ 10 ∷ 90 ∷ 1 ∷ 101 ∷ 2 ∷ 0 ∷ 10 ∷ 90 ∷ 1 ∷ 101 ∷ 1 ∷ 0 ∷ 10 ∷ 0 ∷ 0 ∷ 0 ∷ []

abbrev pub places : List ℕ
places = 9 ∷ 9 ∷ 9 ∷ 9 ∷ 9 ∷ []

batches_phase : Batches opened items places 0 opened (0 ∷ 4 ∷ 12 ∷ 0 ∷ 9 ∷ [])
unfolding batch_no first_no first_items item_of item_region item
batches_phase =
    record {
      number_is = rw opened_valid_here;
      refused = λ n. absurd (n refl);
      done = λ z. (0 ∷ 4 ∷ 12 ∷ 0 ∷ [], then saves_phase (then saves_again (then {i = unknown_item 0 2} (refl, refl) (then deletes_phase none))), refl);
    }

-- THE RUN
given_sum : leb (sum given) 500 ≡ true
unfolding sum
given_sum = refl

pub begins : Ready given given (beside opened opened)
begins = ready given opened (record { lent = replicate 12288 0; sixteen = refl; opens = open_done (replicate 12288 0) opened given (length-replicate {A = ℕ} 12288 0) given_sum refl })

abbrev pub history : List Done
history =
    record { call = save outer 0 phase; told = tells 0 0 false [] [] 0 } ∷
    record { call = look 0 (ancestor_search outer 50 Strict (replicate 4 0)); told = tells 0 1 false [] found 1 } ∷
    record { call = save outer 0 phase; told = tells 4 0 false [] [] 0 } ∷
    record { call = delete outer 0 10; told = tells 0 0 false [] [] 0 } ∷
    record { call = save outer 0 phase; told = tells 0 0 false [] [] 0 } ∷
    record { call = save outer 0 phase; told = tells 4 0 false [] [] 0 } ∷
    record { call = look 0 (no_item outer 2); told = tells 12 0 false [] [] 0 } ∷
    record { call = delete outer 0 10; told = tells 0 0 false [] [] 0 } ∷
    []

pub runs_so : Runs (beside opened opened) history (beside opened opened)
unfolding first_items item_of item_region item
runs_so = go (saves outer saves_phase) (go (finds_ancestors outer finds_phase) (go (saves outer saves_again) (go (deletes outer deletes_phase) (batch outer batches_phase stop))))
